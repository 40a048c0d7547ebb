-- A case, part by part.
use Rattle.std.proofs.Common.{◌≡◌, ℕ, List, ◌++◌, codes, Result, Ok, Err, append_assoc}
use Rattle.std.specs.Result.{OnOk}
use Rattle.fill_tree.specs.Switch.{CaseTree}
use Rattle.fill_print.specs.Notation.{case_text, guard_text, program_text}

pub case_step : {T E : Type 0} (r : Result T E) (to one two three four : List ℕ) (c : CaseTree) → one ≡ to ++ guard_text c.guard → two ≡ one ++ codes "=>" → three ≡ two ++ program_text c.program
    → OnOk r (four ≡ three ++ codes ";") → OnOk r (four ≡ to ++ case_text c)
case_step (Ok x) to one two three four c e1 e2 e3 h =
    let seam : ((((to ++ guard_text c.guard) ++ codes "=>") ++ program_text c.program) ++ codes ";") ≡ to ++ case_text c = simp append_assoc in
    rw (h, e3, e2, e1) seam
case_step (Err e) to one two three four c e1 e2 e3 h = h
