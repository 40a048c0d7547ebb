-- What is true of what lines ask for.
use Rattle.std.proofs.Common.{◌≡◌, ℕ, ◌+◌, ◌≤◌, ◌==◌, List, [], ◌∷◌, length, Bool, true, false, All, Option, None, Some, Ok, Err, Result, refl, subst}
use Rattle.std.specs.Prelude.{if◌then◌else◌}
use Rattle.std.proofs.lemmas.List.Elements.{All-cons, All-nil}
use Rattle.fill_records.specs.Records.{field_of}
use Rattle.fill_tree.specs.declared.user.Edit.TheVariants.{Add, Correct, Retract, Clear}
use Rattle.fill_script.specs.Line.{is_text}
use Rattle.fill_script.specs.Opening.{onward}
use Rattle.fill_script.specs.Entries.{IsEntry, alone, before, best_in, best_of, entries_from, entry_at, entry_in, question_in, row_in, row_text_in, understood}
use Rattle.fill_script.specs.declared.error.ScriptError.{ScriptError}
use Rattle.fill_script.specs.declared.error.ScriptError.TheVariants as error
use Rattle.fill_script.specs.declared.script.Entry.{Entry}
use Rattle.fill_script.specs.declared.script.Entry.TheVariants as entry
use Rattle.fill_numbers.proofs.Spelled.{if_some, map_some, number-within}

-- what a further step was made from
pub onward_ok : {A B : Type 0} (f : A → Result B ScriptError) (r : Result A ScriptError) (y : B) → onward f r ≡ Ok y → (x : A) × (r ≡ Ok x) × (f x ≡ Ok y)
onward_ok f (Ok x) y is = (x, refl, is)
onward_ok f (Err e) y is = cc

pub ok_same : {A : Type 0} (x y : A) → (let r : Result A ScriptError = Ok x in r ≡ Ok y) → x ≡ y
ok_same x y is = cc

alone-proper : (f : Entry) (line : List (List ℕ)) (e : Entry) → IsEntry f → alone f line ≡ Some e → IsEntry e
alone-proper f line e proper is =
    let some : Some f ≡ Some e = (if_some (length line == 1) (Some f) e is).1 in
    let same : f ≡ e = cc in
    subst IsEntry same proper

best_of-proper : (branch k : Option ℕ) (e : Entry) → ((n : ℕ) → k ≡ Some n → (1 ≤ n) × (n ≤ 20)) → best_of branch k ≡ Some e → IsEntry e
best_of-proper None k e few is = cc
best_of-proper (Some branch) None e few is = cc
best_of-proper (Some branch) (Some k) e few is = let same : entry.Best branch k ≡ e = cc in subst IsEntry same (few k refl)

best-proper : (line : List (List ℕ)) (e : Entry) → best_in line ≡ Some e → IsEntry e
best-proper line e is = best_of-proper _ _ e (number-within 1 20 (field_of 3 line)) (if_some (length line == 3) _ e is).1

nothing : (e : Entry) → None ≡ Some e → IsEntry e
nothing e is = cc

either : (b : Bool) (x y : Option Entry) (e : Entry) → (x ≡ Some e → IsEntry e) → (y ≡ Some e → IsEntry e) → (if b then x else y) ≡ Some e → IsEntry e
either true x y e here there is = here is
either false x y e here there is = there is

question-proper : (line : List (List ℕ)) (e : Entry) → question_in line ≡ Some e → IsEntry e
question-proper line e =
    either _ _ _ e (alone-proper entry.Programs line e tt) (either _ _ _ e (alone-proper entry.Switch line e tt) (either _ _ _ e (alone-proper entry.Fill line e tt)
    (either _ _ _ e (alone-proper entry.Count line e tt)
    (either _ _ _ e (λ is. let found = map_some entry.Answer (row_in line) e is in subst IsEntry found.2 tt)
    (either _ _ _ e (λ is. let found = map_some entry.Object (row_in line) e is in subst IsEntry found.2 tt)
    (either _ _ _ e (best-proper line e) (nothing e)))))))

entry-proper : (line : List (List ℕ)) (e : Entry) → entry_in line ≡ Some e → IsEntry e
entry-proper line e =
    either _ _ _ e (λ is. let found = map_some (λ given. entry.Edit (Add given.0 given.1)) (row_text_in line) e is in subst IsEntry found.2 tt)
    (either _ _ _ e (λ is. let found = map_some (λ given. entry.Edit (Correct given.0 given.1)) (row_text_in line) e is in subst IsEntry found.2 tt)
    (either _ _ _ e (λ is. let found = map_some (λ row. entry.Edit (Retract row)) (row_in line) e is in subst IsEntry found.2 tt)
    (either _ _ _ e (alone-proper (entry.Edit Clear) line e tt)
    (either _ _ _ e (alone-proper entry.Undo line e tt) (either _ _ _ e (alone-proper entry.Redo line e tt) (question-proper line e))))))

understood-proper : (number : ℕ) (o : Option Entry) (e : Entry) → ((f : Entry) → o ≡ Some f → IsEntry f) → understood number o ≡ Ok e → IsEntry e
understood-proper number None e proper is = cc
understood-proper number (Some f) e proper is = subst IsEntry (ok_same f e is) (proper f refl)

entry_at-proper : (number : ℕ) (line : List (List ℕ)) (e : Entry) → entry_at number line ≡ Ok e → IsEntry e
entry_at-proper number line e is =
    elim (is_text line) as (λ b. (if b then understood number (entry_in line) else Err (error.NotUtf8 number)) ≡ Ok e → IsEntry e) [
      | true ↦ λ found. understood-proper number (entry_in line) e (entry-proper line) found
      | false ↦ λ no. cc
    ] is

-- what lines ask for
pub entries-proper : (number : ℕ) (lines : List (List (List ℕ))) (es : List Entry) → entries_from number lines ≡ Ok es → All IsEntry es
entries-proper number [] es is = subst (All IsEntry) (ok_same [] es is) (All-nil IsEntry)
entries-proper number (line ∷ more) es is =
    let first = onward_ok (λ e. onward (before e) (entries_from (number + 1) more)) (entry_at number line) es is in
    let rest = onward_ok (before first.0) (entries_from (number + 1) more) es first.2 in
    subst (All IsEntry) (ok_same (first.0 ∷ rest.0) es rest.2)
    (All-cons IsEntry first.0 rest.0 (entry_at-proper number line first.0 first.1) (entries-proper (number + 1) more rest.0 rest.1))
