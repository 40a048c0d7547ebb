-- What undo and redo leave: one thing at most, and the one record of it.
use Rattle.std.proofs.Common.{◌≡◌, ◌≤◌, ℕ, List, [], ◌∷◌, Bool, true, false, Option, None, Some, Result, Ok, IfOk, inl, inr, sym, ap, ◌∙◌, refl, arith}
use Rattle.std.proofs.lemmas.Bool.{false≢true}
use Rattle.std.specs.Option.{is_some}
use Rattle.std.specs.Prelude.{◌↔◌, IsTrue, not}
use Rattle.fill_text.specs.declared.error.NoMemory.{NoMemory}
use Rattle.fill_undo.specs.declared.done.Done.{Done}
use Rattle.fill_space.specs.declared.ground.Ground.{Ground}
use Rattle.fill_session.specs.Timeline.{Timeline}
use Rattle.fill_session.proofs.GoingBack.{redo_is_one, undo_is_one}
use Rattle.fill_report.specs.Entries.{GoesTo, MoveWrites, TaskBegins, missing, moved}
use Rattle.fill_report.specs.Output.{Leaves}
use Rattle.fill_output.specs.Fields.{Fields}
use Rattle.fill_report.specs.Records.{move_record}
use Rattle.fill_report.specs.Runs.{Written}
use Rattle.fill_report.specs.Tasks.{go}
use Rattle.fill_report.specs.Writing.{LeavesOne}
use Rattle.fill_output.specs.declared.halt.Halt.{Halt}
use Rattle.fill_report.specs.declared.tasks.Way.{Way}
use Rattle.fill_report.specs.declared.tasks.Way.TheVariants as way
use Rattle.fill_report.proofs.Leaving.{leaves_one, made_so, none_refused, one_refused}

moves_are_one : (to : Way) (t : Timeline) (o p : Option Done) (a b : Timeline) → GoesTo to t o a → GoesTo to t p b → (o ≡ p) × (a ≡ b)
moves_are_one way.Back t o p a b h k = undo_is_one t a b o p h k
moves_are_one way.Forth t o p a b h k = redo_is_one t a b o p h k

pub move_writes_one : (to : Way) (t : Timeline) (w v : Written) (a b : Timeline) → MoveWrites to t w a → MoveWrites to t v b → (w ≡ v) × (a ≡ b)
move_writes_one to t w v a b h k =
    let same = moves_are_one to t h.0 k.0 a b h.1 k.1 in
    (h.2 ∙ ap (moved to) same.0 ∙ sym k.2, same.1)

-- none there is one refusal
count_missing : (o : Option Done) (flag : Bool) → is_some o ≡ not flag → IsTrue flag ↔ (1 ≤ missing o)
count_missing None true is = one_refused true refl
count_missing None false is = absurd (false≢true is)
count_missing (Some d) true is = absurd (false≢true (sym is))
count_missing (Some d) false is = none_refused false refl

-- the one record of a move was to be written
pub move_left : (g : Ground) (to : Way) (t next : Timeline) (o : Option Done) (flag : Bool) (made : Result Fields NoMemory) (r : Result Bool Halt) (old new : Option (List ℕ))
    → GoesTo to t o next → is_some o ≡ not flag → IfOk made (λ m. m ≡ move_record to o) → LeavesOne made flag r old new
    → Leaves (λ w. MoveWrites to t w next) (TaskBegins g t (go to)) r old new 0 0
move_left g to t next o flag made r old new is none h l =
    let one : Fields → Written = λ (fields : Fields). record { records = fields ∷ []; refused = missing o; term = 0 } in
    let writes : (fields : Fields) → made ≡ Ok fields → MoveWrites to t (one fields) next =
    λ fields m. (o, is, ap one (made_so made (λ f. f ≡ move_record to o) h fields m)) in
    leaves_one (λ w. MoveWrites to t w next) (TaskBegins g t (go to)) old new 0 0 0 (omega arith) (inl refl) made flag (missing o) r writes
    (λ fields m. inr (one fields, 1, (next, writes fields m), refl)) (count_missing o flag none) l
