-- What the writing of an edit's record leaves.
use Rattle.std.proofs.Common.{◌≡◌, ℕ, ◌+◌, ◌≤◌, List, [], ◌∷◌, Bool, true, false, Option, None, Some, Result, IfOk, inl, inr, ap, refl}
use Rattle.fill_text.specs.declared.error.NoMemory.{NoMemory}
use Rattle.fill_tree.specs.declared.user.Edit.{Edit}
use Rattle.fill_space.specs.declared.ground.Ground.{Ground}
use Rattle.fill_session.specs.Outcome.{OutcomeIs, term}
use Rattle.fill_session.specs.Timeline.{Timeline, edited}
use Rattle.fill_session.specs.declared.error.EditError.{EditError}
use Rattle.fill_report.specs.Entries.{EditWrites, TaskBegins, edit_told, refusal, told}
use Rattle.fill_report.specs.Output.{Leaves, WritesRecords}
use Rattle.fill_output.specs.Fields.{Fields}
use Rattle.fill_report.specs.Records.{ok_record, refused_record}
use Rattle.fill_report.specs.Runs.{Written}
use Rattle.fill_report.specs.Tasks.{change}
use Rattle.fill_report.specs.Writing.{LeavesOne}
use Rattle.fill_output.specs.declared.halt.Halt.{Halt}
use Rattle.fill_report.proofs.Leaving.{leaves_nothing, leaves_one, made_so, none_refused, one_refused}

module _ (g : Ground) (t next : Timeline) (e : Edit) (old new : Option (List ℕ)) (before now : ℕ) (le : now ≤ before + term g.sheet t.examples e) where
  pub edit_made : (made : Result Fields NoMemory) (r : Result Bool Halt) → OutcomeIs g t.examples e None → next ≡ edited t e → IfOk made (λ m. m ≡ ok_record e)
      → LeavesOne made false r old new
      → Leaves (λ w. EditWrites g t e w next) (TaskBegins g t (change e)) r old new before now
  edit_made made r outcome after h l =
      let writes : (fields : Fields) → fields ≡ ok_record e → EditWrites g t e (edit_told g.sheet t.examples e (told (fields ∷ []))) next =
      λ fields m. inl (outcome, ap (λ (f : Fields). edit_told g.sheet t.examples e (told (f ∷ []))) m, after) in
      leaves_one (λ w. EditWrites g t e w next) (TaskBegins g t (change e)) old new before now (term g.sheet t.examples e) le
      (inl refl) made false 0 r
      (λ fields m. writes fields (made_so made (λ f. f ≡ ok_record e) h fields m))
      (λ fields m. inr (edit_told g.sheet t.examples e (told (fields ∷ [])), 1, (next, writes fields (made_so made (λ f. f ≡ ok_record e) h fields m)), refl))
      (none_refused false refl) l

  pub edit_refused : (reason : EditError) (made : Result Fields NoMemory) (r : Result Bool Halt) → OutcomeIs g t.examples e (Some reason) → next ≡ t
      → IfOk made (λ m. m ≡ refused_record e reason) → LeavesOne made true r old new
      → Leaves (λ w. EditWrites g t e w next) (TaskBegins g t (change e)) r old new before now
  edit_refused reason made r outcome after h l =
      let one : Fields → Written = λ (fields : Fields). edit_told g.sheet t.examples e (refusal fields) in
      let writes : (fields : Fields) → fields ≡ refused_record e reason → EditWrites g t e (one fields) next =
      λ fields m. inr (reason, outcome, ap one m, after) in
      leaves_one (λ w. EditWrites g t e w next) (TaskBegins g t (change e)) old new before now (term g.sheet t.examples e) le
      (inl refl) made true 1 r
      (λ fields m. writes fields (made_so made (λ f. f ≡ refused_record e reason) h fields m))
      (λ fields m. inr (one fields, 1, (next, writes fields (made_so made (λ f. f ≡ refused_record e reason) h fields m)), refl))
      (one_refused true refl) l

  pub edit_lost : new ≡ old → WritesRecords (TaskBegins g t (change e)) old new before now
  edit_lost same =
      leaves_nothing (λ w. EditWrites g t e w next) (TaskBegins g t (change e)) old new before now (term g.sheet t.examples e) le
      (inl refl) same
