-- What the session answers, under the numbers of the long sheet.
use Rattle.std.proofs.Common.{◌∙◌, ℕ, List, Err, Ok, ap, subst, sym}
use Rattle.fill_tree.specs.declared.user.Edit.TheVariants.{Add}
use Rattle.fill_tree.specs.declared.user.Example.{Example}
use Rattle.fill_session.specs.Outcome.{Answers}
use Rattle.fill_session.specs.declared.error.EditError.{EditError}
use Rattle.fill_local.specs.Local.{renumbered_reason}
use Rattle.fillcsv_blocks.specs.Blocks.{BlockData, StandsFor}
use Rattle.fillcsv_blocks.specs.Numbers.{number_at}
use Rattle.fillcsv_blocks.proofs.Standing.{edited}
use Rattle.fillcsv_blocks.proofs.block.Block.add.Goals as goal

pub returns-in-Ok-clause-answers : goal.returns-in-Ok-clause-answers
returns-in-Ok-clause-answers g c = λ long examples s.
    edited long c.args.self.now examples s c.keeps_rows.ensures _ c.self.view_is c.args.number c.row_of-row.result c.row_of-row.ensures c.edit.new.self c.edit.ensures.ground c.args.text (Ok c.in-Ok.field-0) c.in-Ok.ensures.answers

pub returns-clause-answers : goal.returns-clause-answers
returns-clause-answers g c = λ long examples s.
    let told = edited long c.args.self.now examples s c.keeps_rows.ensures _ c.self.view_is c.args.number c.row_of-row.result c.row_of-row.ensures c.edit.new.self c.edit.ensures.ground c.args.text (Err c.in-Err.reason) c.in-Err.ensures.answers in
    let numbers = c.deref.ensures.value ∙ ap (λ (b : BlockData). b.numbers) c.self.view_is in
    let reason = c.renumbered_reason.ensures ∙ ap (λ (l : List ℕ). renumbered_reason (number_at l) c.in-Err.reason) numbers in
    subst (λ (r : EditError). (more : List Example) × Answers long examples (Add c.args.number c.args.text) (Err r) more × StandsFor long (record { session = c.edit.new.self; numbers = c.self.inside.numbers.items }) more) (sym reason) told
