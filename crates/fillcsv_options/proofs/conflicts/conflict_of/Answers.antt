use Rattle.std.proofs.Common.{None, Some, sym, ◌∙◌}
use Rattle.fillcsv_options.specs.Conflicts.{learns_nothing, saves_over}
use Rattle.fillcsv_options.specs.Words.{data_of}
use Rattle.fillcsv_options.proofs.Parts.{first_conflict, second_conflict}
use Rattle.fillcsv_options.proofs.conflicts.conflict_of.Goals as goal

pub returns-then-learns_nothing : goal.returns-then-learns_nothing
returns-then-learns_nothing c =
    let d = data_of c.args.asked.now in
    first_conflict (learns_nothing d) (saves_over d) c.of_usage.result (sym c.learns_nothing.ensures ∙ c.if-learns_nothing.true) c.of_usage.ensures

pub returns-then-saves_over : goal.returns-then-saves_over
returns-then-saves_over c =
    let d = data_of c.args.asked.now in
    second_conflict (learns_nothing d) (saves_over d) (Some c.overwriting.result) (sym c.learns_nothing.ensures ∙ c.if-learns_nothing.false)
    (sym c.saves_over.ensures ∙ c.if-saves_over.true, c.overwriting.ensures)

pub returns : goal.returns
returns c =
    let d = data_of c.args.asked.now in
    second_conflict (learns_nothing d) (saves_over d) None (sym c.learns_nothing.ensures ∙ c.if-learns_nothing.false)
    (sym c.saves_over.ensures ∙ c.if-saves_over.false)
