use Rattle.std.proofs.Common.{map}
use Rattle.fill_reach.proofs.StepLaws.{new_at_first, new_later}
use Rattle.fill_reach.proofs.texts.new_texts.Goals as goal

pub returns-then-depth-eq0 : goal.returns-then-depth-eq0
returns-then-depth-eq0 c =
    new_at_first c.args.sheet.now c.args.tables.now c.args.row c.args.rows.now c.args.depth (map (λ text. text.now) c.push_inputs.new.texts.items) c.if-depth-eq0.true
    (rw c.new-texts.ensures.items at c.in_ok-push_inputs.ensures)

pub returns : goal.returns
returns c =
    new_later c.args.sheet.now c.args.tables.now c.args.row c.args.rows.now c.args.depth (map (λ text. text.now) c.push_cells.new.texts.items) c.if-depth-eq0.false
    (rw c.new-texts.ensures.items at c.in_ok-push_cells.ensures)
