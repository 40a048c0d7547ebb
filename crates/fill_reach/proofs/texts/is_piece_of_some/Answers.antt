use Rattle.fill_reach.proofs.StepLaws.{some_more_by, some_none}
use Rattle.fill_reach.proofs.texts.is_piece_of_some.Goals as goal

pub loop-text-preserved : goal.loop-text-preserved
loop-text-preserved c =
    some_more_by (λ text. text.now) c.args.cell.now c.as_slice.result.now c.args.texts.now c.loop-text.text-index _ c.is_piece_of.result c.is_piece_of.ensures c.if-is_piece_of.false c.as_slice.ensures
    c.loop-text-test.true c.loop-text.invariant

pub returns : goal.returns
returns c = ((λ e. cc), (λ h. absurd (some_none (λ text. text.now) c.args.cell.now c.args.texts.now c.loop-text.text-index c.loop-text-test.false c.loop-text.invariant h)))
