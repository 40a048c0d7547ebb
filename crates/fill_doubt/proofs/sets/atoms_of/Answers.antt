use Rattle.fill_arena.proofs.Scan.{here}
use Rattle.fill_doubt.specs.Answers.{PiecesHave}
use Rattle.fill_doubt.specs.Memo.{ConstantItemAnswers}
use Rattle.fill_doubt.proofs.Gains.{below_start, below_more, below_end}
use Rattle.fill_doubt.proofs.Items.{atoms_by}
use Rattle.fill_doubt.proofs.sets.atoms_of.Goals as goal

pub loop-item-init : goal.loop-item-init
loop-item-init c = record {
  within = c.in_ok-found.ensures.within;
  gains = below_start ConstantItemAnswers c.atoms-items.result.now (PiecesHave c.in_ok-found.found);
}

pub loop-item-preserved : goal.loop-item-preserved
loop-item-preserved c =
    let items = c.atoms-items.result.now in
    let i = c.loop-item.item-index in
    let x = c.item-item.result in
    record {
      within = c.put_constant.ensures.within;
      gains = below_more ConstantItemAnswers items (PiecesHave c.in_ok-found.found) (PiecesHave c.loop-item.found) (PiecesHave c.put_constant.new.found) i x
          (here items i x c.loop-item-test.true c.item-item.is) c.loop-item.invariant.gains c.in_ok-put_constant.ensures.gains;
    }

pub returns-clause-exact : goal.returns-clause-exact
returns-clause-exact c =
    let on = c.args.on.now in
    let items = c.atoms-items.result.now in
    let old = PiecesHave c.in_ok-found.found in
    let new = PiecesHave c.loop-item.found in
    let all = below_end ConstantItemAnswers items old new c.loop-item.item-index c.loop-item-test.false c.loop-item.invariant.gains in
    atoms_by on c.requires.row c.args.s items c.atoms-items.ensures old new c.in_ok-found.ensures.exact all
