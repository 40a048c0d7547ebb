use Rattle.fill_build.proofs.Twins.{twin_start, twin_found}
use Rattle.fill_build.proofs.node.find_twin.Goals as goal

pub loop-k-init : goal.loop-k-init
loop-k-init c = twin_start c.args.text.now c.args.from

pub loop-k-preserved : goal.loop-k-preserved
loop-k-preserved c = twin_found c.args.text.now c.args.from c.loop-k.k c.common-run.result c.loop-k-test.true c.common-run.ensures
