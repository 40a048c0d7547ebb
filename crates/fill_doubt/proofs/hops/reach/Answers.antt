use Rattle.fill_doubt.proofs.Hopped.{reached_start, rest_start}
use Rattle.fill_doubt.proofs.hops.reach.Goals as goal

pub loop-i-init : goal.loop-i-init
loop-i-init c = record {
  passed = rest_start c.args.set.now c.args.from.now;
  out = reached_start c.args.set.now c.args.from.now c.args.to.now _ c.clear.ensures.items;
}
