use Rattle.std.proofs.Common.{arith}
use Rattle.fill_session.proofs.suggestion.first_asked.Goals as goal

pub loop-above-init : goal.loop-above-init
loop-above-init c = record {
  shapes = c.new-shapes.ensures c.args.asking.now.session.now.spaces.arena;
  first = λ q asked alike le. (let one = asked.first in omega arith);
  few = tt;
}
