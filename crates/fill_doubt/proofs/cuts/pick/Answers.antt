use Rattle.std.proofs.Common.{rules}
use Rattle.fill_doubt.proofs.cuts.pick.Goals as goal

pub returns-then-count-gt0 : goal.returns-then-count-gt0
returns-then-count-gt0 c = λ l r t are. search (rules, c.pick_left.ensures l r t are)

pub returns-else-count-gt0 : goal.returns-else-count-gt0
returns-else-count-gt0 c = λ l r t are. search (rules, c.pick_right.ensures l r t are)
