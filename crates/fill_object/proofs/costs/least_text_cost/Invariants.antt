use Rattle.std.proofs.Common.{◌≤◌, ◌+◌, drop, sum_by}
use Rattle.fill_tree.specs.Cost.{char_cost, text_cost}
use Rattle.fill_object.proofs.costs.least_text_cost.Given as goal

abbrev pub invariant-loop-c : goal.invariant-loop-c
invariant-loop-c l = l.total + sum_by (char_cost l.prices) (drop l.c-index l.c-items) ≤ text_cost l.prices l.text
