use Rattle.std.proofs.Common.{◌≡◌}
use Rattle.fill_open.specs.Made.{made_sheet}
use Rattle.fill_open.proofs.generator.made.Given as goal

-- the lines so far
abbrev pub invariant-loop-above : goal.invariant-loop-above
invariant-loop-above l = l.sheet ≡ made_sheet l.above
