use Rattle.std.proofs.Common.{◌≡◌, ◌++◌, drop}
use Rattle.fill_local.specs.Local.{renumbered}
use Rattle.fillcsv_blocks.specs.Numbers.{number_at}
use Rattle.fillcsv_blocks.proofs.block.Block.examples.Given as goal

-- the examples so far, before the others, are all
abbrev pub invariant-loop-example : goal.invariant-loop-example
invariant-loop-example l = l.made ++ renumbered (number_at l.self.numbers) (drop l.example-index l.example-items) ≡ renumbered (number_at l.self.numbers) l.example-items
