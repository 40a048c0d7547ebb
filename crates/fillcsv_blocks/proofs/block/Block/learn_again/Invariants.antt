use Rattle.std.proofs.Common.{◌≡◌, List, drop}
use Rattle.fill_tree.specs.declared.user.Example.{Example}
use Rattle.fill_space.specs.declared.ground.Ground.{Ground}
use Rattle.fillcsv_blocks.specs.Accepted.{Accepts}
use Rattle.fillcsv_blocks.specs.Blocks.{StandsFor}
use Rattle.fillcsv_blocks.proofs.block.Block.learn_again.Given as goal

-- the examples so far are there, and the others are accepted after them
abbrev pub invariant-loop-example : goal.invariant-loop-example
invariant-loop-example g l =
    (l.self.numbers ≡ l.fn.self.numbers)
    × ((long : Ground) (a b : List Example) → StandsFor long l.fn.self a → Accepts long a l.examples b
    → (there : List Example) × StandsFor long l.self there × Accepts long there (drop l.example-index l.examples) b)
