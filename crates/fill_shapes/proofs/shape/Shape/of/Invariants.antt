use Rattle.std.specs.Prelude.{◌++◌, ◌∷◌, []}
use Rattle.fill_shapes.specs.Stretched.{AreBlocks}
use Rattle.fill_shapes.proofs.shape.Shape.of.Given as goal

abbrev pub invariant-loop-i : goal.invariant-loop-i
invariant-loop-i l = AreBlocks l.i l.shape.text l.read.text (l.shape.bounds.items ++ l.i ∷ [])
