-- Words for the outcome of a comparison.
use Rattle.std.specs.Prelude.{◌≡◌, ◌⊎◌}
use Rattle.std.specs.declared.cmp.Ordering.{Ordering}
use Rattle.std.specs.declared.cmp.Ordering.TheVariants.{Less, Equal}

-- less than, or alike
abbrev pub AtMost : Ordering → Type 0
AtMost o = (o ≡ Less) ⊎ (o ≡ Equal)
