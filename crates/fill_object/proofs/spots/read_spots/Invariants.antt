use Rattle.std.proofs.Common.{◌≡◌}
use Rattle.fill_arena.specs.Contents.{SomeBelow}
use Rattle.fill_object.specs.Kinds.{spots_in}
use Rattle.fill_object.specs.Leasts.{Gains}
use Rattle.fill_object.proofs.spots.read_spots.Given as goal

abbrev pub invariant-loop-place : goal.invariant-loop-place
invariant-loop-place l = Gains (spots_in l.prices l.text) (λ p. SomeBelow l.place-index l.places (λ y. p ≡ y)) l.initial.spots.items l.spots.items
