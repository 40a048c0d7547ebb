use Rattle.std.proofs.Common.{◌↔◌, map}
use Rattle.fill_arena.specs.Contents.{In}
use Rattle.fill_sources.proofs.Standing.{StandsFirst}
use Rattle.fill_sources.specs.declared.spots.Spot.{Spot}
use Rattle.fill_sources.proofs.spots.spots_of.Given as goal

abbrev pub invariant-loop-k : goal.invariant-loop-k
invariant-loop-k l = (h : Spot) → In h l.spots ↔ StandsFirst (map (λ n. n.text.now) l.named) l.k l.w h
