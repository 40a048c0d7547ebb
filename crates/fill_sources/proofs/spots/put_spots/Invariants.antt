use Rattle.fill_sources.specs.Readers.{GainsSpots}
use Rattle.fill_sources.proofs.Standing.{StandsBefore}
use Rattle.fill_sources.proofs.spots.put_spots.Given as goal

abbrev pub invariant-loop-at : goal.invariant-loop-at
invariant-loop-at l = GainsSpots l.initial.spots l.spots (StandsBefore l.text l.k l.w l.at)
