-- What stops the tables of a rule, once the rule is read.
use Rattle.std.proofs.Common.{None, Some}
use Rattle.fill_edge.specs.Outside.{Files, NoneFell}
use Rattle.fill_opening.specs.Opened.{Held, Opening, Told}
use Rattle.fill_opening.specs.Stops.{Counts, Stops}
use Rattle.fill_opening.specs.declared.stop.Stop.{Stop}
use Rattle.fill_opening.proofs.Binds.{Continues, continues_itself, stops_later}

goes_itself : {R A : Type 0} (steps : Held → Opening R A) (files : Files) → Told files (λ held. Continues (steps held) (steps held))
goes_itself steps None = tt
goes_itself steps (Some held) = continues_itself (steps held)

-- what stops steps stops them by any earlier counts too
pub stops_earlier : {R A : Type 0} (steps : Held → Opening R A) (files : Files) (before mid now : Counts) → NoneFell before mid → (why : Stop R)
    → Stops steps files mid now why → Stops steps files before now why
stops_earlier steps files before mid now fell why stops = stops_later steps steps before mid now fell files why (goes_itself steps files) stops
