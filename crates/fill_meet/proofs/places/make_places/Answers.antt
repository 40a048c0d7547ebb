use Rattle.std.proofs.Common.{refl, Some}
use Rattle.fill_meet.proofs.Memories.{right_stays}
use Rattle.fill_meet.proofs.Selves.{places_mirror}
use Rattle.fill_meet.proofs.places.make_places.Goals as goal

pub returns-then-are_places_within-clause-met : goal.returns-then-are_places_within-clause-met
returns-then-are_places_within-clause-met c = c.if-are_places_within.ensures.within refl

pub returns-then-are_places_within-2-clause-met : goal.returns-then-are_places_within-2-clause-met
returns-then-are_places_within-2-clause-met c = places_mirror c.args.arena.now c.args.t c.args.s (Some c.args.t) (c.if-are_places_within-2.ensures.within refl)

pub returns-clause-memo : goal.returns-clause-memo
returns-clause-memo c = right_stays _ _ c.intern_common.ensures.extends _ c.are_places_within-2.ensures.memo
