use Rattle.fill_arena.specs.declared.entry.Entry.TheVariants.{Places}
use Rattle.fill_meet.proofs.Listed.{places_within_met}
use Rattle.fill_meet.proofs.places.is_within.Goals as goal

pub returns : goal.returns
returns c = λ e.
    places_within_met c.args.arena.now c.args.s c.args.t c.places-2.result.now c.places.result.now c.places-2.ensures c.places.ensures (c.keeps_made.ensures c.args.s (Places c.places-2.result.now) c.places-2.ensures) (c.lists_all.ensures e)
