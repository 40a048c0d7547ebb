use Rattle.fill_arena.specs.declared.entry.Entry.TheVariants.{Places}
use Rattle.fill_arena.proofs.Stand.{place_best}
use Rattle.fill_rank.proofs.sets.place_of.Goals as goal

pub least_place-best-requires : goal.least_place-best-requires
least_place-best-requires c = (c.keeps_made.ensures c.args.s (Places c.places.result.now) c.places.ensures).some

pub returns-clause-memo : goal.returns-clause-memo
returns-clause-memo c = c.in_ok-keep_place.ensures.kept c.args.prices.now c.args.arena.now c.requires.memo
    (place_best c.args.prices.now c.args.arena.now c.args.s c.places.result.now c.least_place-best.result c.places.ensures c.least_place-best.ensures)

pub returns-clause-best : goal.returns-clause-best
returns-clause-best c = place_best c.args.prices.now c.args.arena.now c.args.s c.places.result.now c.least_place-best.result c.places.ensures c.least_place-best.ensures

pub returns-in-Some-clause-best : goal.returns-in-Some-clause-best
returns-in-Some-clause-best c = c.in-Some.ensures.right c.args.prices.now c.args.arena.now c.requires.memo
