use Rattle.std.proofs.Common.{Vec, Global, sym, subst, ◌∙◌}
use Rattle.fill_arena.specs.Stands.{PlaceStands}
use Rattle.fill_object.specs.Kinds.{spots_in}
use Rattle.fill_object.specs.Leasts.{AreLeasts}
use Rattle.fill_object.specs.declared.valued.Spot.{Spot}
use Rattle.fill_object.proofs.KindLaws.{places_leasts}
use Rattle.fill_object.proofs.spots.Spots.of.Goals as goal

pub returns-in-Some-clause-least : goal.returns-in-Some-clause-least
returns-in-Some-clause-least c =
    subst (λ (v : Vec Spot Global). AreLeasts (spots_in c.args.prices.now c.args.text.now) (PlaceStands c.args.arena.now c.args.s) v.items) (sym c.in_ok-clone.ensures.cases)
    (c.in-Some.ensures c.args.prices.now c.args.arena.now c.requires.memo)

pub returns-clause-least : goal.returns-clause-least
returns-clause-least c =
    let t = c.args.text.now in
    let found = c.in_ok-read_spots.field-0 in
    let least = places_leasts c.args.prices.now c.args.arena.now c.args.s t c.places.result.now found.items c.places.ensures c.in_ok-read_spots.ensures in
    subst (λ (v : Vec Spot Global). AreLeasts (spots_in c.args.prices.now t) (PlaceStands c.args.arena.now c.args.s) v.items) (sym c.in_ok-spots.ensures.ok) least

pub returns-clause-memo : goal.returns-clause-memo
returns-clause-memo c =
    let t = c.args.text.now in
    let found = c.in_ok-read_spots.field-0 in
    let least = places_leasts c.args.prices.now c.args.arena.now c.args.s t c.places.result.now found.items c.places.ensures c.in_ok-read_spots.ensures in
    c.in_ok-keep.ensures c.args.prices.now c.args.arena.now c.requires.memo
    (subst (λ (v : Vec Spot Global). AreLeasts (spots_in c.args.prices.now t) (PlaceStands c.args.arena.now c.args.s) v.items) (sym (c.in_ok-clone-2.ensures.cases ∙ c.in_ok-spots.ensures.ok)) least)
