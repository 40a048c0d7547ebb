use Rattle.std.proofs.Common.{Vec, Global, sym, subst, ◌∙◌}
use Rattle.fill_tokens.specs.Place.{place_cmp}
use Rattle.fill_tokens.specs.Prices.{place_cost}
use Rattle.fill_tokens.specs.declared.place.Place.{Place}
use Rattle.fill_tokens.proofs.PlaceLaws.{place_total, exact_places}
use Rattle.fill_arena.specs.Contents.{In}
use Rattle.fill_arena.specs.Stands.{PlaceStands}
use Rattle.fill_best.specs.Cheapest.{AreCheapest}
use Rattle.fill_best.specs.declared.costed.Costed.{Costed}
use Rattle.fill_best.proofs.Standing.{place_stands, stands_place}
use Rattle.fill_best.proofs.Takes.{cheapest_same}
use Rattle.fill_best.proofs.places.places_of.Goals as goal

pub returns-in-Some-clause-first : goal.returns-in-Some-clause-first
returns-in-Some-clause-first c =
    subst (λ (v : Vec (Costed Place) Global). AreCheapest (place_cost c.args.prices.now) place_cmp (PlaceStands c.args.arena.now c.args.s) c.args.limit v.items) (sym c.in_ok-clone.ensures.cases)
    (c.in-Some.ensures c.args.prices.now c.args.arena.now c.args.limit c.requires.memo)

pub returns-clause-first : goal.returns-clause-first
returns-clause-first c =
    let arena = c.args.arena.now in
    let places = c.places-2.result.now in
    let shortlist = c.in_ok-first_places.field-0 in
    let first = cheapest_same (place_cost c.args.prices.now) place_cmp place_total exact_places c.args.limit (λ p. In p places) (PlaceStands arena c.args.s) shortlist.items
    (place_stands arena c.args.s places c.places-2.ensures) (stands_place arena c.args.s places c.places-2.ensures) c.in_ok-first_places.ensures in
    subst (λ (v : Vec (Costed Place) Global). AreCheapest (place_cost c.args.prices.now) place_cmp (PlaceStands arena c.args.s) c.args.limit v.items) (sym c.in_ok-shortlist.ensures.ok) first

pub returns-clause-memo : goal.returns-clause-memo
returns-clause-memo c =
    let arena = c.args.arena.now in
    let places = c.places-2.result.now in
    let shortlist = c.in_ok-first_places.field-0 in
    let first = cheapest_same (place_cost c.args.prices.now) place_cmp place_total exact_places c.args.limit (λ p. In p places) (PlaceStands arena c.args.s) shortlist.items
    (place_stands arena c.args.s places c.places-2.ensures) (stands_place arena c.args.s places c.places-2.ensures) c.in_ok-first_places.ensures in
    c.in_ok-keep_places.ensures c.args.prices.now arena c.args.limit c.requires.memo
    (subst (λ (v : Vec (Costed Place) Global). AreCheapest (place_cost c.args.prices.now) place_cmp (PlaceStands arena c.args.s) c.args.limit v.items)
    (sym (c.in_ok-clone-2.ensures.cases ∙ c.in_ok-shortlist.ensures.ok)) first)
