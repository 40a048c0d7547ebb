use Rattle.std.proofs.Common.{List, subst, sym}
use Rattle.fill_text.specs.Lists.{Lists}
use Rattle.fill_tokens.specs.Place.{place_cmp}
use Rattle.fill_tokens.specs.TokenSet.{IsPlaceOf}
use Rattle.fill_tokens.specs.Value.{HasValue}
use Rattle.fill_tokens.specs.declared.place.Place.{Place}
use Rattle.fill_sources.specs.Origins.{texts_in}
use Rattle.fill_sources.specs.Sets.{IsPlaceMade}
use Rattle.fill_sources.proofs.Made.{right_stays}
use Rattle.fill_sources.proofs.places.places_at.Goals as goal

made : (c : goal.After-drop-places-inside-2) → IsPlaceMade c.args.look.now.on.now (texts_in c.args.look.now.texts.now) c.place_set.new.arena (c.args.h.text, c.args.h.at) c.in_ok-made.made
made c v at =
    let on = c.args.look.now.on.now in
    c.in_ok-made.ensures.made on v c.args.h.at
    (subst (λ (l : List Place). Lists place_cmp (λ p. IsPlaceOf on.settings.profile.tokens p × HasValue p v c.args.h.at) l) (sym c.as_slice.ensures) (c.in_ok-places.ensures.places v at))

pub returns-clause-made : goal.returns-clause-made
returns-clause-made c = made c

pub returns-clause-memo : goal.returns-clause-memo
returns-clause-memo c =
    let on = c.args.look.now.on.now in
    let texts = texts_in c.args.look.now.texts.now in
    let arena = c.place_set.new.arena in
    c.in_ok-keep_place.ensures on texts arena
    (right_stays on texts c.args.arena.now arena c.place_set.ensures.extends c.list_places.new.memo (c.in_ok-places.ensures.memo c.args.arena.now c.requires.memo))
    (made c)
