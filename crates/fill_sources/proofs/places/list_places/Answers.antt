use Rattle.std.proofs.Common.{◌≡◌, Some, slice_get, ℕ, ◌≤◌, List, length, ap, sym, subst, ◌∙◌, arith}
use Rattle.std.proofs.lemmas.Option.{slice_get_within}
use Rattle.std.proofs.lemmas.List.{length-map}
use Rattle.std.proofs.lemmas.Result.{IfOk-weaker}
use Rattle.fill_places.specs.Index.{IndexView}
use Rattle.fill_text.specs.Lists.{Lists}
use Rattle.fill_tokens.specs.Place.{place_cmp}
use Rattle.fill_tokens.specs.TokenSet.{IsPlaceOf}
use Rattle.fill_tokens.specs.Value.{HasValue}
use Rattle.fill_sources.specs.Origins.{texts_in}
use Rattle.fill_sources.specs.declared.texts.Named.{Named}
use Rattle.fill_sources.proofs.Origins.{named_text}
use Rattle.fill_sources.proofs.places.list_places.Goals as goal

pub places_at-requires : goal.places_at-requires
places_at-requires c =
    let on = c.args.look.now.on.now in
    let there = c.requires.within in
    let is = c.in-Some.ensures on (texts_in c.args.look.now.texts.now) c.requires.memo.0 c.requires.memo.1 there.0 there.1 in
    let inside = there.2 in
    subst (λ (i : IndexView). c.args.h.at ≤ length i.text) (sym is) (omega arith)

pub returns-in-Some-clause-places : goal.returns-in-Some-clause-places
returns-in-Some-clause-places c =
    let on = c.args.look.now.on.now in
    let token_set = on.settings.profile.tokens in
    IfOk-weaker c.places_at.result (Lists place_cmp (λ p. IsPlaceOf c.in-Some.index.now.token_set p × HasValue p c.in-Some.index.now.text c.args.h.at))
    (λ places. (v : List ℕ) → slice_get (texts_in c.args.look.now.texts.now) c.args.h.text ≡ Some v → Lists place_cmp (λ p. IsPlaceOf token_set p × HasValue p v c.args.h.at) places)
    (λ places listed v at.
    subst (λ (i : IndexView). Lists place_cmp (λ p. IsPlaceOf i.token_set p × HasValue p i.text c.args.h.at) places) (c.in-Some.ensures on (texts_in c.args.look.now.texts.now) c.requires.memo.0 c.requires.memo.1 v at) listed)
    c.places_at.ensures

pub index-requires-2 : goal.index-requires-2
index-requires-2 c =
    let there = c.requires.within in
    let within = slice_get_within (texts_in c.args.look.now.texts.now) c.args.h.text there.0 there.1 in
    let long = length-map c.args.look.now.texts.now.named.items (λ (n : Named). n.text.now) in
    omega arith

pub places_at-requires-2 : goal.places_at-requires-2
places_at-requires-2 c =
    let there = c.requires.within in
    let inside = there.2 in
    let same = named_text c.args.look.now.texts.now.named.items c.args.h.text c.index-2.result.now c.index-2.ensures there.0 there.1 in
    let within : c.args.h.at ≤ length c.index-2.result.now.text.now = subst (λ (t : List ℕ). c.args.h.at ≤ length t) (sym same) (omega arith) in
    subst (λ (i : IndexView). c.args.h.at ≤ length i.text) (sym c.in_ok-index.ensures) within

pub returns-clause-places : goal.returns-clause-places
returns-clause-places c v at =
    let same = named_text c.args.look.now.texts.now.named.items c.args.h.text c.index-2.result.now c.index-2.ensures v at in
    let token_set = c.args.look.now.on.now.settings.profile.tokens in
    let listed = subst (λ (i : IndexView). Lists place_cmp (λ p. IsPlaceOf i.token_set p × HasValue p i.text c.args.h.at) c.in_ok-places.places) c.in_ok-index.ensures c.in_ok-places.ensures in
    subst (λ (t : List ℕ). Lists place_cmp (λ p. IsPlaceOf token_set p × HasValue p t c.args.h.at) c.in_ok-places.places) same listed

pub returns-clause-memo : goal.returns-clause-memo
returns-clause-memo c d right =
    let on = c.args.look.now.on.now in
    c.in_ok-keep_index.ensures on (texts_in c.args.look.now.texts.now) d right
    (λ v at. c.in_ok-index.ensures ∙ ap (λ (t : List ℕ). (let i : IndexView = record { text = t; token_set = on.settings.profile.tokens } in i)) (named_text c.args.look.now.texts.now.named.items c.args.h.text c.index-2.result.now c.index-2.ensures v at))
