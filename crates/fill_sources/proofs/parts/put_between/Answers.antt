use Rattle.std.proofs.Common.{◌+◌, subst}
use Rattle.std.proofs.lemmas.Result.{on_ok_weaker}
use Rattle.fill_arena.specs.Stands.{AtomFits}
use Rattle.fill_arena.proofs.Lists.{extends_on, extends_same}
use Rattle.fill_sources.specs.Gives.{ArePlacesAt, at_depth}
use Rattle.fill_sources.specs.Origins.{texts_in}
use Rattle.fill_sources.specs.Readers.{IsOldAtom, ReadsBetween}
use Rattle.fill_sources.proofs.Puts.{no_left, no_right, puts_between, puts_none}
use Rattle.fill_sources.proofs.parts.put_between.Goals as goal

pub returns-in_default-clause-adds : goal.returns-in_default-clause-adds
returns-in_default-clause-adds c e t at sources =
    let on = c.args.look.now.on.now in
    let texts = texts_in c.args.look.now.texts.now in
    let arena = c.places_at.new.arena in
    let none = subst (ArePlacesAt on arena t c.args.h.at) c.in_default.is (c.in_ok-left.ensures.made t at arena (extends_same arena)) in
    puts_none IsOldAtom AtomFits arena c.args.items.now (ReadsBetween (at_depth on e) texts c.args.h c.args.width) (no_left (at_depth on e) texts c.args.h c.args.width t at arena none)

pub returns-in_default-2-clause-adds : goal.returns-in_default-2-clause-adds
returns-in_default-2-clause-adds c e t at sources =
    let on = c.args.look.now.on.now in
    let texts = texts_in c.args.look.now.texts.now in
    let arena = c.places_at-2.new.arena in
    let none = subst (ArePlacesAt on arena t (c.args.h.at + c.args.width)) c.in_default-2.is (c.in_ok-right.ensures.made t at arena (extends_same arena)) in
    puts_none IsOldAtom AtomFits arena c.args.items.now (ReadsBetween (at_depth on e) texts c.args.h c.args.width) (no_right (at_depth on e) texts c.args.h c.args.width t at arena none)

pub returns-clause-adds : goal.returns-clause-adds
returns-clause-adds c =
    let on = c.args.look.now.on.now in
    let texts = texts_in c.args.look.now.texts.now in
    let h = c.args.h in
    let arena = c.places_at-2.new.arena in
    on_ok_weaker c.push.result
    (λ is e t at sources.
    puts_between (at_depth on e) texts h c.args.width t at arena c.args.sources
    (λ d o. sources d (extends_on _ _ _ c.places_at.ensures.extends (extends_on _ _ _ c.places_at-2.ensures.extends o)))
    c.in-Some.left c.in-Some-2.right
    (λ d o. subst (ArePlacesAt on d t h.at) c.in-Some.is (c.in_ok-left.ensures.made t at d (extends_on _ _ _ c.places_at-2.ensures.extends o)))
    (λ d o. subst (ArePlacesAt on d t (h.at + c.args.width)) c.in-Some-2.is (c.in_ok-right.ensures.made t at d o))
    c.args.items.now c.push.new.self is)
    c.push.ensures.ok
