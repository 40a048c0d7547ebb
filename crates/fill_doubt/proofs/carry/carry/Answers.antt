use Rattle.std.proofs.Common.{◌≡◌, ℕ, List, subst}
use Rattle.std.specs.Prelude.{slice_get}
use Rattle.fill_tokens.specs.declared.place.Place.{Place}
use Rattle.fill_arena.specs.Contents.{SomeIn}
use Rattle.fill_doubt.specs.Answers.{Gains, GainsSome, PositionsHave}
use Rattle.fill_doubt.specs.Shapes.{AreAsked}
use Rattle.fill_doubt.proofs.Carried.{both_all, both_sound}
use Rattle.fill_doubt.proofs.Flags.{on_ok}
use Rattle.fill_doubt.proofs.carry.carry.Goals as goal

pub put_bounds-requires : goal.put_bounds-requires
put_bounds-requires c = rw (c.as_slice-positions.ensures.value, c.as_slice.ensures.value) c.requires

pub returns-clause-sound : goal.returns-clause-sound
returns-clause-sound c =
    let f = c.args.spots.now in
    let x = c.args.shaped.now in
    let a = PositionsHave c.clear.new.self in
    let b = PositionsHave c.put_none.new.self in
    let d = PositionsHave c.put_bounds.new.found in
    let e = PositionsHave c.put_asked.new.found in
    let bs = c.as_slice.result.now in
    let first = subst (λ (xs : List ℕ). GainsSome b d (λ o. SomeIn (λ i. o ≡ slice_get bs i) xs)) c.as_slice-positions.ensures.value c.in_ok-put_bounds.ensures.some in
    let second = subst (λ (ys : List ℕ). GainsSome b d (λ o. SomeIn (λ i. o ≡ slice_get ys i) f.shaped.positions.items)) c.as_slice.ensures.value first in
    on_ok c.put_asked.result c.put_asked.ensures.some (λ g.
    let third = subst (λ (ps : List Place). GainsSome d e (AreAsked x.text.now ps)) c.as_slice-2.ensures.value g in
    both_sound x.shape.bounds.items x.text.now f.others.items f.shaped a b d e c.clear.ensures c.put_none.ensures second third)

pub returns-clause-all : goal.returns-clause-all
returns-clause-all c =
    let f = c.args.spots.now in
    let x = c.args.shaped.now in
    let a = PositionsHave c.clear.new.self in
    let b = PositionsHave c.put_none.new.self in
    let d = PositionsHave c.put_bounds.new.found in
    let e = PositionsHave c.put_asked.new.found in
    let bs = c.as_slice.result.now in
    on_ok c.put_asked.result c.put_asked.ensures.all (λ g few.
    let first = subst (λ (xs : List ℕ). Gains b d (λ o. SomeIn (λ i. o ≡ slice_get bs i) xs)) c.as_slice-positions.ensures.value (c.in_ok-put_bounds.ensures.all few) in
    let second = subst (λ (ys : List ℕ). Gains b d (λ o. SomeIn (λ i. o ≡ slice_get ys i) f.shaped.positions.items)) c.as_slice.ensures.value first in
    let third = subst (λ (ps : List Place). Gains d e (AreAsked x.text.now ps)) c.as_slice-2.ensures.value (g few) in
    both_all x.shape.bounds.items x.text.now f.others.items f.shaped a b d e c.put_none.ensures second third)
