use Rattle.std.proofs.Common.{◌≡◌, Bool, Some, slice_get, sym, ◌∙◌, subst}
use Rattle.std.proofs.lemmas.Bool.{false≢true}
use Rattle.fill_arena.specs.Contents.{EachIn}
use Rattle.fill_arena.specs.declared.entry.Entry.TheVariants.{Places}
use Rattle.fill_meet.specs.declared.verdicts.Verdict.{Verdict}
use Rattle.fill_meet.specs.Verdicts.{IsVerdict, PlacesTried}
use Rattle.fill_meet.proofs.Trials.{each_lent, kept_somewhere, places_unshared}
use Rattle.fill_meet.proofs.apart.places_may_meet.Goals as goal

pub returns-in-Some-clause-apart : goal.returns-in-Some-clause-apart
returns-in-Some-clause-apart c =
    let verdict : Verdict Bool = record { s = c.args.s; t = c.args.t; verdict = c.in-Some.may } in
    let there = c.in-Some.ensures in
    c.requires.verdicts.places there.0 (Some verdict) (subst (λ l. slice_get l there.0 ≡ Some (Some verdict)) c.as_slice.ensures.value there.1)

pub share_place-may-requires-clause-first : goal.share_place-may-requires-clause-first
share_place-may-requires-clause-first c = c.keeps_made.ensures c.args.s (Places c.places.result.now) c.places.ensures

pub share_place-may-requires-clause-second : goal.share_place-may-requires-clause-second
share_place-may-requires-clause-second c = c.keeps_made.ensures c.args.t (Places c.places-2.result.now) c.places-2.ensures

pub returns-clause-verdicts : goal.returns-clause-verdicts
returns-clause-verdicts c =
    let verdict : Verdict Bool = record { s = c.args.s; t = c.args.t; verdict = c.share_place-may.result } in
    let verdicts = c.requires.verdicts in
    let apart : PlacesTried c.args.arena.now c.args.s c.args.t c.share_place-may.result =
    λ e. places_unshared c.args.arena.now c.args.s c.args.t _ _ c.places.ensures c.places-2.ensures (λ s. false≢true (sym e ∙ c.share_place-may.ensures.1 s)) in
    let old = subst (EachIn (IsVerdict c.args.arena.now)) (sym c.as_mut_slice.ensures.value) verdicts.places in
    record {
      places = each_lent (IsVerdict c.args.arena.now) _ _ c.tell_places.new.places _
          (kept_somewhere (IsVerdict c.args.arena.now) c.as_mut_slice.result.now c.tell_places.new.places (Some verdict) c.tell_places.ensures apart old) verdicts.places;
      sources = verdicts.sources;
    }

pub returns-clause-apart : goal.returns-clause-apart
returns-clause-apart c = λ e. places_unshared c.args.arena.now c.args.s c.args.t _ _ c.places.ensures c.places-2.ensures (λ s. false≢true (sym e ∙ c.share_place-may.ensures.1 s))
