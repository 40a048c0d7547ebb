use Rattle.std.proofs.Common.{◌≡◌, Bool, Some, slice_get, sym, ◌∙◌, subst}
use Rattle.fill_arena.specs.Contents.{EachIn}
use Rattle.fill_meet.specs.Memory.{WithinTold}
use Rattle.fill_meet.specs.declared.verdicts.Verdict.{Verdict}
use Rattle.fill_meet.proofs.Selves.{number_same, places_self}
use Rattle.fill_meet.proofs.Trials.{each_lent, kept_somewhere}
use Rattle.fill_meet.proofs.within.are_places_within.Goals as goal

pub returns-then-eq-clause-within : goal.returns-then-eq-clause-within
returns-then-eq-clause-within c = λ e. places_self c.args.arena.now c.keeps_made.ensures c.args.s c.args.t (number_same c.args.s c.args.t (sym c.eq.ensures ∙ c.if-eq.true)) c.requires.first

pub returns-in-Some-clause-within : goal.returns-in-Some-clause-within
returns-in-Some-clause-within c =
    let verdict : Verdict Bool = record { s = c.args.s; t = c.args.t; verdict = c.in-Some.within } in
    let there = c.in-Some.ensures in
    c.requires.memo.within there.0 (Some verdict) (subst (λ l. slice_get l there.0 ≡ Some (Some verdict)) c.as_slice.ensures.value there.1)

pub returns-clause-memo : goal.returns-clause-memo
returns-clause-memo c =
    let verdict : Verdict Bool = record { s = c.args.s; t = c.args.t; verdict = c.is_within-within.result } in
    let right = c.requires.memo in
    let old = subst (EachIn (WithinTold c.args.arena.now)) (sym c.as_mut_slice.ensures.value) right.within in
    record {
      within = each_lent (WithinTold c.args.arena.now) _ _ c.tell_places.new.places _
          (kept_somewhere (WithinTold c.args.arena.now) c.as_mut_slice.result.now c.tell_places.new.places (Some verdict) c.tell_places.ensures c.is_within-within.ensures old) right.within;
      places = right.places;
      sources = right.sources;
      atoms = right.atoms;
    }
