use Rattle.std.proofs.Common.{◌≡◌, ℕ, Option, Some, slice_get, sym, ◌∙◌, subst}
use Rattle.fill_meet.specs.declared.verdicts.Verdict.{Verdict}
use Rattle.fill_meet.proofs.Selves.{number_same, places_self}
use Rattle.fill_meet.proofs.places.meet_places.Goals as goal

pub returns-in-Some-clause-met : goal.returns-in-Some-clause-met
returns-in-Some-clause-met c =
    let verdict : Verdict (Option ℕ) = record { s = c.args.s; t = c.args.t; verdict = c.in-Some.made } in
    let there = c.in-Some.ensures in
    c.requires.memo.places there.0 (Some verdict) (subst (λ l. slice_get l there.0 ≡ Some (Some verdict)) c.as_slice.ensures.value there.1)

pub returns-clause-memo : goal.returns-clause-memo
returns-clause-memo c = c.keep_places.ensures c.make_places.new.arena c.make_places.ensures.memo c.in_ok-made.ensures.met

pub returns-then-eq-clause-met : goal.returns-then-eq-clause-met
returns-then-eq-clause-met c = places_self c.args.arena.now c.keeps_made.ensures c.args.s c.args.t (number_same c.args.s c.args.t (sym c.eq.ensures ∙ c.if-eq.true)) c.requires.first
