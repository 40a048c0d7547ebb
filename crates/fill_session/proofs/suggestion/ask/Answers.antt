use Rattle.std.proofs.Common.{◌≡◌, ◌+◌, suc, Option, subst, arith}
use Rattle.std.specs.Option.{MatchOption}
use Rattle.fill_session.specs.Suggested.{IsAskedAt, NoneAsked}
use Rattle.fill_session.specs.declared.suggestion.Suggestion.{Suggestion}
use Rattle.fill_session.proofs.Suggesting.{next_first, none_more}
use Rattle.fill_session.proofs.suggestion.ask.Goals as goal

pub returns-in-Some-clause-first : goal.returns-in-Some-clause-first
returns-in-Some-clause-first c =
    let s = c.args.asking.now.session.now in
    let g = s.spaces.ground in
    let passed = c.args.asking.now.passed.now in
    let silent = c.args.asking.now.silent in
    let above = c.args.above in
    let best = c.args.best.now in
    let next = c.in-Some.next in
    let at : IsAskedAt g s.examples passed silent (above + 1) best next =
    subst (λ (o : Option Suggestion). MatchOption o (NoneAsked g s.examples passed silent (above + 1) best) (IsAskedAt g s.examples passed silent (above + 1) best)) c.in-Some.is c.in_ok-next.ensures.asked in
    let here : above + 1 ≡ suc above = omega arith in
    next_first g s.examples passed silent above best next c.requires.first (subst (λ n. IsAskedAt g s.examples passed silent n best next) here at)

pub returns-in_default-clause-first : goal.returns-in_default-clause-first
returns-in_default-clause-first c =
    let s = c.args.asking.now.session.now in
    let g = s.spaces.ground in
    let passed = c.args.asking.now.passed.now in
    let silent = c.args.asking.now.silent in
    let above = c.args.above in
    let best = c.args.best.now in
    let none : NoneAsked g s.examples passed silent (above + 1) best =
    subst (λ (o : Option Suggestion). MatchOption o (NoneAsked g s.examples passed silent (above + 1) best) (IsAskedAt g s.examples passed silent (above + 1) best)) c.in_default.is c.in_ok-next.ensures.asked in
    let here : above + 1 ≡ suc above = omega arith in
    none_more g s.examples passed silent above best c.requires.first (subst (λ n. NoneAsked g s.examples passed silent n best) here none)
