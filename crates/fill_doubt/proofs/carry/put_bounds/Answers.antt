use Rattle.std.proofs.Common.{◌≡◌, get_or, sym, ◌∙◌}
use Rattle.std.specs.Prelude.{slice_get}
use Rattle.std.proofs.lemmas.Bool.{false≢true}
use Rattle.std.proofs.lemmas.Option.{slice_get-get_or}
use Rattle.fill_doubt.specs.Answers.{PositionsHave}
use Rattle.fill_doubt.proofs.Gains.{below_start, below_more, below_some, below_end}
use Rattle.fill_doubt.proofs.carry.put_bounds.Goals as goal

pub loop-i-init : goal.loop-i-init
loop-i-init c = below_start (λ x o. o ≡ slice_get c.args.bounds.now x) c.args.positions.now (PositionsHave c.args.found.now)

pub put_bound-requires : goal.put_bound-requires
put_bound-requires c =
    let xs = c.args.positions.now in
    let x = get_or xs c.loop-i.i 0 in
    c.requires c.loop-i.i x (slice_get-get_or xs c.loop-i.i 0 c.loop-i-test.true)

pub loop-i-preserved : goal.loop-i-preserved
loop-i-preserved c =
    let xs = c.args.positions.now in
    let x = get_or xs c.loop-i.i 0 in
    below_more (λ y o. o ≡ slice_get c.args.bounds.now y) xs (PositionsHave c.args.found.now) (PositionsHave c.loop-i.found) (PositionsHave c.put_bound.new.found) c.loop-i.i x
    (slice_get-get_or xs c.loop-i.i 0 c.loop-i-test.true) c.loop-i.invariant c.in_ok-put_bound.ensures

pub returns-then-may_stop-clause-some : goal.returns-then-may_stop-clause-some
returns-then-may_stop-clause-some c = below_some (λ x o. o ≡ slice_get c.args.bounds.now x) c.args.positions.now (PositionsHave c.args.found.now) (PositionsHave c.loop-i.found) c.loop-i.i c.loop-i.invariant

pub returns-then-may_stop-clause-all : goal.returns-then-may_stop-clause-all
returns-then-may_stop-clause-all c = λ few. absurd (false≢true (sym (c.may_stop.ensures few) ∙ c.if-may_stop.true))

pub returns-clause-some : goal.returns-clause-some
returns-clause-some c = below_some (λ x o. o ≡ slice_get c.args.bounds.now x) c.args.positions.now (PositionsHave c.args.found.now) (PositionsHave c.loop-i.found) c.loop-i.i c.loop-i.invariant

pub returns-clause-all : goal.returns-clause-all
returns-clause-all c = λ _. below_end (λ x o. o ≡ slice_get c.args.bounds.now x) c.args.positions.now (PositionsHave c.args.found.now) (PositionsHave c.loop-i.found) c.loop-i.i c.loop-i-test.false c.loop-i.invariant
