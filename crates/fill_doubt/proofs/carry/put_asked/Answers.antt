use Rattle.std.proofs.Common.{sym, ◌∙◌}
use Rattle.std.proofs.lemmas.Bool.{false≢true}
use Rattle.fill_arena.proofs.Scan.{here}
use Rattle.fill_tokens.specs.Value.{HasValue}
use Rattle.fill_tree.specs.Value.{IsValue}
use Rattle.fill_doubt.specs.Answers.{PositionsHave}
use Rattle.fill_doubt.proofs.Gains.{below_start, below_more, below_some, below_end}
use Rattle.fill_doubt.proofs.carry.put_asked.Goals as goal

pub loop-i-init : goal.loop-i-init
loop-i-init c = below_start (λ p. IsValue (HasValue p c.args.text.now)) c.args.places.now (PositionsHave c.args.found.now)

pub loop-i-preserved : goal.loop-i-preserved
loop-i-preserved c =
    let xs = c.args.places.now in
    let x = c.index-places-i.result in
    below_more (λ p. IsValue (HasValue p c.args.text.now)) xs (PositionsHave c.args.found.now) (PositionsHave c.loop-i.found) (PositionsHave c.put_value.new.found) c.loop-i.i x
    (here xs c.loop-i.i x c.loop-i-test.true c.index-places-i.is) c.loop-i.invariant c.in_ok-put_value.ensures

pub returns-then-may_stop-clause-some : goal.returns-then-may_stop-clause-some
returns-then-may_stop-clause-some c = below_some (λ p. IsValue (HasValue p c.args.text.now)) c.args.places.now (PositionsHave c.args.found.now) (PositionsHave c.loop-i.found) c.loop-i.i c.loop-i.invariant

pub returns-then-may_stop-clause-all : goal.returns-then-may_stop-clause-all
returns-then-may_stop-clause-all c = λ few. absurd (false≢true (sym (c.may_stop.ensures few) ∙ c.if-may_stop.true))

pub returns-clause-some : goal.returns-clause-some
returns-clause-some c = below_some (λ p. IsValue (HasValue p c.args.text.now)) c.args.places.now (PositionsHave c.args.found.now) (PositionsHave c.loop-i.found) c.loop-i.i c.loop-i.invariant

pub returns-clause-all : goal.returns-clause-all
returns-clause-all c = λ _. below_end (λ p. IsValue (HasValue p c.args.text.now)) c.args.places.now (PositionsHave c.args.found.now) (PositionsHave c.loop-i.found) c.loop-i.i c.loop-i-test.false c.loop-i.invariant
