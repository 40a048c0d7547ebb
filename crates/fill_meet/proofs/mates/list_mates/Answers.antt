use Rattle.std.proofs.Common.{ℕ, sym, ◌∙◌, subst, arith}
use Rattle.fill_arena.specs.Contents.{SomeIn}
use Rattle.fill_meet.specs.Mates.{IsHolder}
use Rattle.fill_meet.specs.Runs.{HasFrom}
use Rattle.fill_meet.proofs.Grown.{from_grown, grows_on}
use Rattle.fill_meet.proofs.Lists.{all_end, all_map, all_more, here}
use Rattle.fill_meet.proofs.mates.list_mates.Goals as goal

pub loop-i-preserved : goal.loop-i-preserved
loop-i-preserved c =
    let inv = c.loop-i.invariant in
    let put = c.in_ok-list_holders.ensures in
    let old = c.loop-i.lists.numbers.items in
    let new = c.list_holders.new.lists.numbers.items in
    let list = c.args.holders.now.list.items in
    record {
      start = (let a = inv.start in let b = put.grown.long in omega arith);
      grown = grows_on c.args.lists.now.numbers.items old new inv.grown put.grown;
      each = all_more (λ p. (n : ℕ) → SomeIn (IsHolder p n) list → HasFrom new c.args.start n) c.args.places.now c.loop-i.i c.index-places-i.result (here _ _ _ c.loop-i-test.true c.index-places-i.is)
          (all_map (λ p. (n : ℕ) → SomeIn (IsHolder p n) list → HasFrom old c.args.start n) (λ p. (n : ℕ) → SomeIn (IsHolder p n) list → HasFrom new c.args.start n) c.args.places.now c.loop-i.i (λ p f n s. from_grown old new c.args.start n put.grown (f n s)) inv.each)
          (λ n s. subst (HasFrom new c.args.start) s.2.1 (put.each s.1.0 s.0 s.1.1 (s.2.0 ∙ sym c.hash_place.ensures)));
    }

pub returns-clause-each : goal.returns-clause-each
returns-clause-each c = λ p n at s.
    all_end (λ q. (m : ℕ) → SomeIn (IsHolder q m) c.args.holders.now.list.items → HasFrom c.loop-i.lists.numbers.items c.args.start m) c.args.places.now c.loop-i.i c.loop-i-test.false c.loop-i.invariant.each at.0 p at.1 n s
