use Rattle.std.proofs.Common.{◌≡◌, ◌<◌, ◌≤◌, length, Some, refl, arith}
use Rattle.fill_arena.proofs.Scan.{here}
use Rattle.fill_doubt.specs.Numbered.{NumberedHave}
use Rattle.fill_doubt.specs.declared.numbered.NumberedTexts.{NumberedTexts}
use Rattle.fill_doubt.proofs.Gains.{below_start, below_more, below_end}
use Rattle.fill_doubt.proofs.Numbers.{numbered_all, numbered_none}
use Rattle.fill_doubt.proofs.numbered.number_all.Goals as goal

pub loop-i-init : goal.loop-i-init
loop-i-init c =
    let start : NumberedTexts = record { texts = c.new.result; none = c.args.found.now.none } in
    record {
      memo = λ on are. are;
      gains = below_start (λ x o. o ≡ Some x.now) c.args.found.now.texts.items (NumberedHave start);
      numbered = numbered_none c.args.memo.now.texts.items start c.new.ensures.items;
    }

pub loop-i-preserved : goal.loop-i-preserved
loop-i-preserved c =
    let xs = c.args.found.now.texts in
    let x = c.index.result.now in
    let lt : c.loop-i.i < length xs.items = (let n = xs.ok.0 in let l = c.len-i-end.ensures in let t = c.loop-i-test.true in omega arith) in
    let start : NumberedTexts = record { texts = c.new.result; none = c.args.found.now.none } in
    record {
      memo = λ on are. c.in_ok-put_numbered.ensures.memo on (c.loop-i.invariant.memo on are);
      gains = below_more (λ y o. o ≡ Some y.now) xs.items (NumberedHave start) (NumberedHave c.loop-i.made) (NumberedHave c.put_numbered.new.made) c.loop-i.i x
          (here xs.items c.loop-i.i x lt c.index.ensures) c.loop-i.invariant.gains c.in_ok-put_numbered.ensures.gains;
      numbered = c.in_ok-put_numbered.ensures.numbered c.loop-i.invariant.numbered;
    }

pub returns-clause-same : goal.returns-clause-same
returns-clause-same c =
    let xs = c.args.found.now.texts in
    let past : length xs.items ≤ c.loop-i.i = (let n = xs.ok.0 in let l = c.len-i-end.ensures in let t = c.loop-i-test.false in omega arith) in
    let start : NumberedTexts = record { texts = c.new.result; none = c.args.found.now.none } in
    numbered_all c.args.found.now start c.loop-i.made c.new.ensures.items refl (below_end (λ x o. o ≡ Some x.now) xs.items (NumberedHave start) (NumberedHave c.loop-i.made) c.loop-i.i past c.loop-i.invariant.gains)
