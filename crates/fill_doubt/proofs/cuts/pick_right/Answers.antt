use Rattle.std.proofs.Common.{◌-◌, ◌≤◌, get_or, length, reverse, arith}
use Rattle.std.proofs.lemmas.List.{length-reverse}
use Rattle.fill_tokens.proofs.CutLaws.{from_right}
use Rattle.fill_doubt.proofs.Cut.{nth_right, nth_within}
use Rattle.fill_doubt.proofs.cuts.pick_right.Goals as goal

pub returns-then-count-cuts : goal.returns-then-count-cuts
returns-then-count-cuts c = λ l r t are.
    let cuts = c.args.cuts.now in
    (from_right l r t cuts are c.args.number (get_or cuts (length cuts - c.args.number) 0)).1 (nth_right cuts c.args.number c.requires c.if-count-cuts.true)

pub returns-else-count-cuts : goal.returns-else-count-cuts
returns-else-count-cuts c = λ l r t are k h.
    let cuts = c.args.cuts.now in
    let n = length-reverse cuts in
    let w : c.args.number ≤ length (reverse cuts) = nth_within (reverse cuts) c.args.number k ((from_right l r t cuts are c.args.number k).0 h) in
    omega arith
