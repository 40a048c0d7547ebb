use Rattle.std.proofs.Common.{◌-◌, ◌≤◌, get_or, length, arith}
use Rattle.fill_tokens.proofs.CutLaws.{from_left}
use Rattle.fill_doubt.proofs.Cut.{nth_left, nth_within}
use Rattle.fill_doubt.proofs.cuts.pick_left.Goals as goal

pub returns-then-place-cuts : goal.returns-then-place-cuts
returns-then-place-cuts c = λ l r t are.
    let cuts = c.args.cuts.now in
    let i = c.args.number - 1 in
    (from_left l r t cuts are c.args.number (get_or cuts i 0)).1 (nth_left cuts c.args.number i (omega arith) c.if-place-cuts.true)

pub returns-else-place-cuts : goal.returns-else-place-cuts
returns-else-place-cuts c = λ l r t are k h.
    let cuts = c.args.cuts.now in
    let w : c.args.number ≤ length cuts = nth_within cuts c.args.number k ((from_left l r t cuts are c.args.number k).0 h) in
    omega arith
