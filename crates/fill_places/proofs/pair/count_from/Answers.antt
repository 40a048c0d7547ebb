use Rattle.std.proofs.Common.{◌+◌, ◌-◌, ℕ, arith}
use Rattle.fill_places.specs.Marks.{Common}
use Rattle.fill_places.proofs.CommonLaws.{count_back, count_before}
use Rattle.fill_places.proofs.pair.count_from.Goals as goal

pub overflow_sub-result : goal.overflow_sub-result
overflow_sub-result c =
    let p = count_before (Common c.args.l.now.at c.args.r.now.at) c.args.k c.args.upto c.requires.here c.requires.upto in
    omega (arith, p.0)

pub overflow_sub-result-2 : goal.overflow_sub-result-2
overflow_sub-result-2 c =
    let P : ℕ → Type 0 = Common c.args.l.now.at c.args.r.now.at in
    let p = count_before P c.args.k c.args.upto c.requires.here c.requires.upto in
    let q = count_back P c.args.n c.common_below-all.result c.common_below-all.ensures (c.args.n - c.args.k + 1) c.args.k (c.args.upto - 1) (omega (arith, c.requires.order)) p.1 in
    omega (arith, q.0)

pub returns : goal.returns
returns c =
    let P : ℕ → Type 0 = Common c.args.l.now.at c.args.r.now.at in
    let p = count_before P c.args.k c.args.upto c.requires.here c.requires.upto in
    (count_back P c.args.n c.common_below-all.result c.common_below-all.ensures (c.args.n - c.args.k + 1) c.args.k (c.args.upto - 1) (omega (arith, c.requires.order)) p.1).1
