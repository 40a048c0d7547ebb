use Rattle.std.proofs.Common.{◌≡◌, ◌-◌, ◌<◌, suc, length, sym, subst, arith}
use Rattle.std.specs.Prelude.{Contains}
use Rattle.std.proofs.Common.{take, drop}
use Rattle.std.specs.declared.cmp.Ordering.TheVariants.{Less}
use Rattle.fill_best.specs.Costs.{by_cost}
use Rattle.fill_best.proofs.Costs.{by_cost-total, by_cost-exact}
use Rattle.fill_best.proofs.Items.{none_in}
use Rattle.fill_best.proofs.Putting.{low_of, high_of, greater_turned}
use Rattle.fill_best.proofs.Items.{drop_whole}
use Rattle.fill_best.proofs.first.place_of.Goals as goal

pub loop-at-init : goal.loop-at-init
loop-at-init g c = record { within = omega arith; high = λ z d. absurd (none_in z (subst (λ l. Contains l z) (drop_whole c.args.ranking.now) d)) }

pub offset_bounds-ranking-at : goal.offset_bounds-ranking-at
offset_bounds-ranking-at g c = let within = c.loop-at.invariant.within in omega arith

pub bounds-ranking-at : goal.bounds-ranking-at
bounds-ranking-at g c = let within = c.loop-at.invariant.within in let some = c.loop-at-test.true in omega arith

pub returns-in-Greater : goal.returns-in-Greater
returns-in-Greater g c =
    let R = by_cost g.T.Ordered.order in
    let total = by_cost-total g.T.Ordered.order g.met.T.Ordered.total in
    let ranking = c.args.ranking.now in
    let n = c.loop-at.at - 1 in
    let x = c.index-ranking-at.result in
    let within = c.loop-at.invariant.within in
    let some = c.loop-at-test.true in
    let next : suc n ≡ c.loop-at.at = omega arith in
    let lt : n < length ranking = omega arith in
    let before : R x c.args.next.now ≡ Less = greater_turned (R c.args.next.now x) (R x c.args.next.now) (total.antisymm x c.args.next.now) (sym c.in-Greater.ensures) in
    record {
      within = within;
      low = subst (λ m. (z : _) → Contains (take m ranking) z → R z c.args.next.now ≡ Less) next (low_of R total n ranking x c.args.next.now c.requires lt c.index-ranking-at.is before);
      high = c.loop-at.invariant.high;
    }

pub returns-in-Equal : goal.returns-in-Equal
returns-in-Equal g c =
    let ranking = c.args.ranking.now in
    let n = c.loop-at.at - 1 in
    let x = c.index-ranking-at.result in
    let within = c.loop-at.invariant.within in
    let some = c.loop-at-test.true in
    let lt : n < length ranking = omega arith in
    let same : c.args.next.now ≡ x = by_cost-exact g.T.Ordered.order g.met.T.Ordered.exact c.args.next.now x (sym c.in-Equal.ensures) in
    subst (Contains ranking) (sym same) (n, lt, sym c.index-ranking-at.is)

pub loop-at-preserved : goal.loop-at-preserved
loop-at-preserved g c =
    let R = by_cost g.T.Ordered.order in
    let total = by_cost-total g.T.Ordered.order g.met.T.Ordered.total in
    let ranking = c.args.ranking.now in
    let n = c.loop-at.at - 1 in
    let x = c.index-ranking-at.result in
    let within = c.loop-at.invariant.within in
    let some = c.loop-at-test.true in
    let next : c.loop-at.at ≡ suc n = omega arith in
    let lt : n < length ranking = omega arith in
    record {
      within = omega arith;
      high = high_of R total n ranking x c.args.next.now lt c.index-ranking-at.is (sym c.in-Less.ensures)
          (subst (λ m. (z : _) → Contains (drop m ranking) z → R c.args.next.now z ≡ Less) next c.loop-at.invariant.high);
    }

pub returns : goal.returns
returns g c =
    let R = by_cost g.T.Ordered.order in
    let ranking = c.args.ranking.now in
    let none : c.loop-at.at ≡ 0 = (let done = c.loop-at-test.false in omega arith) in
    record {
      within = omega arith;
      low = λ z d. absurd (none_in z d);
      high = subst (λ m. (z : _) → Contains (drop m ranking) z → R c.args.next.now z ≡ Less) none c.loop-at.invariant.high;
    }
