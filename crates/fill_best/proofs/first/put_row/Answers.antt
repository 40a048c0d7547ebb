use Rattle.std.proofs.Common.{◌≡◌, ◌⊎◌, ℕ, ◌+◌, refl, sym, ap, subst, arith}
use Rattle.std.specs.Prelude.{Contains}
use Rattle.fill_best.specs.Costs.{by_cost, linked}
use Rattle.fill_best.specs.declared.costed.Costed.{Costed}
use Rattle.fill_best.specs.First.{AreFirst, IsPast}
use Rattle.fill_best.proofs.Costs.{by_cost-total, by_cost-exact, linked-second}
use Rattle.fill_best.proofs.Putting.{first_itself, row_none, row_more, row_end, row_past}
use Rattle.fill_best.proofs.first.put_row.Goals as goal

abbrev costed : {A : Type 0} → ℕ → A → Costed A
costed cost item = record { cost = cost; item = item }

with_item : {A : Type 0} (cost : ℕ) (a b : A) → a ≡ b → costed cost a ≡ costed cost b
with_item cost a b e = ap (costed cost) e

pub loop-second-init : goal.loop-second-init
loop-second-init g c =
    let R = by_cost g.T.Ordered.order in
    let ranking = c.args.ranking.now.items in
    row_none R (by_cost-total g.T.Ordered.order g.met.T.Ordered.total) (by_cost-exact g.T.Ordered.order g.met.T.Ordered.exact) (linked g.T.Composite.composite c.args.link) c.args.limit
    (Contains ranking) c.args.first.now c.args.seconds.now ranking (first_itself R c.args.limit ranking c.requires.rising c.requires.few)

pub overflow_add-cost : goal.overflow_add-cost
overflow_add-cost g c =
    let cheap = c.requires.cheap c.second-item.result (c.loop-second.second-index, c.loop-second-test.true, sym c.second-item.is) in
    omega arith

pub overflow_add-cost-in-loop-second : goal.overflow_add-cost-in-loop-second
overflow_add-cost-in-loop-second g c =
    let cheap = c.requires.cheap c.second-item.result (c.loop-second.second-index, c.loop-second-test.true, sym c.second-item.is) in
    omega arith

pub returns-then-is_past : goal.returns-then-is_past
returns-then-is_past g c =
    let R = by_cost g.T.Ordered.order in
    let made = linked g.T.Composite.composite c.args.link in
    let y = c.second-item.result in
    let past = c.if-is_past.ensures refl (made c.args.first.now y) refl in
    row_past R (by_cost-total g.T.Ordered.order g.met.T.Ordered.total) (by_cost-exact g.T.Ordered.order g.met.T.Ordered.exact) made c.args.limit
    (Contains c.args.ranking.now.items) c.args.first.now c.args.seconds.now (by_cost g.B.Ordered.order) (by_cost-total g.B.Ordered.order g.met.B.Ordered.total)
    (linked-second g.A.Ordered.order g.B.Ordered.order g.T.Ordered.order g.T.Composite.composite g.met.T.Composite.by_parts c.args.link g.met.A.Ordered.total c.args.first.now)
    c.requires.seconds c.loop-second.second-index c.loop-second.second-index y c.loop-second.ranking.items c.loop-second-test.true (omega arith) c.second-item.is c.loop-second.invariant
    (subst (λ xs. IsPast R c.args.limit xs (made c.args.first.now y)) c.as_slice.ensures.value past)

pub loop-second-preserved : goal.loop-second-preserved
loop-second-preserved g c =
    let R = by_cost g.T.Ordered.order in
    let made = linked g.T.Composite.composite c.args.link in
    let x = c.args.first.now in
    let y = c.second-item.result in
    let ranking = c.loop-second.ranking.items in
    let same = with_item (c.args.link + x.cost + y.cost) c.in-Ok.item (g.T.Composite.composite x.item y.item) c.in-Ok.ensures in
    let after = subst (λ v. AreFirst R (λ z. Contains ranking z ⊎ (z ≡ v)) c.args.limit c.put.new.ranking.items) same c.in-Ok-false.ensures.first in
    row_more R (by_cost-total g.T.Ordered.order g.met.T.Ordered.total) (by_cost-exact g.T.Ordered.order g.met.T.Ordered.exact) made c.args.limit
    (Contains c.args.ranking.now.items) x c.args.seconds.now c.loop-second.second-index y ranking c.put.new.ranking.items c.loop-second-test.true c.second-item.is c.loop-second.invariant after

pub returns-in-Ok-true : goal.returns-in-Ok-true
returns-in-Ok-true g c =
    let R = by_cost g.T.Ordered.order in
    let total = by_cost-total g.T.Ordered.order g.met.T.Ordered.total in
    let exact = by_cost-exact g.T.Ordered.order g.met.T.Ordered.exact in
    let made = linked g.T.Composite.composite c.args.link in
    let x = c.args.first.now in
    let y = c.second-item.result in
    let i = c.loop-second.second-index in
    let ranking = c.loop-second.ranking.items in
    let new = c.put.new.ranking.items in
    let same = with_item (c.args.link + x.cost + y.cost) c.in-Ok.item (g.T.Composite.composite x.item y.item) c.in-Ok.ensures in
    let after = subst (λ v. AreFirst R (λ z. Contains ranking z ⊎ (z ≡ v)) c.args.limit new) same c.in-Ok-true.ensures.first in
    let more = row_more R total exact made c.args.limit (Contains c.args.ranking.now.items) x c.args.seconds.now i y ranking new c.loop-second-test.true c.second-item.is c.loop-second.invariant after in
    let past = subst (IsPast R c.args.limit new) same (c.in-Ok-true.ensures.past c.in-Ok-true.field-0-test) in
    row_past R total exact made c.args.limit (Contains c.args.ranking.now.items) x c.args.seconds.now (by_cost g.B.Ordered.order) (by_cost-total g.B.Ordered.order g.met.B.Ordered.total)
    (linked-second g.A.Ordered.order g.B.Ordered.order g.T.Ordered.order g.T.Composite.composite g.met.T.Composite.by_parts c.args.link g.met.A.Ordered.total x)
    c.requires.seconds i (i + 1) y new c.loop-second-test.true (omega arith) c.second-item.is more past

pub returns : goal.returns
returns g c =
    row_end (by_cost g.T.Ordered.order) (by_cost-total g.T.Ordered.order g.met.T.Ordered.total) (by_cost-exact g.T.Ordered.order g.met.T.Ordered.exact) (linked g.T.Composite.composite c.args.link)
    c.args.limit (Contains c.args.ranking.now.items) c.args.first.now c.args.seconds.now c.loop-second.second-index c.loop-second.ranking.items c.loop-second-test.false c.loop-second.invariant
