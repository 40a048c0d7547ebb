use Rattle.std.proofs.Common.{◌≡◌, ◌-◌, ◌<◌, ◌≤◌, suc, length, ap, arith}
use Rattle.std.specs.Bool.{IsTrue}
use Rattle.std.proofs.Common.{nat_lt, ℕ}
use Rattle.std.proofs.lemmas.Bool.Decides.{nat_tests}
use Rattle.fill_best.specs.declared.costed.Costed.{Costed}
use Rattle.fill_best.specs.Costs.{by_cost}
use Rattle.fill_best.proofs.Costs.{by_cost-total}
use Rattle.fill_best.proofs.Putting.{past_last}
use Rattle.fill_tree.proofs.Ranked.{ranked-less}
use Rattle.fill_best.proofs.first.is_past.Goals as goal

dearer : {A : Type 0} (cost : A → ℕ) (x y : A) → x ≡ y → (n m : ℕ) → IsTrue (nat_lt (cost y) n) → m ≡ n → cost x < m
dearer cost x y same n m less e =
    let lt : cost y < n = grind (arith, nat_tests) in
    let equal = ap cost same in
    omega arith

pub returns : goal.returns
returns g c less x costs =
    let ranking = c.args.ranking.now in
    let last = c.index-ranking-ranking.result in
    let n = length ranking - 1 in
    let full : c.args.limit ≤ length ranking = (let f = c.if-ranking-limit.false in omega arith) in
    let ends : suc n ≡ length ranking = (let some = c.if-ranking-eq0.false in omega arith) in
    let here = c.index-ranking-ranking.is in
    let cheaper : last.cost < x.cost = dearer (λ (y : Costed g.row.T.Denot). y.cost) last _ here c.args.cost x.cost less costs in
    past_last (by_cost g.T.Ordered.order) (by_cost-total g.T.Ordered.order g.met.T.Ordered.total) c.args.limit n ranking last x c.requires full ends c.index-ranking-ranking.is
    (ranked-less last.cost x.cost (g.T.Ordered.order last.item x.item) cheaper)
