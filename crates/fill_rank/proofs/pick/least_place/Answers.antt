use Rattle.std.proofs.Common.{◌≡◌, ◌∙◌, ◌+◌, ap, sym, subst}
use Rattle.std.proofs.lemmas.Bool.{false≢true}
use Rattle.std.specs.declared.cmp.Ordering.TheVariants.{Less}
use Rattle.fill_arena.proofs.Scan.{here}
use Rattle.fill_tokens.specs.Prices.{place_cost}
use Rattle.fill_tree.specs.Order.{place_rank}
use Rattle.fill_rank.proofs.Scan.{BestBelow, below_first, below_kept, below_taken, below_done}
use Rattle.fill_rank.proofs.pick.least_place.Goals as goal
use Rattle.fill_rank.proofs.pick.least_place.Goals.{then-place_before, else-place_before}

pub loop-i-init : goal.loop-i-init
loop-i-init c = (below_first c.args.prices.now c.args.places.now c.index-places-0.result (here c.args.places.now 0 c.index-places-0.result c.requires c.index-places-0.is), c.cost-cost.ensures)

pub loop-i-preserved : goal.loop-i-preserved
loop-i-preserved c =
    let prices = c.args.prices.now in
    let xs = c.args.places.now in
    let i = c.loop-i.i in
    let p = c.index-places-i.result in
    let p2 = c.index-places-i-in-loop-i.result in
    let at = here xs i p c.loop-i-test.true c.index-places-i.is in
    let again = here xs i p2 c.loop-i-test.true c.index-places-i-in-loop-i.is in
    let same : p ≡ p2 = cc in
    let cost : c.cost-other.result ≡ place_cost prices p2 = subst (λ x. c.cost-other.result ≡ place_cost prices x) same c.cost-other.ensures in
    let told = c.place_before.ensures prices cost c.loop-i.invariant.1 in
    elim c.if-place_before.branch [
      | then-place_before w ↦
          let q = w.index-places-i-then-place_before.result in
          let third = here xs i q c.loop-i-test.true w.index-places-i-then-place_before.is in
          let best : c.if-place_before.best ≡ p2 = let e : q ≡ p2 = cc in w.best-is ∙ e in
          let less : place_rank prices p2 c.loop-i.best ≡ Less = told.0 w.if-place_before.true in (
            subst (BestBelow prices xs (i + 1)) (sym best) (below_taken prices xs i c.loop-i.best p2 again c.loop-i.invariant.0 less),
            w.cost-is ∙ cost ∙ ap (place_cost prices) (sym best),
          )
      | else-place_before w ↦
          let not : ¬ (place_rank prices p2 c.loop-i.best ≡ Less) = λ h. let yes = told.1 h in let no = w.if-place_before.false in false≢true cc in (
            subst (BestBelow prices xs (i + 1)) (sym w.best-is) (below_kept prices xs i c.loop-i.best p2 again c.loop-i.invariant.0 not),
            w.cost-is ∙ c.loop-i.invariant.1 ∙ ap (place_cost prices) (sym w.best-is),
          )
    ]

pub returns : goal.returns
returns c = below_done c.args.prices.now c.args.places.now c.loop-i.i c.loop-i.best c.loop-i-test.false c.loop-i.invariant.0
