-- The order by costs, and what two costed items make.
use Rattle.std.proofs.Common.{◌≡◌, ℕ, ◌+◌, inr, refl, ap, ◌∙◌}
use Rattle.std.specs.Cmp.{IsTotalOrder}
use Rattle.std.specs.declared.cmp.Ordering.{Ordering}
use Rattle.std.specs.declared.cmp.Ordering.TheVariants.{Less}
use Rattle.std.specs.Ordering.{nat_cmp, ordering_then}
use Rattle.std.proofs.lemmas.Cmp.{nat_cmp_total, on_total, then_total, tied_itself}
use Rattle.std.proofs.lemmas.Map.Lookups.{CmpEqualImpliesEq, exact_unsigned}
use Rattle.fill_text.specs.Orders.{AtMost}
use Rattle.fill_tokens.proofs.OrderingLemmas.{then_first, then_second}
use Rattle.fill_tree.proofs.Ranked.{ranked, ranked-alike, nat_cmp-add, pair-less_first, pair-less_second}
use Rattle.fill_best.specs.Costs.{by_cost, linked}
use Rattle.fill_best.specs.declared.costed.Costed.{Costed}

module _ {A : Type 0} (R : A → A → Ordering) where
  pub by_cost-total : IsTotalOrder R → IsTotalOrder (by_cost R)
  by_cost-total total = then_total (on_total (λ (x : Costed A). x.cost) nat_cmp_total) (on_total (λ (x : Costed A). x.item) total)

  pub by_cost-exact : CmpEqualImpliesEq R → CmpEqualImpliesEq (by_cost R)
  by_cost-exact exact x y h =
      let costs : x.cost ≡ y.cost = exact_unsigned x.cost y.cost (then_first _ _ h) in
      let items : x.item ≡ y.item = exact x.item y.item (then_second (nat_cmp x.cost y.cost) (R x.item y.item) h) in
      λ i. record { cost = costs i; item = items i }

-- a fixed cost more on both sides changes nothing
shifted : (link c d : ℕ) (o : Ordering) → ranked (link + c) (link + d) o ≡ ranked c d o
shifted link c d o = ap (λ n. ordering_then n o) (nat_cmp-add link c d)

module _ {A B D : Type 0} (R : A → A → Ordering) (S : B → B → Ordering) (T : D → D → Ordering) (make : A → B → D)
    (by_parts : (a b : A) (c d : B) → T (make a c) (make b d) ≡ ordering_then (R a b) (S c d)) (link : ℕ) where
  pub linked-first : IsTotalOrder S → (x y : Costed A) (z : Costed B) → by_cost R x y ≡ Less → by_cost T (linked make link x z) (linked make link y z) ≡ Less
  linked-first total x y z less =
      let first = shifted link x.cost y.cost (R x.item y.item) ∙ less in
      let second : AtMost (ranked z.cost z.cost (S z.item z.item)) = inr (ranked-alike z.cost z.cost (S z.item z.item) refl ∙ tied_itself total z.item) in
      ap (ranked (link + x.cost + z.cost) (link + y.cost + z.cost)) (by_parts x.item y.item z.item z.item)
      ∙ pair-less_first (link + x.cost) (link + y.cost) z.cost z.cost (R x.item y.item) (S z.item z.item) first second

  pub linked-second : IsTotalOrder R → (z : Costed A) (x y : Costed B) → by_cost S x y ≡ Less → by_cost T (linked make link z x) (linked make link z y) ≡ Less
  linked-second total z x y less =
      let first : AtMost (ranked (link + z.cost) (link + z.cost) (R z.item z.item)) = inr (ranked-alike (link + z.cost) (link + z.cost) (R z.item z.item) refl ∙ tied_itself total z.item) in
      ap (ranked (link + z.cost + x.cost) (link + z.cost + y.cost)) (by_parts z.item z.item x.item y.item)
      ∙ pair-less_second (link + z.cost) (link + z.cost) x.cost y.cost (R z.item z.item) (S x.item y.item) first less
