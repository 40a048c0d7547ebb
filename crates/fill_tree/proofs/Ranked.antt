-- Orders that compare a cost first: how the order of a pair follows from those of its parts, where the costs add up and
-- the parts are compared one after the other.
use Rattle.std.proofs.Common.{◌≡◌, ◌⊎◌, ℕ, ◌+◌, ◌<◌, inl, inr, refl, ap, sym, ◌∙◌, arith}
use Rattle.std.specs.declared.cmp.Ordering.{Ordering}
use Rattle.std.specs.declared.cmp.Ordering.TheVariants.{Less, Equal, Greater}
use Rattle.std.specs.Cmp.{IsTotalOrder}
use Rattle.std.specs.Ordering.{nat_cmp, ordering_then}
use Rattle.std.proofs.lemmas.Bool.Decides.{nat_tests}
use Rattle.std.proofs.lemmas.Cmp.{nat_cmp_total, on_total, then_total}
use Rattle.std.proofs.lemmas.Map.Lookups.{CmpEqualImpliesEq, exact_unsigned}
use Rattle.fill_text.specs.Orders.{AtMost}
use Rattle.fill_tokens.specs.Place.{place_cmp}
use Rattle.fill_tokens.specs.Prices.{place_cost}
use Rattle.fill_tokens.specs.declared.prices.Prices.{Prices}
use Rattle.fill_tokens.proofs.OrderingLemmas.{then_first, then_second}
use Rattle.fill_tokens.proofs.PlaceLaws.{place_total, exact_places}
use Rattle.fill_tree.specs.Cost.{source_cost, atom_cost, conditions_cost}
use Rattle.fill_tree.specs.Order.{source_cmp, atom_cmp, atoms_cmp, rank, place_rank, source_rank, atom_rank, row_rank}
use Rattle.fill_tree.proofs.TreeOrder.{source_total, exact_sources, atom_total, exact_atoms, atoms_total, exact_atom_lists}

-- by the costs, and then as the second order says
abbrev pub ranked : ℕ → ℕ → Ordering → Ordering
ranked c d o = ordering_then (nat_cmp c d) o

nat_cmp-less : (c d : ℕ) → c < d → nat_cmp c d ≡ Less
nat_cmp-less c d h = grind (arith, nat_tests)

nat_cmp-less_is : (c d : ℕ) → nat_cmp c d ≡ Less → c < d
nat_cmp-less_is c d h = grind (arith, nat_tests)

pub nat_cmp-same : (c : ℕ) → nat_cmp c c ≡ Equal
nat_cmp-same c = grind (arith, nat_tests)

pub nat_cmp-add : (c d e : ℕ) → nat_cmp (c + d) (c + e) ≡ nat_cmp d e
nat_cmp-add c d e = grind (arith, nat_tests)

pub ranked-less : (c d : ℕ) (o : Ordering) → c < d → ranked c d o ≡ Less
ranked-less c d o h = ap (λ x. ordering_then x o) (nat_cmp-less c d h)

pub ranked-alike : (c d : ℕ) (o : Ordering) → c ≡ d → ranked c d o ≡ o
ranked-alike c d o h = ap (λ x. ordering_then (nat_cmp c x) o) (sym h) ∙ ap (λ x. ordering_then x o) (nat_cmp-same c)

then_less : (a o : Ordering) → ordering_then a o ≡ Less → (a ≡ Less) ⊎ ((a ≡ Equal) × (o ≡ Less))
then_less Less o h = inl refl
then_less Equal o h = inr (refl, h)
then_less Greater o h = cc

-- less means: cheaper, or as cheap and earlier
pub ranked-less_is : (c d : ℕ) (o : Ordering) → ranked c d o ≡ Less → (c < d) ⊎ ((c ≡ d) × (o ≡ Less))
ranked-less_is c d o h = elim (then_less (nat_cmp c d) o h)
    [ inl less ↦ inl (nat_cmp-less_is c d less) | inr both ↦ inr (exact_unsigned c d both.0, both.1) ]

pub ranked-equal_is : (c d : ℕ) (o : Ordering) → ranked c d o ≡ Equal → (c ≡ d) × (o ≡ Equal)
ranked-equal_is c d o h = (exact_unsigned c d (then_first _ _ h), then_second (nat_cmp c d) o h)

-- the orders of both parts decide where the costs are alike
pair-alike : (c d e f : ℕ) (o r : Ordering) → c ≡ d → e ≡ f → ranked (c + e) (d + f) (ordering_then o r) ≡ ordering_then o r
pair-alike c d e f o r h k = ranked-alike (c + e) (d + f) _ (omega arith)

-- a pair is less where its first part is less and its second one is at most the other
pub pair-less_first : (c d e f : ℕ) (o r : Ordering) → ranked c d o ≡ Less → AtMost (ranked e f r) →
    ranked (c + e) (d + f) (ordering_then o r) ≡ Less
pair-less_first c d e f o r first (inl second) = split (ranked-less_is c d o first) (ranked-less_is e f r second)
  where
    split : (c < d) ⊎ ((c ≡ d) × (o ≡ Less)) → (e < f) ⊎ ((e ≡ f) × (r ≡ Less)) → ranked (c + e) (d + f) (ordering_then o r) ≡ Less
    split (inl h) (inl k) = ranked-less (c + e) (d + f) _ (omega arith)
    split (inl h) (inr k) = ranked-less (c + e) (d + f) _ (omega arith)
    split (inr h) (inl k) = ranked-less (c + e) (d + f) _ (omega arith)
    split (inr h) (inr k) = pair-alike c d e f o r h.0 k.0 ∙ ap (λ x. ordering_then x r) h.1
pair-less_first c d e f o r first (inr second) = split (ranked-less_is c d o first) (ranked-equal_is e f r second)
  where
    split : (c < d) ⊎ ((c ≡ d) × (o ≡ Less)) → (e ≡ f) × (r ≡ Equal) → ranked (c + e) (d + f) (ordering_then o r) ≡ Less
    split (inl h) k = ranked-less (c + e) (d + f) _ (omega arith)
    split (inr h) k = pair-alike c d e f o r h.0 k.0 ∙ ap (λ x. ordering_then x r) h.1

-- a pair is less where its second part is less and its first one is at most the other
pub pair-less_second : (c d e f : ℕ) (o r : Ordering) → AtMost (ranked c d o) → ranked e f r ≡ Less →
    ranked (c + e) (d + f) (ordering_then o r) ≡ Less
pair-less_second c d e f o r (inl first) second = pair-less_first c d e f o r first (inl second)
pair-less_second c d e f o r (inr first) second = split (ranked-equal_is c d o first) (ranked-less_is e f r second)
  where
    split : (c ≡ d) × (o ≡ Equal) → (e < f) ⊎ ((e ≡ f) × (r ≡ Less)) → ranked (c + e) (d + f) (ordering_then o r) ≡ Less
    split h (inl k) = ranked-less (c + e) (d + f) _ (omega arith)
    split h (inr k) = pair-alike c d e f o r h.0 k.0 ∙ ap (λ x. ordering_then x r) h.1 ∙ k.1

-- a pair is at most another where both parts are
pub pair-at_most : (c d e f : ℕ) (o r : Ordering) → AtMost (ranked c d o) → AtMost (ranked e f r) →
    AtMost (ranked (c + e) (d + f) (ordering_then o r))
pair-at_most c d e f o r (inl first) second = inl (pair-less_first c d e f o r first second)
pair-at_most c d e f o r (inr first) (inl second) = inl (pair-less_second c d e f o r (inr first) second)
pair-at_most c d e f o r (inr first) (inr second) =
    let h = ranked-equal_is c d o first in
    let k = ranked-equal_is e f r second in
    inr (pair-alike c d e f o r h.0 k.0 ∙ ap (λ x. ordering_then x r) h.1 ∙ k.1)

-- an order by the cost first is total where the second order is
module _ {A : Type 0} (cost : A → ℕ) (cmp : A → A → Ordering) where
  pub rank_total : IsTotalOrder cmp → IsTotalOrder (rank cost cmp)
  rank_total total = then_total (on_total cost nat_cmp_total) total

  pub rank_exact : CmpEqualImpliesEq cmp → CmpEqualImpliesEq (rank cost cmp)
  rank_exact exact x y h = exact x y (then_second (nat_cmp (cost x) (cost y)) _ h)

pub place_rank-total : (prices : Prices) → IsTotalOrder (place_rank prices)
place_rank-total prices = rank_total (place_cost prices) place_cmp place_total

pub place_rank-exact : (prices : Prices) → CmpEqualImpliesEq (place_rank prices)
place_rank-exact prices = rank_exact (place_cost prices) place_cmp exact_places

pub source_rank-total : (prices : Prices) → IsTotalOrder (source_rank prices)
source_rank-total prices = rank_total (source_cost prices) source_cmp source_total

pub source_rank-exact : (prices : Prices) → CmpEqualImpliesEq (source_rank prices)
source_rank-exact prices = rank_exact (source_cost prices) source_cmp exact_sources

pub atom_rank-total : (prices : Prices) → IsTotalOrder (atom_rank prices)
atom_rank-total prices = rank_total (atom_cost prices) atom_cmp atom_total

pub atom_rank-exact : (prices : Prices) → CmpEqualImpliesEq (atom_rank prices)
atom_rank-exact prices = rank_exact (atom_cost prices) atom_cmp exact_atoms

pub row_rank-total : (prices : Prices) → IsTotalOrder (row_rank prices)
row_rank-total prices = rank_total (conditions_cost prices) atoms_cmp atoms_total

pub row_rank-exact : (prices : Prices) → CmpEqualImpliesEq (row_rank prices)
row_rank-exact prices = rank_exact (conditions_cost prices) atoms_cmp exact_atom_lists
