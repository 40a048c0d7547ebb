-- Looking for the best, one item after the other.
use Rattle.std.proofs.Common.{◌≡◌, ℕ, ◌+◌, ◌<◌, ◌≤◌, List, length, Option, Some, None, inl, inr, subst, slice_get, arith}
use Rattle.std.specs.declared.cmp.Ordering.{Ordering}
use Rattle.std.specs.declared.cmp.Ordering.TheVariants.{Less}
use Rattle.std.specs.Cmp.{IsTotalOrder}
use Rattle.std.proofs.lemmas.Bool.{cases_lt}
use Rattle.std.proofs.lemmas.Option.{slice_get_within}
use Rattle.std.proofs.lemmas.Map.Lookups.{CmpEqualImpliesEq}
use Rattle.fill_tokens.specs.declared.place.Place.{Place}
use Rattle.fill_tokens.specs.declared.prices.Prices.{Prices}
use Rattle.fill_arena.specs.Contents.{In, SomeBelow, SomeIn}
use Rattle.fill_text.specs.Orders.{AtMost}
use Rattle.fill_arena.specs.Best.{IsBest, IsBestOf, IsLesser}
use Rattle.fill_tree.specs.Order.{place_rank}
use Rattle.fill_arena.proofs.Below.{below_here, below_left, below_split, same_item, some_below, some_in}
use Rattle.fill_arena.proofs.Best.{at_most-itself, at_most-trans, at_most-not_less, best_lesser}
use Rattle.fill_tree.proofs.Ranked.{place_rank-total, place_rank-exact}

-- an item that is at most each of the first ones
pub record BestBelow (prices : Prices) (xs : List Place) (i : ℕ) (x : Place) : Type 0 where
  pub listed : In x xs
  pub least : (k : ℕ) (p : Place) → k < i → slice_get xs k ≡ Some p → AtMost (place_rank prices x p)

pub below_first : (prices : Prices) (xs : List Place) (x : Place) → slice_get xs 0 ≡ Some x → BestBelow prices xs 1 x
below_first prices xs x at = record {
  listed = (0, at);
  least = λ k p lt there. subst (λ y. AtMost (place_rank prices x y)) (same_item xs 0 k x p at there (omega arith)) (at_most-itself (place_rank prices) (place_rank-total prices) (place_rank-exact prices) x);
}

pub below_kept : (prices : Prices) (xs : List Place) (i : ℕ) (x y : Place) → slice_get xs i ≡ Some y → BestBelow prices xs i x → ¬ (place_rank prices y x ≡ Less) → BestBelow prices xs (i + 1) x
below_kept prices xs i x y at best not = record {
  listed = best.listed;
  least = λ k p lt there. elim (cases_lt k i) [
    | inl less ↦ best.least k p less there
    | inr past ↦
        subst (λ z. AtMost (place_rank prices x z)) (same_item xs i k y p at there (omega arith)) (at_most-not_less (place_rank prices) (place_rank-total prices) (place_rank-exact prices) x y not)
  ];
}

pub below_taken : (prices : Prices) (xs : List Place) (i : ℕ) (x y : Place) → slice_get xs i ≡ Some y → BestBelow prices xs i x → place_rank prices y x ≡ Less → BestBelow prices xs (i + 1) y
below_taken prices xs i x y at best less = record {
  listed = (i, at);
  least = λ k p lt there. elim (cases_lt k i) [
    | inl before ↦ at_most-trans (place_rank prices) (place_rank-total prices) (place_rank-exact prices) y x p (inl less) (best.least k p before there)
    | inr past ↦
        subst (λ z. AtMost (place_rank prices y z)) (same_item xs i k y p at there (omega arith)) (at_most-itself (place_rank prices) (place_rank-total prices) (place_rank-exact prices) y)
  ];
}

pub below_done : (prices : Prices) (xs : List Place) (i : ℕ) (x : Place) → length xs ≤ i → BestBelow prices xs i x → IsBest (place_rank prices) (λ p. In p xs) x
below_done prices xs i x past best = record {
  has = best.listed;
  least = λ y h. let within = slice_get_within xs h.0 y h.1 in best.least h.0 y (omega arith) h.1;
}

-- the best of items that stand for sets
module _ {X A : Type 0} (F : X → A → Type 0) (xs : List X) where
  module _ {T : Type 0} (tree : T → A) (R : A → A → Ordering) (total : IsTotalOrder R) (exact : CmpEqualImpliesEq R) where
    pub scan_step : (i : ℕ) (x : X) → slice_get xs i ≡ Some x → (best next r : Option T) → IsLesser (λ p q. R (tree p) (tree q)) best next r →
        IsBestOf tree R (λ a. SomeBelow i xs (λ y. F y a)) best → IsBestOf tree R (F x) next → IsBestOf tree R (λ a. SomeBelow (i + 1) xs (λ y. F y a)) r
    scan_step i x at best next r is b n =
        best_lesser R total exact tree (λ a. SomeBelow i xs (λ y. F y a)) (F x) (λ a. SomeBelow (i + 1) xs (λ y. F y a)) (below_split F xs i x at) (below_left F xs i) (below_here F xs i x at) best next r is b n

  module _ {T : Type 0} (tree : T → A) (R : A → A → Ordering) (S : A → Type 0) (to : (a : A) → S a → SomeIn (λ y. F y a) xs) (from : (a : A) → SomeIn (λ y. F y a) xs → S a) where
    pub scan_done : (i : ℕ) → length xs ≤ i → (best : Option T) → IsBestOf tree R (λ a. SomeBelow i xs (λ y. F y a)) best → IsBestOf tree R S best
    scan_done i past None h = λ a s. h a (some_below F xs i past a (to a s))
    scan_done i past (Some x) h = record {
      has = from (tree x) (some_in F xs i (tree x) h.has);
      least = λ a s. h.least a (some_below F xs i past a (to a s));
    }
