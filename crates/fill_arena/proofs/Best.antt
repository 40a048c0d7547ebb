-- The best of a property, and of two properties together.
use Rattle.std.proofs.Common.{◌≡◌, ◌⊎◌, Option, Some, None, inl, inr, refl, sym, subst}
use Rattle.std.specs.declared.cmp.Ordering.{Ordering}
use Rattle.std.specs.declared.cmp.Ordering.TheVariants.{Less, Equal, Greater}
use Rattle.std.specs.Ordering.{ordering_reverse}
use Rattle.std.specs.Cmp.{IsTotalOrder}
use Rattle.std.proofs.lemmas.Map.Lookups.{CmpEqualImpliesEq}
use Rattle.fill_text.specs.Orders.{AtMost}
use Rattle.fill_arena.specs.Best.{IsBest, IsBestOf, IsLesser}

alike_itself : (o : Ordering) → o ≡ ordering_reverse o → o ≡ Equal
alike_itself Less e = cc
alike_itself Equal e = refl
alike_itself Greater e = cc

at_most_back : (o q : Ordering) → o ≡ ordering_reverse q → ¬ (q ≡ Less) → AtMost o
at_most_back o Less e h = absurd (h refl)
at_most_back o Equal e h = inr e
at_most_back o Greater e h = inl e

module _ {A : Type 0} (R : A → A → Ordering) (total : IsTotalOrder R) (exact : CmpEqualImpliesEq R) where
  pub at_most-itself : (x : A) → AtMost (R x x)
  at_most-itself x = inr (alike_itself (R x x) (total.antisymm x x))

  pub at_most-trans : (x y z : A) → AtMost (R x y) → AtMost (R y z) → AtMost (R x z)
  at_most-trans x y z (inl h) (inl k) = inl (total.trans x y z h k)
  at_most-trans x y z (inl h) (inr k) = inl (subst (λ w. R x w ≡ Less) (exact y z k) h)
  at_most-trans x y z (inr h) k = subst (λ w. AtMost (R w z)) (sym (exact x y h)) k

  pub at_most-not_less : (x y : A) → ¬ (R y x ≡ Less) → AtMost (R x y)
  at_most-not_less x y h = at_most_back (R x y) (R y x) (total.antisymm x y) h

  -- what has one of two properties, where the best of the first is no later than that of the second
  pub best_first : (P Q S : A → Type 0) → ((z : A) → S z → P z ⊎ Q z) → ((z : A) → P z → S z) → (x y : A) →
      IsBest R P x → IsBest R Q y → AtMost (R x y) → IsBest R S x
  best_first P Q S split left x y p q le = record {
    has = left x p.has;
    least = λ z s. elim (split z s) [ inl h ↦ p.least z h | inr h ↦ at_most-trans x y z le (q.least z h) ];
  }

  pub best_second : (P Q S : A → Type 0) → ((z : A) → S z → P z ⊎ Q z) → ((z : A) → Q z → S z) → (x y : A) →
      IsBest R P x → IsBest R Q y → AtMost (R y x) → IsBest R S y
  best_second P Q S split right x y p q le = record {
    has = right y q.has;
    least = λ z s. elim (split z s) [ inl h ↦ at_most-trans y x z le (p.least z h) | inr h ↦ q.least z h ];
  }

  pub best_same : (P S : A → Type 0) → ((z : A) → S z → P z) → ((z : A) → P z → S z) → (x : A) → IsBest R P x → IsBest R S x
  best_same P S to from x p = record { has = from x p.has; least = λ z s. p.least z (to z s) }

  pub left_only : (P Q S : A → Type 0) → ((z : A) → S z → P z ⊎ Q z) → ((z : A) → ¬ (Q z)) → (z : A) → S z → P z
  left_only P Q S split none z s = elim (split z s) [ inl h ↦ h | inr h ↦ absurd (none z h) ]

  pub right_only : (P Q S : A → Type 0) → ((z : A) → S z → P z ⊎ Q z) → ((z : A) → ¬ (P z)) → (z : A) → S z → Q z
  right_only P Q S split none z s = elim (split z s) [ inl h ↦ absurd (none z h) | inr h ↦ h ]

  module _ {T : Type 0} (tree : T → A) (P Q S : A → Type 0) (split : (z : A) → S z → P z ⊎ Q z) (left : (z : A) → P z → S z) (right : (z : A) → Q z → S z) where
    pub best_lesser : (a b r : Option T) → IsLesser (λ x y. R (tree x) (tree y)) a b r → IsBestOf tree R P a → IsBestOf tree R Q b → IsBestOf tree R S r
    best_lesser None None r is p q = subst (IsBestOf tree R S) (sym is) (λ z s. elim (split z s) [ inl h ↦ p z h | inr h ↦ q z h ])
    best_lesser None (Some y) r is p q = subst (IsBestOf tree R S) (sym is) (best_same Q S (right_only P Q S split p) right (tree y) q)
    best_lesser (Some x) None r is p q = subst (IsBestOf tree R S) (sym is) (best_same P S (left_only P Q S split q) left (tree x) p)
    best_lesser (Some x) (Some y) r (inl is) p q = subst (IsBestOf tree R S) (sym is.0) (best_second P Q S split right (tree x) (tree y) p q (inl is.1))
    best_lesser (Some x) (Some y) r (inr is) p q =
        subst (IsBestOf tree R S) (sym is.0) (best_first P Q S split left (tree x) (tree y) p q (at_most-not_less (tree x) (tree y) is.1))
