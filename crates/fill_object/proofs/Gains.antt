-- Lists that serve for what has a property, as more is put to them.
use Rattle.std.proofs.Common.{◌≡◌, ◌⊎◌, ℕ, ◌+◌, ◌≤◌, List, [], ◌∷◌, ◌++◌, length, Option, Some, slice_get, inl, inr, refl, sym, subst, ◌∙◌}
use Rattle.std.specs.declared.cmp.Ordering.{Ordering}
use Rattle.std.specs.Cmp.{IsTotalOrder}
use Rattle.std.proofs.Math.ListN.{set}
use Rattle.std.proofs.lemmas.Bool.{cases_eq}
use Rattle.std.proofs.lemmas.Option.{slice_get_within}
use Rattle.std.proofs.lemmas.Map.Lookups.{CmpEqualImpliesEq}
use Rattle.fill_tree.specs.Value.{IsValue}
use Rattle.fill_arena.specs.Contents.{SomeIn}
use Rattle.fill_arena.proofs.Lists.{get_left, get_last, get_pushed}
use Rattle.fill_arena.specs.Contents.{SomeBelow}
use Rattle.fill_arena.proofs.Below.{none_below, below_split, below_left, below_here, some_below, some_in}
use Rattle.fill_arena.proofs.Best.{at_most-itself, at_most-trans}
use Rattle.fill_arena.proofs.Items.{set_here, set_apart}
use Rattle.fill_object.specs.Leasts.{IsOrServes, Takes, Kind, valued, Gains, AreLeasts}

-- what serving keeps to
pub record Laws {E A : Type 0} (k : Kind E A) : Type 0 where
  pub itself : (x : E) → k.Like x x
  pub then : (x y z : E) → k.Like x y → k.Like y z → k.Like x z
  pub on : (x y : E) (a : A) → k.Like x y → k.For a y → k.For a x

pub valued_laws : {E A V : Type 0} (tree : E → A) (value : E → Option V) (order : A → A → Ordering) (Is : A → V → Type 0) → IsTotalOrder order → CmpEqualImpliesEq order → Laws (valued tree value order Is)
valued_laws tree value order Is total exact = record {
  itself = λ x. (at_most-itself order total exact (tree x), refl);
  then = λ x y z h l. (at_most-trans order total exact (tree x) (tree y) (tree z) h.0 l.0, h.1 ∙ l.1);
  on = λ x y a h l. (at_most-trans order total exact (tree x) (tree y) a h.0 l.0, subst (IsValue (Is a)) (sym h.1) l.1);
}

-- one more at the end, or in the place of one that it serves for, or not at all
module _ {E : Type 0} (serves : E → E → Type 0) (old : List E) (next : E) where
  pub pushed : Takes serves old next (old ++ next ∷ [])
  pushed = record {
    from = λ n x h. elim (get_pushed old next n x h) [ inl a ↦ inl (n, a.1) | inr b ↦ inr (sym b.1) ];
    covers = λ n y h. (y, (n, get_left old (next ∷ []) n (slice_get_within old n y h) ∙ h), inl refl);
    there = (next, (length old, get_last old next), inl refl);
  }

  pub not_taken : (i : ℕ) (x : E) → slice_get old i ≡ Some x → serves x next → Takes serves old next old
  not_taken i x at h = record {
    from = λ n y there. inl (n, there);
    covers = λ n y there. (y, (n, there), inl refl);
    there = (x, (i, at), inr h);
  }

  pub replaced : (i : ℕ) (x : E) → slice_get old i ≡ Some x → serves next x → Takes serves old next (set old i next)
  replaced i x at h = record {
    from = λ n y there. elim (cases_eq n i) [
      | inl same ↦
          let moved : slice_get (set old i next) i ≡ Some y = subst (λ m. slice_get (set old i next) m ≡ Some y) same there in
          let put = set_here old i next (slice_get_within old i x at) in
          let one : y ≡ next = cc in
          inr one
      | inr apart ↦ inl (n, sym (set_apart old i next n apart) ∙ there)
    ];
    covers = λ n y there. elim (cases_eq n i) [
      | inl same ↦
          let moved : slice_get old i ≡ Some y = subst (λ m. slice_get old m ≡ Some y) same there in
          let one : x ≡ y = cc in
          (next, (i, set_here old i next (slice_get_within old i x at)), inr (subst (serves next) one h))
      | inr apart ↦ (y, (n, set_apart old i next n apart ∙ there), inl refl)
    ];
    there = (next, (i, set_here old i next (slice_get_within old i x at)), inl refl);
  }

module _ {E A : Type 0} (k : Kind E A) (law : Laws k) where
  like_of : (x y : E) → IsOrServes k.Like x y → k.Like x y
  like_of x y (inl same) = subst (k.Like x) same (law.itself x)
  like_of x y (inr h) = h

  pub gains_none : (Q : A → Type 0) → ((a : A) → ¬ (Q a)) → (xs : List E) → Gains k Q xs xs
  gains_none Q none xs = record {
    from = λ n x h. inl (n, h);
    covers = λ n y h. (y, (n, h), law.itself y);
    there = λ a q. absurd (none a q);
  }

  -- one more was taken
  pub gains_take : (Q : A → Type 0) (old new : List E) (x : E) → Takes k.Like old x new → Q (k.tree x) → k.Right x → ((a : A) → Q a → k.For a x) → Gains k Q old new
  gains_take Q old new x takes has right all = record {
    from = λ n y h. elim (takes.from n y h) [ inl there ↦ inl there | inr same ↦ inr (subst (λ z. Q (k.tree z) × k.Right z) (sym same) (has, right)) ];
    covers = λ n y h. let there = takes.covers n y h in (there.0, there.1, like_of there.0 y there.2);
    there = λ a q. let there = takes.there in (there.0, there.1, law.on there.0 x a (like_of there.0 x there.2) (all a q));
  }

  -- two steps after each other
  pub gains_then : (P Q S : A → Type 0) → ((a : A) → S a → P a ⊎ Q a) → ((a : A) → P a → S a) → ((a : A) → Q a → S a) →
      (old mid new : List E) → Gains k P old mid → Gains k Q mid new → Gains k S old new
  gains_then P Q S split left right old mid new first second = record {
    from = λ n x h. elim (second.from n x h) [
      | inl there ↦ elim (first.from there.0 x there.1) [ inl before ↦ inl before | inr p ↦ inr (left (k.tree x) p.0, p.1) ]
      | inr q ↦ inr (right (k.tree x) q.0, q.1)
    ];
    covers = λ n y h.
        let one = first.covers n y h in
        let two = second.covers one.1.0 one.0 one.1.1 in
        (two.0, two.1, law.then two.0 one.0 y two.2 one.2);
    there = λ a s. elim (split a s) [
      | inl p ↦
          let one = first.there a p in
          let two = second.covers one.1.0 one.0 one.1.1 in
          (two.0, two.1, law.on two.0 one.0 a two.2 one.2)
      | inr q ↦ second.there a q
    ];
  }

  -- what serves for some serves for more
  pub gains_through : (P S : A → Type 0) → ((a : A) → P a → S a) → ((a : A) → S a → (b : A) × P b × ((x : E) → k.For b x → k.For a x)) →
      (old new : List E) → Gains k P old new → Gains k S old new
  gains_through P S from to old new gains = record {
    from = λ n x h. elim (gains.from n x h) [ inl there ↦ inl there | inr p ↦ inr (from (k.tree x) p.0, p.1) ];
    covers = gains.covers;
    there = λ a s. let b = to a s in let x = gains.there b.0 b.1 in (x.0, x.1, b.2 x.0 x.2);
  }

  pub gains_same : (P S : A → Type 0) → ((a : A) → P a → S a) → ((a : A) → S a → P a) → (old new : List E) → Gains k P old new → Gains k S old new
  gains_same P S from to old new gains = gains_through P S from (λ a s. (a, to a s, λ x h. h)) old new gains

  -- from nothing on
  pub leasts_whole : (Q : A → Type 0) (new : List E) → Gains k Q [] new → AreLeasts k Q new
  leasts_whole Q new gains = record {
    each = λ n x h. elim (gains.from n x h) [ inl there ↦ absurd (nothing there.0 x there.1) | inr q ↦ q ];
    least = gains.there;
  }
    where
      nothing : (n : ℕ) (x : E) → ¬ (slice_get {X = E} [] n ≡ Some x)
      nothing n x h = cc

  pub leasts_from : (Q : A → Type 0) (old new : List E) → old ≡ [] → Gains k Q old new → AreLeasts k Q new
  leasts_from Q old new nil gains = leasts_whole Q new (subst (λ xs. Gains k Q xs new) nil gains)

  -- and more put to them
  pub leasts_then : (P Q S : A → Type 0) → ((a : A) → S a → P a ⊎ Q a) → ((a : A) → P a → S a) → ((a : A) → Q a → S a) →
      (mid new : List E) → AreLeasts k P mid → Gains k Q mid new → AreLeasts k S new
  leasts_then P Q S split left right mid new first second = record {
    each = λ n x h. elim (second.from n x h) [
      | inl there ↦ let p = first.each there.0 x there.1 in (left (k.tree x) p.0, p.1)
      | inr q ↦ (right (k.tree x) q.0, q.1)
    ];
    least = λ a s. elim (split a s) [
      | inl p ↦
          let one = first.least a p in
          let two = second.covers one.1.0 one.0 one.1.1 in
          (two.0, two.1, law.on two.0 one.0 a two.2 one.2)
      | inr q ↦ second.there a q
    ];
  }

  -- one item after the other
  module _ {X : Type 0} (F : X → A → Type 0) (xs : List X) where
    abbrev Below : ℕ → A → Type 0
    Below i a = SomeBelow i xs (λ x. F x a)

    pub scan_none : (old : List E) → Gains k (λ a. SomeBelow 0 xs (λ x. F x a)) old old
    scan_none old = gains_none (Below 0) (none_below F xs) old

    pub scan_more : (i : ℕ) (x : X) → slice_get xs i ≡ Some x → (old mid new : List E) → Gains k (λ a. SomeBelow i xs (λ y. F y a)) old mid → Gains k (F x) mid new →
        Gains k (λ a. SomeBelow (i + 1) xs (λ y. F y a)) old new
    scan_more i x at old mid new first second =
        gains_then (Below i) (F x) (Below (i + 1)) (below_split F xs i x at) (below_left F xs i) (below_here F xs i x at) old mid new first second

    pub scan_done : (i : ℕ) → length xs ≤ i → (old new : List E) → Gains k (λ a. SomeBelow i xs (λ x. F x a)) old new → Gains k (λ a. SomeIn (λ x. F x a) xs) old new
    scan_done i past old new gains =
        gains_same (Below i) (λ a. SomeIn (λ x. F x a) xs) (some_in F xs i) (some_below F xs i past) old new gains

pub leasts_same : {E A : Type 0} (k : Kind E A) (P S : A → Type 0) → ((a : A) → P a → S a) → ((a : A) → S a → P a) → (xs : List E) → AreLeasts k P xs → AreLeasts k S xs
leasts_same k P S from to xs are = record {
  each = λ n x h. let own = are.each n x h in (from (k.tree x) own.0, own.1);
  least = λ a s. are.least a (to a s);
}
