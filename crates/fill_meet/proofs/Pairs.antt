-- The steps of the loops over pairs of items.
use Rattle.std.proofs.Common.{◌≡◌, ◌↔◌, ℕ, ◌+◌, ◌<◌, ◌≤◌, ◌⊎◌, inl, inr, List, [], ◌∷◌, ◌++◌, length, Some, slice_get, sym, subst, arith}
use Rattle.std.proofs.lemmas.Bool.{cases_lt}
use Rattle.std.proofs.lemmas.Option.{slice_get_within}
use Rattle.fill_arena.specs.Contents.{SomeIn, Extends}
use Rattle.fill_arena.specs.declared.entry.Entry.{Entry}
use Rattle.fill_arena.proofs.Lists.{extends_on}
use Rattle.fill_meet.specs.Meet.{AreMet, AreApart}
use Rattle.fill_meet.specs.Sets.{PairsMeet}
use Rattle.fill_meet.proofs.Lists.{same_value, in_empty, in_pushed, in_last, some_more}

module _ {A I : Type 0} (Has : List Entry → I → A → Type 0) where
  pub pairs_start : (c : List Entry) (xs ys zs : List I) → zs ≡ [] → PairsMeet Has c xs ys 0 0 zs
  pairs_start c xs ys zs e =
      rw e (record {
        back = λ d a z o h. absurd (in_empty z h);
        some = λ d z o h. absurd (in_empty z h);
        forth = λ d a k l x y o h. elim h [ inl p ↦ absurd (omega arith) | inr p ↦ (let q = p.1 in absurd (omega arith)) ];
      })

  pub pairs_stay : (c d : List Entry) (xs ys zs : List I) (i j : ℕ) → Extends c d → PairsMeet Has c xs ys i j zs → PairsMeet Has d xs ys i j zs
  pairs_stay c d xs ys zs i j o p =
      record {
        back = λ e a z q. p.back e a z (extends_on c d e o q);
        some = λ e z q. p.some e z (extends_on c d e o q);
        forth = λ e a k l x y q. p.forth e a k l x y (extends_on c d e o q);
      }

  module _ (c : List Entry) (xs ys zs : List I) (i j : ℕ) (x y : I) (hx : slice_get xs i ≡ Some x) (hy : slice_get ys j ≡ Some y) (p : PairsMeet Has c xs ys i j zs) where
    -- the pair of these two is the next one
    at_pair : (k l : ℕ) (u v : I) → (k ≡ i) × (l < j + 1) → (l < j → ⊥) → slice_get xs k ≡ Some u → slice_get ys l ≡ Some v → (u ≡ x) × (v ≡ y)
    at_pair k l u v q past gx gy =
        let less = q.1 in
        let same : l ≡ j = elim (cases_lt l j) [ inl r ↦ absurd (past r) | inr r ↦ omega arith ] in
        (same_value xs k i u x q.0 gx hx, same_value ys l j v y same gy hy)

    not_before : (l : ℕ) → j ≤ l → l < j → ⊥
    not_before l le lt = omega arith

    pub pairs_push : (z : I) (more : List I) → AreMet Has c x y z → more ≡ zs ++ z ∷ [] → PairsMeet Has c xs ys i (j + 1) more
    pairs_push z more met e =
        rw e (record {
          back = λ d a v o h f. elim (in_pushed zs z v h) [
            | inl q ↦ p.back d a v o q f
            | inr q ↦ (let b = (met.both d o a).0 (subst (λ w. Has d w a) (sym q) f) in ((x, (i, hx), b.0), (y, (j, hy), b.1)))
          ];
          some = λ d v o h. elim (in_pushed zs z v h) [
            | inl q ↦ p.some d v o q
            | inr q ↦ (let s = met.some d o in (s.0, subst (λ w. Has d w s.0) q s.1))
          ];
          forth = λ d a k l u v o h gx gy fx fy. elim h [
            | inl q ↦ some_more (λ w. Has d w a) zs z (p.forth d a k l u v o (inl q) gx gy fx fy)
            | inr q ↦ elim (cases_lt l j) [
              | inl r ↦ some_more (λ w. Has d w a) zs z (p.forth d a k l u v o (inr (q.0, r)) gx gy fx fy)
              | inr r ↦
                  let here = at_pair k l u v q (not_before l r) gx gy in
                  (z, in_last zs z, (met.both d o a).1 (subst (λ w. Has d w a) here.0 fx, subst (λ w. Has d w a) here.1 fy))
            ]
          ];
        })

    pub pairs_skip : AreApart Has c x y → PairsMeet Has c xs ys i (j + 1) zs
    pairs_skip apart =
        record {
          back = p.back;
          some = p.some;
          forth = λ d a k l u v o h gx gy fx fy. elim h [
            | inl q ↦ p.forth d a k l u v o (inl q) gx gy fx fy
            | inr q ↦ elim (cases_lt l j) [
              | inl r ↦ p.forth d a k l u v o (inr (q.0, r)) gx gy fx fy
              | inr r ↦
                  let here = at_pair k l u v q (not_before l r) gx gy in
                  absurd (apart d o a (subst (λ w. Has d w a) here.0 fx) (subst (λ w. Has d w a) here.1 fy))
            ]
          ];
        }

  pub pairs_row : (c : List Entry) (xs ys zs : List I) (i j : ℕ) → length ys ≤ j → PairsMeet Has c xs ys i j zs → PairsMeet Has c xs ys (i + 1) 0 zs
  pairs_row c xs ys zs i j long p =
      record {
        back = p.back;
        some = p.some;
        forth = λ d a k l u v o h gx gy.
            let before : (k < i) ⊎ ((k ≡ i) × (l < j)) = elim h [
              | inl q ↦ elim (cases_lt k i) [
                | inl r ↦ inl r
                | inr r ↦ (let w = slice_get_within ys l v gy in inr (omega arith, omega arith))
              ]
              | inr q ↦ (let r = q.1 in absurd (omega arith))
            ] in
            p.forth d a k l u v o before gx gy;
      }

  pub pairs_end : (c : List Entry) (xs ys zs : List I) (i : ℕ) → length xs ≤ i → PairsMeet Has c xs ys i 0 zs
      → (d : List Entry) → Extends c d → (a : A) → SomeIn (λ v. Has d v a) zs ↔ (SomeIn (λ v. Has d v a) xs × SomeIn (λ v. Has d v a) ys)
  pairs_end c xs ys zs i long p d o a = (
    λ h. p.back d a h.0 o h.1 h.2,
    λ h.
        let w = slice_get_within xs h.0.1.0 h.0.0 h.0.1.1 in
        p.forth d a h.0.1.0 h.1.1.0 h.0.0 h.1.0 o (inl (omega arith)) h.0.1.1 h.1.1.1 h.0.2 h.1.2,
  )
