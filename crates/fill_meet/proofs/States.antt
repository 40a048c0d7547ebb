-- The steps of the loops over pairs of items, with what the items name.
use Rattle.std.proofs.Common.{◌≡◌, ℕ, ◌+◌, ◌≤◌, inl, inr, List, [], ◌∷◌, ◌++◌, length, Option, Some, None, slice_get, subst, arith}
use Rattle.std.specs.Prelude.{MatchOption}
use Rattle.fill_arena.specs.Contents.{EachIn, Extends}
use Rattle.fill_arena.specs.declared.entry.Entry.{Entry}
use Rattle.fill_arena.proofs.Lists.{get_pushed}
use Rattle.fill_meet.specs.Meet.{AreMet, AreApart}
use Rattle.fill_meet.specs.Sets.{PairsState}
use Rattle.fill_meet.proofs.Lists.{get_empty, extends_length}
use Rattle.fill_meet.proofs.Pairs.{pairs_start, pairs_stay, pairs_push, pairs_skip, pairs_row}

module _ {A I : Type 0} (Has : List Entry → I → A → Type 0) (Old : List Entry → ℕ → I → Type 0) (stay : (c d : List Entry) → Extends c d → (m n : ℕ) → m ≤ n → (x : I) → Old c m x → Old d n x) where
  pub state_start : (c : List Entry) (n m : ℕ) (xs ys zs : List I) → zs ≡ [] → EachIn (Old c n) xs → EachIn (Old c m) ys → PairsState Has Old c n xs ys 0 0 zs
  state_start c n m xs ys zs e f g =
      record {
        first = f;
        second = λ k x h. (m, g k x h);
        made = λ k x h. absurd (get_empty k x zs e h);
        pairs = pairs_start Has c xs ys zs e;
      }

  pub state_stays : (c d : List Entry) (n : ℕ) (xs ys zs : List I) (i j : ℕ) → Extends c d → PairsState Has Old c n xs ys i j zs → PairsState Has Old d n xs ys i j zs
  state_stays c d n xs ys zs i j o s =
      record {
        first = λ k x h. stay c d o n n (omega arith) x (s.first k x h);
        second = λ k x h. (let m = s.second k x h in (m.0, stay c d o m.0 m.0 (omega arith) x m.1));
        made = λ k x h. stay c d o (length c) (length d) (extends_length c d o) x (s.made k x h);
        pairs = pairs_stay Has c d xs ys zs i j o s.pairs;
      }

  state_put : (c : List Entry) (n : ℕ) (xs ys zs more : List I) (i j : ℕ) (x y : I) (made : Option I) → slice_get xs i ≡ Some x → slice_get ys j ≡ Some y
      → MatchOption made (AreApart Has c x y) (λ z. Old c (length c) z × AreMet Has c x y z) → MatchOption made (more ≡ zs) (λ z. more ≡ zs ++ z ∷ [])
      → PairsState Has Old c n xs ys i j zs → PairsState Has Old c n xs ys i (j + 1) more
  state_put c n xs ys zs more i j x y None hx hy m e s =
      rw e (record { first = s.first; second = s.second; made = s.made; pairs = pairs_skip Has c xs ys zs i j x y hx hy s.pairs m })
  state_put c n xs ys zs more i j x y (Some z) hx hy m e s =
      record {
        first = s.first;
        second = s.second;
        made = λ k v h. elim (get_pushed zs z k v (subst (λ l. slice_get l k ≡ Some v) e h)) [
          | inl p ↦ s.made k v p.1
          | inr p ↦ subst (λ w. Old c (length c) w) p.1 m.0
        ];
        pairs = pairs_push Has c xs ys zs i j x y hx hy s.pairs z more m.1 e;
      }

  pub state_step : (c d : List Entry) (n : ℕ) (xs ys zs more : List I) (i j : ℕ) (x y : I) (made : Option I) → Extends c d → slice_get xs i ≡ Some x → slice_get ys j ≡ Some y
      → MatchOption made (AreApart Has d x y) (λ z. Old d (length d) z × AreMet Has d x y z) → MatchOption made (more ≡ zs) (λ z. more ≡ zs ++ z ∷ [])
      → PairsState Has Old c n xs ys i j zs → PairsState Has Old d n xs ys i (j + 1) more
  state_step c d n xs ys zs more i j x y made o hx hy m e s =
      state_put d n xs ys zs more i j x y made hx hy m e (state_stays c d n xs ys zs i j o s)

  pub state_row : (c : List Entry) (n : ℕ) (xs ys zs : List I) (i j : ℕ) → length ys ≤ j → PairsState Has Old c n xs ys i j zs → PairsState Has Old c n xs ys (i + 1) 0 zs
  state_row c n xs ys zs i j long s =
      record { first = s.first; second = s.second; made = s.made; pairs = pairs_row Has c xs ys zs i j long s.pairs }
