-- The values of a place in a text are those in its shape, carried over by the bounds.
use Rattle.std.proofs.Common.{◌≡◌, ℕ, zero, suc, ◌+◌, ◌<◌, ◌≤◌, List, [], ◌∷◌, ◌++◌, length, get_or, map, reverse, Option, slice_get, Some, None, refl, sym, ap, ◌∙◌, subst, arith, ℤ, pos, negsuc}
use Rattle.std.specs.Prelude.{◌↔◌}
use Rattle.std.specs.Option.{option_map}
use Rattle.std.proofs.lemmas.List.{get_or-map, length-map, map-append, reverse-append}
use Rattle.std.proofs.lemmas.Option.{slice_get-map, same_Some, get_or_from_slice_get}
use Rattle.fill_text.specs.Data.{nth}
use Rattle.fill_text.proofs.ListReads.{contains_read, read_contains}
use Rattle.fill_tokens.specs.Kind.{kind_of}
use Rattle.fill_tokens.specs.Span.{Spans, SeqSpans, IsCut}
use Rattle.fill_tokens.specs.Value.{IsCutFromLeft, IsCutFromRight, HasValue}
use Rattle.fill_tokens.specs.Cuts.{AreCuts}
use Rattle.fill_tokens.specs.declared.token.Token.{Token}
use Rattle.fill_tokens.specs.declared.place.Place.TheVariants.{Pos}
use Rattle.fill_tokens.proofs.SpanLaws.{seq_within}
use Rattle.fill_tokens.proofs.RisingLaws.{has_each}
use Rattle.fill_tokens.proofs.CutLaws.{from_left, from_right}
use Rattle.fill_tokens.proofs.ListsExist.{cuts_exist}
use Rattle.fill_shapes.specs.Stretched.{IsStretched}
use Rattle.fill_shapes.proofs.BoundLaws.{bound, bound_of, mono, same_bound, bound_within}
use Rattle.fill_shapes.proofs.KindLaws.{plain, kind_forth, kind_back}

module _ (f : ℕ → ℕ) where
  some_from_map : (o : Option ℕ) (k : ℕ) → option_map f o ≡ Some k → (i : ℕ) × (o ≡ Some i) × (f i ≡ k)
  some_from_map None k h = absurd (let e : None ≡ Some k = h in cc)
  some_from_map (Some i) k h = (i, refl, same_Some (f i) k h)

  nth-map : (xs : List ℕ) (n : ℕ) → nth (map f xs) n ≡ option_map f (nth xs n)
  nth-map xs zero = refl
  nth-map xs (suc i) = slice_get-map f xs i

  reverse-map : (xs : List ℕ) → reverse (map f xs) ≡ map f (reverse xs)
  reverse-map [] = refl
  reverse-map (x ∷ xs) =
      reverse-append (f x ∷ []) (map f xs) ∙ ap (λ l. l ++ f x ∷ []) (reverse-map xs) ∙ sym (ap (map f) (reverse-append (x ∷ []) xs) ∙ map-append f (reverse xs) (x ∷ []))

module _ (w t bounds : List ℕ) (s : IsStretched w t bounds) where
  abbrev at : ℕ → ℕ
  at = bound w t bounds s

  seq_forth : (r : List Token) (i j : ℕ) → SeqSpans r w i j → SeqSpans r t (at i) (at j)
  seq_forth [] i j h = (ap at h.0, bound_within w t bounds s i h.1)
  seq_forth (x ∷ xs) i j h = (at h.0, kind_forth w t bounds s (kind_of x) (plain x) i h.0 h.1, seq_forth xs h.0 j h.2)

  -- what tokens span from a bound on
  seq_back : (r : List Token) (i b : ℕ) → i ≤ length w → SeqSpans r t (at i) b → (j : ℕ) × (at j ≡ b) × SeqSpans r w i j
  seq_back [] i b h u = (i, u.0, (refl, h))
  seq_back (x ∷ xs) i b h u =
      let one = kind_back w t bounds s (kind_of x) (plain x) (at i) u.0 u.1 in
      let same : one.0 ≡ i = same_bound w t bounds s one.0 i one.2 h one.4 in
      let rest = seq_back xs one.1 b one.3 (subst (λ m. SeqSpans xs t m b) (sym one.5) u.2) in
      (rest.0, rest.1, (one.1, subst (λ m. Spans x w m one.1) same one.6, rest.2))

  -- some tokens begin and end at bounds
  some_back : (x : Token) (xs : List Token) (a b : ℕ) → SeqSpans (x ∷ xs) t a b → (i : ℕ) × (j : ℕ) × (at i ≡ a) × (at j ≡ b) × SeqSpans (x ∷ xs) w i j
  some_back x xs a b u =
      let one = kind_back w t bounds s (kind_of x) (plain x) a u.0 u.1 in
      let rest = seq_back (x ∷ xs) one.0 b one.2 (subst (λ m. SeqSpans (x ∷ xs) t m b) (sym one.4) u) in
      (one.0, rest.0, one.4, rest.1, rest.2)

  cut_forth : (r q : List Token) (i : ℕ) → IsCut r q w i → IsCut r q t (at i)
  cut_forth r q i h = ((at h.0.0, seq_forth r h.0.0 i h.0.1), (at h.1.0, seq_forth q i h.1.0 h.1.1))

  cut_back : (r q : List Token) → 0 < length r + length q → (k : ℕ) → IsCut r q t k → (i : ℕ) × (at i ≡ k) × IsCut r q w i
  cut_back [] [] some k h = absurd (omega arith)
  cut_back [] (y ∷ ys) some k h =
      let x = some_back y ys k h.1.0 h.1.1 in
      let small = seq_within (y ∷ ys) w x.0 x.1 x.4 in
      (x.0, x.2, ((x.0, (refl, (let u = small.0 in let v = small.1 in omega arith))), (x.1, x.4)))
  cut_back (y ∷ ys) q some k h =
      let x = some_back y ys h.0.0 k h.0.1 in
      let small = seq_within (y ∷ ys) w x.0 x.1 x.4 in
      let rest = seq_back q x.1 h.1.0 small.1 (subst (λ m. SeqSpans q t m h.1.0) (sym x.3) h.1.1) in
      (x.1, x.3, ((x.0, x.4), (rest.0, rest.2)))

  module _ (r q : List Token) (some : 0 < length r + length q) (ks : List ℕ) (are : AreCuts r q w ks) where
    small : (j : ℕ) → j < length ks → get_or ks j 0 ≤ length w
    small j h =
        let begins = (has_each (IsCut r q w) ks are j h).1 in
        let u = seq_within q w (get_or ks j 0) begins.0 begins.1 in
        omega arith

    cuts_stretched : AreCuts r q t (map at ks)
    cuts_stretched = record {
      rising = λ k h.
          let long = length-map ks at in
          let up = mono w t bounds s (get_or ks k 0) (get_or ks (k + 1) 0) (are.rising k (omega arith)) (small (k + 1) (omega arith)) in
          let e = get_or-map at ks k 0 0 (omega arith) in
          let f = get_or-map at ks (k + 1) 0 0 (omega arith) in
          omega arith;
      exact = λ k. (
        λ c.
            let x = read_contains (map at ks) k c in
            let y = some_from_map at (slice_get ks x.0) k (sym (slice_get-map at ks x.0) ∙ x.2) in
            subst (IsCut r q t) y.2 (cut_forth r q y.0 ((are.exact y.0).0 (contains_read ks x.0 y.0 y.1))),
        λ h.
            let x = cut_back r q some k h in
            let y = read_contains ks x.0 ((are.exact x.0).1 x.2) in
            contains_read (map at ks) y.0 k (slice_get-map at ks y.0 ∙ ap (option_map at) y.2 ∙ ap Some x.1),
      );
    }

  -- what stands at a place of a list and of the stretched list
  carried : (P Q : ℕ → Type 0) (ks : List ℕ) (n : ℕ) → ((k : ℕ) → P k ↔ (nth (map at ks) n ≡ Some k)) → ((i : ℕ) → Q i ↔ (nth ks n ≡ Some i)) → ((i : ℕ) → Q i → i ≤ length w) →
      (k : ℕ) → P k ↔ ((i : ℕ) × (slice_get bounds i ≡ Some k) × Q i)
  carried P Q ks n p q within k = (
    λ h.
        let x = some_from_map at (nth ks n) k (sym (nth-map at ks n) ∙ (p k).0 h) in
        let here = (q x.0).1 x.1 in
        (x.0, bound_of w t bounds s x.0 (within x.0 here) ∙ ap Some x.2, here),
    λ h.
        let e : at h.0 ≡ k = get_or_from_slice_get bounds h.0 k 0 h.1 in
        (p k).1 (nth-map at ks n ∙ ap (option_map at) ((q h.0).0 h.2) ∙ ap Some e),
  )

  pub stretched : (r q : List Token) (c : ℤ) → 0 < length r + length q → (k : ℕ) → HasValue (Pos r q c) t k ↔ ((i : ℕ) × (slice_get bounds i ≡ Some k) × HasValue (Pos r q c) w i)
  stretched r q (pos n) some k =
      let l = cuts_exist r q w in
      carried (IsCutFromLeft r q t n) (IsCutFromLeft r q w n) l.0 n (from_left r q t (map at l.0) (cuts_stretched r q some l.0 l.1) n) (from_left r q w l.0 l.1 n) (λ i h. h.0) k
  stretched r q (negsuc n) some k =
      let l = cuts_exist r q w in
      let turned : reverse (map at l.0) ≡ map at (reverse l.0) = reverse-map at l.0 in
      carried (IsCutFromRight r q t (n + 1)) (IsCutFromRight r q w (n + 1)) (reverse l.0) (n + 1)
      (λ i. subst (λ ys. IsCutFromRight r q t (n + 1) i ↔ (nth ys (n + 1) ≡ Some i)) turned (from_right r q t (map at l.0) (cuts_stretched r q some l.0 l.1) (n + 1) i))
      (from_right r q w l.0 l.1 (n + 1)) (λ i h. h.0) k
