-- A shape put together, one character after the other.
use Rattle.std.proofs.Common.{◌≡◌, ℕ, ◌+◌, ◌-◌, ◌<◌, ◌≤◌, ◌⊎◌, inl, inr, false, List, [], ◌∷◌, ◌++◌, length, get_or, take, drop, slice_get, slice_index, slice_range, refl, sym, ap, ◌∙◌, subst, arith}
use Rattle.std.proofs.lemmas.Bool.{cases_order, cases_lt}
use Rattle.std.proofs.lemmas.List.{length_push, get_or_append_left, get_or_push, drop_more}
use Rattle.std.proofs.lemmas.List.Quantifiers.{all_pairs_push}
use Rattle.std.proofs.lemmas.Option.{same_Some, slice_get_within, get_or_from_slice_get}
use Rattle.fill_text.specs.Classes.{class_of}
use Rattle.fill_spans.proofs.PieceLaws.{push_cases, get_left, get_last}
use Rattle.fill_shapes.specs.Stretched.{is_sign, IsBlock, AreBlocks}

-- the piece of one character
pub range_one : (t : List ℕ) (i : ℕ) → i < length t → slice_range t i (i + 1) ≡ slice_index t i ∷ []
range_one t i h =
    let e : i + 1 - i ≡ 1 = omega arith in
    ap (λ n. take n (drop i t)) e ∙ ap (take 1) (drop_more t i 0 h)

-- no bound is after the last one
not_after : (n : ℕ) (w t bs : List ℕ) → AreBlocks n w t bs → (k d : ℕ) → k < length bs → get_or bs k d ≤ n
not_after n w t bs are k d h =
    let l = are.long in
    let e = get_or_from_slice_get bs (length w) n d are.last in
    elim (cases_lt k (length w)) [
      | inl lt ↦ let m = are.rising k (length w) d lt (omega arith) in omega arith
      | inr le ↦ let f : k ≡ length w = omega arith in let g = ap (λ j. get_or bs j d) f in omega arith
    ]

-- nothing is read
pub read_none : (t w bs : List ℕ) → w ≡ [] → bs ≡ [] → AreBlocks 0 w t (bs ++ 0 ∷ [])
read_none t w bs e f = subst (λ z. AreBlocks 0 z t (bs ++ 0 ∷ [])) (sym e) (subst (λ z. AreBlocks 0 [] t (z ++ 0 ∷ [])) (sym f) record {
  long = refl;
  rising = λ i j d l h. absurd (omega arith);
  first = refl;
  last = refl;
  each = λ i a b h g. absurd (let l = slice_get_within (0 ∷ []) (i + 1) b g in omega arith);
})

-- a block of one character
one_block : (t : List ℕ) (i c : ℕ) → class_of c ≡ class_of (slice_index t i) → is_sign c ≡ is_sign (slice_index t i) → (slice_index t i ≡ c) ⊎ (is_sign c ≡ false) → IsBlock c t i (i + 1)
one_block t i c same sign which = record {
  classes = λ k l m. let e : i ≡ k = omega arith in subst (λ n. class_of (slice_index t n) ≡ class_of c) e (sym same);
  signs = λ k l m. let e : i ≡ k = omega arith in subst (λ n. is_sign (slice_index t n) ≡ is_sign c) e (sym sign);
  itself = elim which [ inl e ↦ inl (refl, e) | inr f ↦ inr f ];
}

-- one character more of a block
longer : (t : List ℕ) (c a i : ℕ) → a < i → class_of (slice_index t (i - 1)) ≡ class_of (slice_index t i) → is_sign (slice_index t (i - 1)) ≡ false → is_sign (slice_index t i) ≡ false → IsBlock c t a i → IsBlock c t a (i + 1)
longer t c a i lt same before now u =
    let sign : is_sign c ≡ false = sym (u.signs (i - 1) (omega arith) (omega arith)) ∙ before in
    record {
      classes = λ k l m. elim (cases_order k i) [
        | inl e ↦ ap (λ n. class_of (slice_index t n)) e ∙ sym same ∙ u.classes (i - 1) (omega arith) (omega arith)
        | inr o ↦ elim o [ inl low ↦ u.classes k l low | inr high ↦ absurd (omega arith) ]
      ];
      signs = λ k l m. elim (cases_order k i) [
        | inl e ↦ ap (λ n. is_sign (slice_index t n)) e ∙ now ∙ sym sign
        | inr o ↦ elim o [ inl low ↦ u.signs k l low | inr high ↦ absurd (omega arith) ]
      ];
      itself = inr sign;
    }

-- a character begins a block, for which c stands
pub read_begin : (w t bs : List ℕ) (i c : ℕ) → class_of c ≡ class_of (slice_index t i) → is_sign c ≡ is_sign (slice_index t i) → (slice_index t i ≡ c) ⊎ (is_sign c ≡ false) →
    AreBlocks i w t bs → AreBlocks (i + 1) (w ++ c ∷ []) t (bs ++ (i + 1) ∷ [])
read_begin w t bs i c same sign which are = record {
  long = length_push bs (i + 1) ∙ ap (λ n. n + 1) (are.long ∙ sym (length_push w c));
  rising = all_pairs_push (λ x y. x < y) bs (i + 1) are.rising (λ k d h. let u = not_after i w t bs are k d h in omega arith);
  first = get_left bs ((i + 1) ∷ []) 0 0 are.first;
  last = ap (slice_get (bs ++ (i + 1) ∷ [])) (length_push w c ∙ sym are.long) ∙ get_last bs (i + 1);
  each = λ x a b h g.
      let l = are.long in
      elim (push_cases bs (i + 1) b (x + 1) g) [
        | inl old ↦
            let lt = slice_get_within bs (x + 1) b old in
            elim (push_cases bs (i + 1) a x h) [
              | inl here ↦ subst (λ y. IsBlock y t a b) (sym (get_or_append_left w (c ∷ []) 0 x (omega arith))) (are.each x a b here old)
              | inr far ↦ absurd (let e = far.0 in omega arith)
            ]
        | inr end ↦
            let n = end.0 in
            elim (push_cases bs (i + 1) a x h) [
              | inl here ↦
                  let e : x ≡ length w = omega arith in
                  let f : a ≡ i = same_Some a i (sym here ∙ ap (slice_get bs) e ∙ are.last) in
                  let y : get_or (w ++ c ∷ []) x 0 ≡ c = get_or_push w c 0 x (sym e) in
                  subst (λ z. IsBlock z t a b) (sym y) (subst (λ z. IsBlock c t z b) (sym f) (subst (λ z. IsBlock c t i z) end.1 (one_block t i c same sign which)))
              | inr far ↦ absurd (let e = far.0 in omega arith)
            ]
      ];
}

-- a character goes on with the last block
pub read_on : (w t bs : List ℕ) (i : ℕ) → 0 < i → class_of (slice_index t (i - 1)) ≡ class_of (slice_index t i) → is_sign (slice_index t (i - 1)) ≡ false → is_sign (slice_index t i) ≡ false →
    AreBlocks i w t (bs ++ i ∷ []) → AreBlocks (i + 1) w t (bs ++ (i + 1) ∷ [])
read_on w t bs i some same before now are =
    let l = are.long in
    let p = length_push bs i in
    let size : length bs ≡ length w = omega arith in
    record {
      long = length_push bs (i + 1) ∙ sym (length_push bs i) ∙ are.long;
      rising = all_pairs_push (λ x y. x < y) bs (i + 1)
          (λ x y d lt h.
          let u = are.rising x y d lt (omega arith) in
          let e = get_or_append_left bs (i ∷ []) d x (omega arith) in
          let f = get_or_append_left bs (i ∷ []) d y h in
          omega arith)
          (λ k d h.
          let u = not_after i w t (bs ++ i ∷ []) are k d (omega arith) in
          let e = get_or_append_left bs (i ∷ []) d k h in
          omega arith);
      first = elim (push_cases bs i 0 0 are.first) [ inl old ↦ get_left bs ((i + 1) ∷ []) 0 0 old | inr end ↦ absurd (let e = end.1 in omega arith) ];
      last = ap (slice_get (bs ++ (i + 1) ∷ [])) (sym size) ∙ get_last bs (i + 1);
      each = λ x a b h g. elim (push_cases bs (i + 1) b (x + 1) g) [
        | inl old ↦
            let lt = slice_get_within bs (x + 1) b old in
            elim (push_cases bs (i + 1) a x h) [
              | inl here ↦ are.each x a b (get_left bs (i ∷ []) x a here) (get_left bs (i ∷ []) (x + 1) b old)
              | inr far ↦ absurd (let e = far.0 in omega arith)
            ]
        | inr end ↦
            let n = end.0 in
            elim (push_cases bs (i + 1) a x h) [
              | inl here ↦
                  let at = get_left bs (i ∷ []) x a here in
                  let next = ap (slice_get (bs ++ i ∷ [])) end.0 ∙ get_last bs i in
                  let e = get_or_from_slice_get (bs ++ i ∷ []) x a 0 at in
                  let f = get_or_from_slice_get (bs ++ i ∷ []) (x + 1) i 0 next in
                  let u = are.rising x (x + 1) 0 (omega arith) (omega arith) in
                  subst (λ z. IsBlock (slice_index w x) t a z) end.1 (longer t (slice_index w x) a i (omega arith) same before now (are.each x a i at next))
              | inr far ↦ absurd (let e = far.0 in omega arith)
            ]
      ];
    }

-- the same, with the lists that a push gives
pub read_begun : (w more t bs bounds : List ℕ) (i c : ℕ) → class_of c ≡ class_of (slice_index t i) → is_sign c ≡ is_sign (slice_index t i) → (slice_index t i ≡ c) ⊎ (is_sign c ≡ false) →
    more ≡ w ++ c ∷ [] → bounds ≡ bs ++ i ∷ [] → AreBlocks i w t (bs ++ i ∷ []) → AreBlocks (i + 1) more t (bounds ++ (i + 1) ∷ [])
read_begun w more t bs bounds i c same sign which e f are =
    subst (λ z. AreBlocks (i + 1) z t (bounds ++ (i + 1) ∷ [])) (sym e)
    (subst (λ z. AreBlocks (i + 1) (w ++ c ∷ []) t (z ++ (i + 1) ∷ [])) (sym f) (read_begin w t (bs ++ i ∷ []) i c same sign which are))
