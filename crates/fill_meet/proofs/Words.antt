-- Bits of words.
use Rattle.std.proofs.Common.{◌≡◌, ◌==◌, ℕ, ◌+◌, ◌*◌, ◌/◌, ◌%◌, ◌^◌, ◌<◌, ◌≤◌, ◌⊎◌, inl, inr, List, length, get_or, set, refl, sym, ap, ◌∙◌, subst, arith, min, w64, bit_and}
use Rattle.std.specs.Int.{bit_at}
use Rattle.std.specs.Int.RustNames.{bit_or}
use Rattle.std.proofs.Math.Nat.{suc-mul, mul-le-mul_right}
use Rattle.std.proofs.lemmas.Bool.{cases_eq}
use Rattle.std.proofs.lemmas.List.{get_or-set_same, get_or-set_other}
use Rattle.std.proofs.lemmas.Nat.Bits.{shr_and_one, bit_at-zero, bit_at_and, bit_at_set_same, bit_at_set_other}
use Rattle.fill_meet.specs.Bits.{HasRoom, IsPlace, IsPutBit}
use Rattle.fill_meet.specs.declared.bits.Bits.{Bits}
use Rattle.fill_meet.proofs.Products.{same_row, within_product}

pub shifted : (w i : ℕ) → (bit_and (w / 2 ^ i) 1 == 1) ≡ (bit_at w i == 1)
shifted w i = ap (λ z. z == 1) (shr_and_one w i)

-- words without a common bit
pub apart_words : (a b i : ℕ) → bit_and a b ≡ 0 → bit_at a i ≡ 1 → bit_at b i ≡ 1 → ⊥
apart_words a b i none p q =
    let e = bit_at_and a b i in
    let z = bit_at-zero i in
    let n : bit_at (bit_and a b) i ≡ bit_at 0 i = ap (λ w. bit_at w i) none in
    let m : min (bit_at a i) (bit_at b i) ≡ min 1 1 = ap (λ x. min x (bit_at b i)) p ∙ ap (λ y. min 1 y) q in
    let one : min 1 1 ≡ 1 = refl in
    omega arith

pub column_is : (a b : ℕ) → a / 64 ≡ b / 64 → a % 64 ≡ b % 64 → a ≡ b
column_is a b p q = omega arith

-- a place of a row and a column
pub place : (rows columns : ℕ) (b : Bits) → HasRoom rows columns b → (u v : ℕ) → u < rows → v < columns → IsPlace u v b
place rows columns b room u v lu lv =
    let wide = room.wide in
    let lt : v / 64 < b.per_row = omega arith in
    (subst (λ n. u * b.per_row + v / 64 < n) (sym room.tall) (within_product rows b.per_row u (v / 64) lu lt), lt)

pub whole_row : (rows columns : ℕ) (b : Bits) → HasRoom rows columns b → (u : ℕ) → u < rows → u * b.per_row + b.per_row ≤ length b.words.items
whole_row rows columns b room u lu =
    let tall = room.tall in
    let up = mul-le-mul_right b.per_row lu in
    let one = suc-mul u b.per_row in
    omega arith

module _ (words : List ℕ) (p u v : ℕ) (at : u * p + v / 64 < length words) (col : v / 64 < p) where
  word : ℕ
  word = get_or words (u * p + v / 64) 0

  bit_now : (a b : ℕ) → (a * p + b / 64 ≡ u * p + v / 64)
      → get_or (set words (u * p + v / 64) (bit_or (get_or words (u * p + v / 64) 0) (1 * 2 ^ (v % 64) % 2 ^ 64))) (a * p + b / 64) 0 ≡ bit_or (get_or words (u * p + v / 64) 0) (1 * 2 ^ (v % 64) % 2 ^ 64)
  bit_now a b e =
      let w = bit_or (get_or words (u * p + v / 64) 0) (1 * 2 ^ (v % 64) % 2 ^ 64) in
      ap (λ n. get_or (set words (u * p + v / 64) w) n 0) e ∙ get_or-set_same words (u * p + v / 64) w 0 at

  pub put_here : bit_at (get_or (set words (u * p + v / 64) (bit_or (get_or words (u * p + v / 64) 0) (1 * 2 ^ (v % 64) % 2 ^ 64))) (u * p + v / 64) 0) (v % 64) ≡ 1
  put_here =
      let lt : v % 64 < 64 = omega arith in
      ap (λ n. bit_at n (v % 64)) (bit_now u v refl) ∙ bit_at_set_same w64 (get_or words (u * p + v / 64) 0) (v % 64) lt

  pub put_stays : (a b : ℕ) → bit_at (get_or words (a * p + b / 64) 0) (b % 64) ≡ 1
      → bit_at (get_or (set words (u * p + v / 64) (bit_or (get_or words (u * p + v / 64) 0) (1 * 2 ^ (v % 64) % 2 ^ 64))) (a * p + b / 64) 0) (b % 64) ≡ 1
  put_stays a b h =
      let w = bit_or (get_or words (u * p + v / 64) 0) (1 * 2 ^ (v % 64) % 2 ^ 64) in
      let lt : v % 64 < 64 = omega arith in
      elim (cases_eq (a * p + b / 64) (u * p + v / 64)) [
        | inl e ↦ elim (cases_eq (b % 64) (v % 64)) [
          | inl f ↦ ap (λ n. bit_at n (b % 64)) (bit_now a b e) ∙ ap (λ i. bit_at w i) f ∙ bit_at_set_same w64 (get_or words (u * p + v / 64) 0) (v % 64) lt
          | inr g ↦
              ap (λ n. bit_at n (b % 64)) (bit_now a b e) ∙ bit_at_set_other w64 (get_or words (u * p + v / 64) 0) (v % 64) lt (b % 64) g
              ∙ ap (λ n. bit_at (get_or words n 0) (b % 64)) (sym e) ∙ h
        ]
        | inr g ↦ ap (λ n. bit_at n (b % 64)) (get_or-set_other words (u * p + v / 64) (a * p + b / 64) w 0 g) ∙ h
      ]

  pub put_was : (a b : ℕ) → b / 64 < p
      → bit_at (get_or (set words (u * p + v / 64) (bit_or (get_or words (u * p + v / 64) 0) (1 * 2 ^ (v % 64) % 2 ^ 64))) (a * p + b / 64) 0) (b % 64) ≡ 1
      → ((a ≡ u) × (b ≡ v)) ⊎ (bit_at (get_or words (a * p + b / 64) 0) (b % 64) ≡ 1)
  put_was a b cb h =
      let w = bit_or (get_or words (u * p + v / 64) 0) (1 * 2 ^ (v % 64) % 2 ^ 64) in
      let lt : v % 64 < 64 = omega arith in
      elim (cases_eq (a * p + b / 64) (u * p + v / 64)) [
        | inl e ↦ elim (cases_eq (b % 64) (v % 64)) [
          | inl f ↦ (let both = same_row p a (b / 64) u (v / 64) cb col e in inl (both.0, column_is b v both.1 f))
          | inr g ↦
              let now : bit_at w (b % 64) ≡ 1 = sym (ap (λ n. bit_at n (b % 64)) (bit_now a b e)) ∙ h in
              let old = bit_at_set_other w64 (get_or words (u * p + v / 64) 0) (v % 64) lt (b % 64) g in
              inr (ap (λ n. bit_at (get_or words n 0) (b % 64)) e ∙ sym old ∙ now)
        ]
        | inr g ↦ inr (sym (ap (λ n. bit_at n (b % 64)) (get_or-set_other words (u * p + v / 64) (a * p + b / 64) w 0 g)) ∙ h)
      ]

pub room_stays : (rows columns u v : ℕ) (old fresh : Bits) → IsPutBit u v old fresh → HasRoom rows columns old → HasRoom rows columns fresh
room_stays rows columns u v old fresh put room =
    record { tall = put.long ∙ room.tall ∙ ap (λ n. rows * n) (sym put.wide); wide = put.wide ∙ room.wide }
