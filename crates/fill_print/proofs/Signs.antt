-- Reading signed numbers.
use Rattle.std.proofs.Common.{◌≡◌, ◌≢◌, ℕ, suc, ◌-◌, ◌<◌, ◌^◌, ◌⊎◌, inl, inr, Bool, true, false, List, [], ◌∷◌, ◌++◌, length, length-append, get_or, refl, sym, ap, subst, ◌∙◌, arith, codes}
use Rattle.std.specs.Prelude.{ℤ, pos, negsuc, FitsSigned}
use Rattle.std.specs.Int.{w32}
use Rattle.std.proofs.lemmas.Bool.{cases_eq}
use Rattle.std.proofs.lemmas.Int.{ints}
use Rattle.std.proofs.lemmas.Fmt.{decimal_digit, first_decimal, decimal_nonempty}
use Rattle.std.specs.Fmt.{decimal, signed_decimal}
use Rattle.fill_print.specs.Reading.{Halts}
use Rattle.fill_print.specs.Ints.{Int, Negative, Zero, Positive}
use Rattle.fill_print.proofs.Chains.{OneForm, IsSpelled, IsAt, HasText, link, both_one, plain_one, gives_one, at_one, halts_empty, halts_first}
use Rattle.fill_print.proofs.Decimals.{number_one, one_is}

fits_negative : (m : ℕ) → m < 2147483648 → FitsSigned w32 (negsuc m)
fits_negative m h = omega (arith, ints)

fits_positive : (n : ℕ) → n < 2147483648 → FitsSigned w32 (pos n)
fits_positive n h = omega (arith, ints)

negative_fits : (m : ℕ) → FitsSigned w32 (negsuc m) → m < 2147483648
negative_fits m h = omega (arith, ints)

positive_fits : (n : ℕ) → FitsSigned w32 (pos n) → n < 2147483648
positive_fits n h = omega (arith, ints)

-- the first byte of a number
head_digit : (n c : ℕ) (x : List ℕ) → 0 < n → n < 2 ^ 64 → decimal n ≡ c ∷ x → 48 < c
head_digit n c x some fits e = let h = first_decimal n some fits in let f = ap (λ y. get_or y 0 0) e in omega arith

head_of : (n b : ℕ) (s x : List ℕ) → n < 2 ^ 64 → b ∷ s ≡ decimal n ++ x → ((n ≡ 0) × (b ≡ 48)) ⊎ ((0 < n) × (48 < b))
head_of n b s x fits e = elim (cases_eq n 0) [
  | inl z ↦ inl (z, (let f : b ∷ s ≡ 48 ∷ x = e ∙ ap (λ d. decimal d ++ x) z ∙ ap (λ d. d ++ x) (decimal_digit 0 (omega arith)) in cc))
  | inr ne ↦ inr (omega arith, go (omega arith) (decimal n) refl)
]
  where
    go : 0 < n → (ds : List ℕ) → decimal n ≡ ds → 48 < b
    go some [] f = absurd (let g = decimal_nonempty n fits in omega (arith, ap length f))
    go some (c ∷ y) f =
        let g : b ∷ s ≡ c ∷ (y ++ x) = e ∙ ap (λ d. d ++ x) f in
        let same : b ≡ c = cc in
        let h = head_digit n c y some fits f in
        omega arith

pub int_negative : (may_be_zero : Bool) (last : ℕ) → IsAt (Int may_be_zero last) (Negative last) 45
int_negative may_be_zero last = record {
  forth = λ z s k h.
      let n = h.later.item in
      let m : ℕ = n - 1 in
      let back : suc m ≡ n = (let f = h.later.here.0 in omega arith) in
      let text : s ≡ signed_decimal (negsuc m) ++ last ∷ k = h.here ∙ ap (λ x. 45 ∷ x) (h.later.here.2 ∙ ap (λ x. decimal n ++ last ∷ x) h.later.later.1 ∙ ap (λ x. decimal x ++ last ∷ k) (sym back)) in
      subst (λ x. Int may_be_zero last x s k) (sym h.later.later.0) (fits_negative m (let f = h.later.here.1 in omega arith), (λ e f. let no_such : ⊥ = cc in no_such), text);
  back = λ z s k h. go z s k h;
}
  where
    go : (z : ℤ) (s k : List ℕ) → Int may_be_zero last z (45 ∷ s) k → Negative last z (45 ∷ s) k
    go (pos n) s k h = absurd (elim (head_of n 45 s (last ∷ k) (let f = positive_fits n h.0 in omega arith) h.2) [ inl g ↦ omega (arith, g.1) | inr g ↦ omega (arith, g.1) ])
    go (negsuc m) s k h =
        let fits = negative_fits m h.0 in
        let same : suc m - 1 ≡ m = omega arith in
        link tt (decimal (suc m) ++ last ∷ k) h.2 (link (suc m) k (omega arith, omega arith, refl) (ap negsuc (sym same), refl))

pub int_zero : (last : ℕ) → IsAt (Int true last) (Zero last) 48
int_zero last = record {
  forth = λ z s k h. subst (λ x. Int true last x s k) (sym h.later.0) (fits_positive 0 (omega arith), (λ e. let no_such : ⊥ = cc in absurd no_such), h.here ∙ ap (λ x. 48 ∷ last ∷ x) h.later.1 ∙ ap (λ x. x ++ last ∷ k) (sym (decimal_digit 0 (omega arith))));
  back = λ z s k h. go z s k h;
}
  where
    go : (z : ℤ) (s k : List ℕ) → Int true last z (48 ∷ s) k → Zero last z (48 ∷ s) k
    go (pos n) s k h = elim (head_of n 48 s (last ∷ k) (let f = positive_fits n h.0 in omega arith) h.2) [
      | inl g ↦ link tt k (h.2 ∙ ap (λ d. decimal d ++ last ∷ k) g.0 ∙ ap (λ d. d ++ last ∷ k) (decimal_digit 0 (omega arith))) (ap pos g.0, refl)
      | inr g ↦ absurd (omega (arith, g.1))
    ]
    go (negsuc m) s k h = let bad : ◌≡◌ {A = ℕ} 48 45 = (let f : 48 ∷ s ≡ 45 ∷ (decimal (suc m) ++ last ∷ k) = h.2 in cc) in absurd (omega arith)

pub int_positive : (may_be_zero : Bool) (last b : ℕ) → b ≢ 45 → b ≢ 48 → IsAt (Int may_be_zero last) (Positive last) b
int_positive may_be_zero last b no_sign no_zero = record {
  forth = λ z s k h.
      subst (λ x. Int may_be_zero last x s k) (sym h.later.0) (fits_positive h.item (let f = h.here.1 in omega arith), (λ e f. let g : h.item ≡ 0 = cc in let p = h.here.0 in omega arith), h.here.2 ∙ ap (λ x. decimal h.item ++ last ∷ x) h.later.1);
  back = λ z s k h. go z s k h;
}
  where
    go : (z : ℤ) (s k : List ℕ) → Int may_be_zero last z (b ∷ s) k → Positive last z (b ∷ s) k
    go (pos n) s k h = elim (head_of n b s (last ∷ k) (let f = positive_fits n h.0 in omega arith) h.2) [
      | inl g ↦ absurd (no_zero g.1)
      | inr g ↦ link n k (g.0, (let f = positive_fits n h.0 in omega arith), h.2) (refl, refl)
    ]
    go (negsuc m) s k h = absurd (no_sign (let f : b ∷ s ≡ 45 ∷ (decimal (suc m) ++ last ∷ k) = h.2 in cc))

int_text : (may_be_zero : Bool) (last : ℕ) → HasText (Int may_be_zero last)
int_text may_be_zero last = (pos 1, 49, last ∷ [], λ k. (fits_positive 1 (omega arith), (λ e f. let g : ◌≡◌ {A = ℕ} 1 0 = cc in omega arith), ap (λ d. d ++ last ∷ k) (sym one_is)))

pub int_empty : (may_be_zero : Bool) (last : ℕ) (bytes : List ℕ) → bytes ≡ [] → Halts (Int may_be_zero last) bytes 0
int_empty may_be_zero last bytes e = halts_empty (Int may_be_zero last) (int_text may_be_zero last) bytes e (λ z k h. go z k h)
  where
    go : (z : ℤ) (k : List ℕ) → Int may_be_zero last z [] k → ⊥
    go (pos n) k h = omega (arith, ap length h.2, length-append (decimal n) (last ∷ k))
    go (negsuc m) k h = omega (arith, ap length h.2)

pub int_no_zero : (last : ℕ) (may_be_zero : Bool) (bytes after : List ℕ) → may_be_zero ≡ false → bytes ≡ 48 ∷ after → Halts (Int may_be_zero last) bytes (length bytes)
int_no_zero last may_be_zero bytes after barred e = halts_first (Int may_be_zero last) (int_text may_be_zero last) 48 bytes after e (λ z s k h. go z s k h)
  where
    go : (z : ℤ) (s k : List ℕ) → Int may_be_zero last z (48 ∷ s) k → ⊥
    go (pos n) s k h = elim (head_of n 48 s (last ∷ k) (let f = positive_fits n h.0 in omega arith) h.2) [ inl g ↦ h.1 barred (ap pos g.0) | inr g ↦ omega (arith, g.1) ]
    go (negsuc m) s k h = let bad : ◌≡◌ {A = ℕ} 48 45 = (let f : 48 ∷ s ≡ 45 ∷ (decimal (suc m) ++ last ∷ k) = h.2 in cc) in omega arith

pub int_spelled : (may_be_zero : Bool) (last : ℕ) → IsSpelled (Int may_be_zero last)
int_spelled may_be_zero last = let t = int_text may_be_zero last in record { some = t.0; text = t.1 ∷ t.2; spelled = t.3 }

-- one form, by the first byte
no_int : (last : ℕ) (z : ℤ) (k : List ℕ) → Int true last z [] k → ⊥
no_int last (pos n) k h = omega (arith, ap length h.2, length-append (decimal n) (last ∷ k))
no_int last (negsuc m) k h = omega (arith, ap length h.2)

any_one : (last : ℕ) → last < 48 → (s : List ℕ) (y z : ℤ) (k l : List ℕ) → Int true last y s k → Int true last z s l → (y ≡ z) × (k ≡ l)
any_one last low [] y z k l p q = absurd (no_int last y k p)
any_one last low (c ∷ s) y z k l p q = elim (cases_eq c 45) [
  | inl e ↦ at_one (Int true last) (Negative last) 45 (int_negative true last) (both_one (plain_one (codes "-")) (λ u. both_one (number_one 2147483648 last (omega arith) low) (λ n. gives_one _))) y z (c ∷ s) s k l (ap (λ x. x ∷ s) e) p q
  | inr no_sign ↦ elim (cases_eq c 48) [
    | inl e ↦ at_one (Int true last) (Zero last) 48 (int_zero last) (both_one (plain_one (48 ∷ last ∷ [])) (λ u. gives_one _)) y z (c ∷ s) s k l (ap (λ x. x ∷ s) e) p q
    | inr no_zero ↦ at_one (Int true last) (Positive last) c (int_positive true last c no_sign no_zero) (both_one (number_one 2147483647 last (omega arith) low) (λ n. gives_one _)) y z (c ∷ s) s k l refl p q
  ]
]

may_be : (may_be_zero : Bool) (last : ℕ) (z : ℤ) (s k : List ℕ) → Int may_be_zero last z s k → Int true last z s k
may_be may_be_zero last z s k h = (h.0, (λ e. let no_such : ⊥ = cc in absurd no_such), h.2)

pub int_one : (may_be_zero : Bool) (last : ℕ) → last < 48 → OneForm (Int may_be_zero last)
int_one may_be_zero last low = record { law = λ y z s k l p q. any_one last low s y z k l (may_be may_be_zero last y s k p) (may_be may_be_zero last z s l q) }
