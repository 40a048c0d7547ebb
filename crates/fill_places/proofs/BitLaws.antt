-- Bits of words, and how many of them are set.
use Rattle.std.proofs.Common.{◌≡◌, ℕ, zero, suc, ◌+◌, ◌-◌, ◌*◌, ◌/◌, ◌%◌, ◌^◌, ◌==◌, ◌<◌, ◌≤◌, ◌⊎◌, ◌↔◌, inl, inr, List, ◌∷◌, Bool, true, false, length, get_or, slice_get, Some, refl, sym, ap, ◌∙◌, subst, arith, min, bit_and, w64, eqb-true}
use Rattle.std.specs.Int.{bit_at}
use Rattle.std.specs.Int.RustNames.{bit_or}
use Rattle.std.specs.Int.Count.{ones, ones_in}
use Rattle.std.proofs.Math.ListN.{set}
use Rattle.std.proofs.Math.Nat.{two-pow-succ, mod-lt, mod-eq_of_lt}
use Rattle.std.proofs.Math.Pow.{pow-lt}
use Rattle.std.proofs.lemmas.Nat.{pow_pos, and_mask}
use Rattle.std.proofs.lemmas.Bool.{cases_order, cases_lt, cases_eq}
use Rattle.std.proofs.lemmas.Option.{slice_get-get_or, slice_get_within, get_or_from_slice_get}
use Rattle.std.proofs.lemmas.List.{get_or-set_same, get_or-set_other, get_or_past}
use Rattle.std.proofs.lemmas.List.FromFn.{length-map-range_with_len, get_or-map-range_with_len}
use Rattle.std.proofs.lemmas.Nat.Bits.{shr_and_one, bit_at-zero, bit_at-lt, bit_at_lowest, bit_at-suc, bit_at_above, bit_at_and, bit_at_ones, bit_at_ones_above, bit_at_set_same, bit_at_set_other}
use Rattle.fill_tokens.specs.Value.{IsCount}
use Rattle.fill_tokens.proofs.CountLaws.{count_unique}
use Rattle.fill_places.specs.Marks.{AreAll, Common}
use Rattle.fill_places.specs.Bits.{AreEqual, flag_of, flags_of, BothSet, IsSetBit}

-- properties of the same numbers below n
pub count_alike : (P Q : ℕ → Type 0) (n c : ℕ) → ((i : ℕ) → i < n → P i → Q i) → ((i : ℕ) → i < n → Q i → P i) → IsCount P n c → IsCount Q n c
count_alike P Q zero c f g r = r
count_alike P Q (suc n) c f g r = elim r [
  | inl y ↦ inl (y.0, y.1, f n (omega arith) y.2, count_alike P Q n y.0 (λ i l. f i (omega arith)) (λ i l. g i (omega arith)) y.3)
  | inr y ↦ inr (λ q. y.0 (g n (omega arith) q), count_alike P Q n c (λ i l. f i (omega arith)) (λ i l. g i (omega arith)) y.1)
]

-- numbers that have not the property count nothing
pub count_skip : (P : ℕ → Type 0) (m n c : ℕ) → m ≤ n → ((k : ℕ) → m ≤ k → k < n → P k → ⊥) → IsCount P m c → IsCount P n c
count_skip P m zero c h none is = let e : m ≡ 0 = omega arith in subst (λ i. IsCount P i c) e is
count_skip P m (suc n) c h none is = elim (cases_order m (suc n)) [
  | inl e ↦ subst (λ i. IsCount P i c) e is
  | inr o ↦ elim o [
    | inl l ↦ inr (none n (omega arith) (omega arith), count_skip P m n c (omega arith) (λ k a b. none k a (omega arith)) is)
    | inr g ↦ absurd (omega arith)
  ]
]

-- the numbers from m on are counted apart
pub count_join : (P : ℕ → Type 0) (m n c d : ℕ) → IsCount P m c → IsCount (λ j. P (m + j)) n d → IsCount P (m + n) (c + d)
count_join P m zero c d a b =
    let e : m ≡ m + 0 = omega arith in
    let z : d ≡ 0 = b in
    let f : c ≡ c + d = omega arith in
    subst (λ i. IsCount P i (c + d)) e (subst (IsCount P m) f a)
count_join P m (suc n) c d a b =
    let e : suc (m + n) ≡ m + suc n = omega arith in
    subst (λ i. IsCount P i (c + d)) e (elim b [
      | inl y ↦ inl (c + y.0, (let u = y.1 in omega arith), y.2, count_join P m n c y.0 a y.3)
      | inr y ↦ inr (y.0, count_join P m n c d a y.1)
    ])

lowest : (w : ℕ) → IsCount (IsSetBit w) 1 (w % 2)
lowest w = elim (cases_order (bit_at w 0) 1) [
  | inl e ↦
      (let l = bit_at_lowest w in
      let f : 1 ≡ w % 2 = omega arith in
      subst (IsCount (IsSetBit w) 1) f (inl (0, refl, e, refl)))
  | inr o ↦ elim o [
    | inl z ↦
        (let l = bit_at_lowest w in
        let f : 0 ≡ w % 2 = omega arith in
        subst (IsCount (IsSetBit w) 1) f (inr ((λ h. let u : bit_at w 0 ≡ 1 = h in omega arith), refl)))
    | inr g ↦ absurd (let l = bit_at-lt w 0 in omega arith)
  ]
]

counted : (d w : ℕ) → IsCount (IsSetBit w) d (ones_in d w)
unfolding ones_in
counted zero w = refl
counted (suc d) w =
    let e : 1 + d ≡ suc d = omega arith in
    let up : (j : ℕ) → suc j ≡ 1 + j = λ j. omega arith in
    subst (λ i. IsCount (IsSetBit w) i (ones_in (suc d) w)) e
    (count_join (IsSetBit w) 1 d (w % 2) (ones_in d (w / 2)) (lowest w)
    (count_alike (IsSetBit (w / 2)) (λ j. IsSetBit w (1 + j)) d (ones_in d (w / 2))
    (λ j l h. subst (IsSetBit w) (up j) (bit_at-suc w j ∙ h))
    (λ j l h. sym (bit_at-suc w j) ∙ subst (IsSetBit w) (sym (up j)) h)
    (counted d (w / 2))))

below_pow : (n : ℕ) → n < 2 ^ n
below_pow zero = omega arith
below_pow (suc n) = let h = below_pow n in let e = two-pow-succ n in omega arith

no_bit : (w m k : ℕ) → w < 2 ^ m → m ≤ k → IsSetBit w k → ⊥
no_bit w m k small le h = let e = bit_at_above w m k small le in let u : bit_at w k ≡ 1 = h in omega arith

pub ones_counted : (w n : ℕ) → w < 2 ^ n → IsCount (IsSetBit w) n (ones_in w w)
ones_counted w n small = elim (cases_lt w n) [
  | inl l ↦ count_skip (IsSetBit w) w n (ones_in w w) (omega arith) (λ k a b. no_bit w w k (below_pow w) a) (counted w w)
  | inr g ↦
      (let long = count_skip (IsSetBit w) n w (ones_in n w) g (λ k a b. no_bit w n k small a) (counted n w) in
      let e = count_unique (IsSetBit w) w (ones_in n w) (ones_in w w) long (counted w w) in
      subst (IsCount (IsSetBit w) n) e (counted n w))
]

ones_are : (w : ℕ) → ones_in w w ≡ ones w
unfolding ones
ones_are w = refl

pub word_ones : (w n : ℕ) → w < 2 ^ n → IsCount (IsSetBit w) n (ones w)
word_ones w n small = subst (IsCount (IsSetBit w) n) (ones_are w) (ones_counted w n small)

-- the bits below m
pub masked : (w m n c : ℕ) → m ≤ n → IsCount (IsSetBit (bit_and w (2 ^ m - 1))) n c → IsCount (IsSetBit w) m c
masked w m n c small is =
    let p = below_count (IsSetBit (bit_and w (2 ^ m - 1))) m n c small none is in
    count_alike (IsSetBit (bit_and w (2 ^ m - 1))) (IsSetBit w) m c to from p
  where
    none : (k : ℕ) → m ≤ k → k < n → IsSetBit (bit_and w (2 ^ m - 1)) k → ⊥
    none k a b h =
        let e = bit_at_and w (2 ^ m - 1) k in
        let f = bit_at_ones_above m k a in
        let u : bit_at (bit_and w (2 ^ m - 1)) k ≡ 1 = h in
        omega arith

    to : (k : ℕ) → k < m → IsSetBit (bit_and w (2 ^ m - 1)) k → IsSetBit w k
    to k a h =
        let e = bit_at_and w (2 ^ m - 1) k in
        let f = bit_at_ones m k a in
        let u : bit_at (bit_and w (2 ^ m - 1)) k ≡ 1 = h in
        let l = bit_at-lt w k in
        omega arith

    from : (k : ℕ) → k < m → IsSetBit w k → IsSetBit (bit_and w (2 ^ m - 1)) k
    from k a h =
        let e = bit_at_and w (2 ^ m - 1) k in
        let f = bit_at_ones m k a in
        let u : bit_at w k ≡ 1 = h in
        omega arith

    below_count : (P : ℕ → Type 0) (m n c : ℕ) → m ≤ n → ((k : ℕ) → m ≤ k → k < n → P k → ⊥) → IsCount P n c → IsCount P m c
    below_count P m zero c h never r = let e : 0 ≡ m = omega arith in subst (λ i. IsCount P i c) e r
    below_count P m (suc n) c h never r = elim (cases_order m (suc n)) [
      | inl e ↦ subst (λ i. IsCount P i c) (sym e) r
      | inr o ↦ elim o [
        | inl l ↦ elim r [
          | inl y ↦ absurd (never n (omega arith) (omega arith) y.2)
          | inr y ↦ below_count P m n c (omega arith) (λ k a b. never k a (omega arith)) y.1
        ]
        | inr g ↦ absurd (omega arith)
      ]
    ]

-- flags
pub flag_bit : (words : List ℕ) (k : ℕ) → flag_of words k ≡ true → bit_at (get_or words (k / 64) 0) (k % 64) ≡ 1
flag_bit words k h = eqb-true (bit_at (get_or words (k / 64) 0) (k % 64)) 1 h

pub bit_flag : (words : List ℕ) (k : ℕ) → bit_at (get_or words (k / 64) 0) (k % 64) ≡ 1 → flag_of words k ≡ true
bit_flag words k h = ap (λ z. z == 1) h

-- the flags of a word, taken together
pub word_flags : (a b : List ℕ) (i c : ℕ) → (m : ℕ) → m ≤ 64 → IsCount (IsSetBit (bit_and (get_or a i 0) (get_or b i 0))) m c → IsCount (λ j. BothSet a b (64 * i + j)) m c
word_flags a b i c m le is = count_alike (IsSetBit (bit_and (get_or a i 0) (get_or b i 0))) (λ j. BothSet a b (64 * i + j)) m c to from is
  where
    at : (words : List ℕ) (j : ℕ) → j < m → bit_at (get_or words ((64 * i + j) / 64) 0) ((64 * i + j) % 64) ≡ bit_at (get_or words i 0) j
    at words j l =
        let q : (64 * i + j) / 64 ≡ i = omega arith in
        let r : (64 * i + j) % 64 ≡ j = omega arith in
        ap (λ z. bit_at (get_or words z 0) ((64 * i + j) % 64)) q ∙ ap (bit_at (get_or words i 0)) r

    to : (j : ℕ) → j < m → IsSetBit (bit_and (get_or a i 0) (get_or b i 0)) j → BothSet a b (64 * i + j)
    to j l h =
        let e = bit_at_and (get_or a i 0) (get_or b i 0) j in
        let u : bit_at (bit_and (get_or a i 0) (get_or b i 0)) j ≡ 1 = h in
        let x = bit_at-lt (get_or a i 0) j in
        let y = bit_at-lt (get_or b i 0) j in
        let f : bit_at (get_or a i 0) j ≡ 1 = omega arith in
        let g : bit_at (get_or b i 0) j ≡ 1 = omega arith in
        (bit_flag a (64 * i + j) (at a j l ∙ f), bit_flag b (64 * i + j) (at b j l ∙ g))

    from : (j : ℕ) → j < m → BothSet a b (64 * i + j) → IsSetBit (bit_and (get_or a i 0) (get_or b i 0)) j
    from j l h =
        let f : bit_at (get_or a i 0) j ≡ 1 = sym (at a j l) ∙ flag_bit a (64 * i + j) h.0 in
        let g : bit_at (get_or b i 0) j ≡ 1 = sym (at b j l) ∙ flag_bit b (64 * i + j) h.1 in
        bit_at_and (get_or a i 0) (get_or b i 0) j ∙ ap (λ z. min z (bit_at (get_or b i 0) j)) f ∙ ap (min 1) g

-- the list of the flags
pub flags_long : (words : List ℕ) (n : ℕ) → length (flags_of words n) ≡ n
flags_long words n = length-map-range_with_len (flag_of words) 0 n

pub flag_there : (words : List ℕ) (n k : ℕ) (b : Bool) → k < n → flag_of words k ≡ b → slice_get (flags_of words n) k ≡ Some b
flag_there words n k b lt e =
    slice_get-get_or (flags_of words n) k b (let l = flags_long words n in omega arith) ∙ ap Some (get_or-map-range_with_len (flag_of words) 0 n k k b lt (omega arith) ∙ e)

pub flag_read : (words : List ℕ) (n k : ℕ) → slice_get (flags_of words n) k ≡ Some true → (k < n) × (flag_of words k ≡ true)
flag_read words n k h =
    let w = slice_get_within (flags_of words n) k true h in
    let l = flags_long words n in
    let lt : k < n = omega arith in
    (lt, sym (get_or-map-range_with_len (flag_of words) 0 n k k false lt (omega arith)) ∙ get_or_from_slice_get (flags_of words n) k true false h)

pub common_flags : (a b : List ℕ) (n m k c : ℕ) → k ≤ n → k ≤ m → IsCount (BothSet a b) k c → IsCount (Common (flags_of a n) (flags_of b m)) k c
common_flags a b n m k c l r = count_alike (BothSet a b) (Common (flags_of a n) (flags_of b m)) k c
    (λ i lt h. (flag_there a n i true (omega arith) h.0, flag_there b m i true (omega arith) h.1))
    (λ i lt h. ((flag_read a n i h.0).1, (flag_read b m i h.1).1))

-- one flag more
small_bit : (k : ℕ) → k % 64 < 64
small_bit k = omega arith

pub set_here : (words : List ℕ) (k : ℕ) → k / 64 < length words → flag_of (set words (k / 64) (bit_or (get_or words (k / 64) 0) (1 * 2 ^ (k % 64) % 2 ^ 64))) k ≡ true
set_here words k lt =
    bit_flag (set words (k / 64) (bit_or (get_or words (k / 64) 0) (1 * 2 ^ (k % 64) % 2 ^ 64))) k
    (ap (λ z. bit_at z (k % 64)) (get_or-set_same words (k / 64) (bit_or (get_or words (k / 64) 0) (1 * 2 ^ (k % 64) % 2 ^ 64)) 0 lt) ∙
    bit_at_set_same w64 (get_or words (k / 64) 0) (k % 64) (small_bit k))

pub set_elsewhere : (words : List ℕ) (k j : ℕ) → k / 64 < length words → (j ≡ k → ⊥) →
    flag_of (set words (k / 64) (bit_or (get_or words (k / 64) 0) (1 * 2 ^ (k % 64) % 2 ^ 64))) j ≡ flag_of words j
set_elsewhere words k j lt other = ap (λ z. z == 1) (elim (cases_order (j / 64) (k / 64)) [
  | inl e ↦
      ap (λ z. bit_at (get_or (set words (k / 64) (bit_or (get_or words (k / 64) 0) (1 * 2 ^ (k % 64) % 2 ^ 64))) z 0) (j % 64)) e ∙
      ap (λ z. bit_at z (j % 64)) (get_or-set_same words (k / 64) (bit_or (get_or words (k / 64) 0) (1 * 2 ^ (k % 64) % 2 ^ 64)) 0 lt) ∙
      bit_at_set_other w64 (get_or words (k / 64) 0) (k % 64) (small_bit k) (j % 64) (λ same. other (omega arith)) ∙
      ap (λ z. bit_at (get_or words z 0) (j % 64)) (sym e)
  | inr o ↦ ap (λ z. bit_at z (j % 64)) (get_or-set_other words (k / 64) (j / 64) (bit_or (get_or words (k / 64) 0) (1 * 2 ^ (k % 64) % 2 ^ 64)) 0 (λ e. elim o [ inl l ↦ omega arith | inr g ↦ omega arith ]))
])

-- the flags of the list with one more
module _ (old new : List ℕ) (n k : ℕ) (lt : k < n) (there : flag_of new k ≡ true) (others : (j : ℕ) → (j ≡ k → ⊥) → flag_of new j ≡ flag_of old j) where
  pub set_sound : (j : ℕ) → slice_get (flags_of new n) j ≡ Some true → (j ≡ k) ⊎ (slice_get (flags_of old n) j ≡ Some true)
  set_sound j h = elim (cases_eq j k) [
    | inl e ↦ inl e
    | inr d ↦ let r = flag_read new n j h in inr (flag_there old n j true r.0 (sym (others j d) ∙ r.1))
  ]

  pub set_keeps : (j : ℕ) → slice_get (flags_of old n) j ≡ Some true → slice_get (flags_of new n) j ≡ Some true
  set_keeps j h =
      let r = flag_read old n j h in
      elim (cases_eq j k) [
        | inl e ↦ flag_there new n j true r.0 (ap (flag_of new) e ∙ there)
        | inr d ↦ flag_there new n j true r.0 (others j d ∙ r.1)
      ]

  pub set_there : slice_get (flags_of new n) k ≡ Some true
  set_there = flag_there new n k true lt there

pub all_flags : (words : List ℕ) (n : ℕ) (b : Bool) → ((k : ℕ) → k < n → flag_of words k ≡ b) → AreAll b n (flags_of words n)
all_flags words n b h = record { long = flags_long words n; same = λ k lt. flag_there words n k b lt (h k lt) }

power : (m : ℕ) → m < 64 → 1 * 2 ^ m % 2 ^ 64 ≡ 2 ^ m
power m lt =
    let p : 2 ^ m < 2 ^ 64 = pow-lt lt in
    let e : 1 * 2 ^ m ≡ 2 ^ m = omega arith in
    ap (λ z. z % 2 ^ 64) e ∙ mod-eq_of_lt p

pub masked_ones : (w m : ℕ) → m < 64 → IsCount (IsSetBit w) m (ones (bit_and w (1 * 2 ^ m % 2 ^ 64 - 1)))
masked_ones w m lt =
    subst (λ z. IsCount (IsSetBit w) m (ones (bit_and w (z - 1)))) (sym (power m lt))
    (masked w m m (ones (bit_and w (2 ^ m - 1))) (omega arith)
    (word_ones (bit_and w (2 ^ m - 1)) m (subst (λ z. z < 2 ^ m) (sym (and_mask w m)) (mod-lt w (pow_pos m)))))

-- a word more, and the rest of a word
more_words : (a b : List ℕ) (i c d n : ℕ) → n ≡ 64 → IsCount (BothSet a b) (64 * i) c → IsCount (IsSetBit (bit_and (get_or a i 0) (get_or b i 0))) n d → IsCount (BothSet a b) (64 * (i + 1)) (c + d)
more_words a b i c d n e before here =
    let f : 64 * i + n ≡ 64 * (i + 1) = omega arith in
    subst (λ m. IsCount (BothSet a b) m (c + d)) f (count_join (BothSet a b) (64 * i) n c d before (word_flags a b i d n (omega arith) here))

variable : (k : ℕ) → (n : ℕ) × (n ≡ k)
variable k = (k, refl)

pub words_more : (a b : List ℕ) (i c d : ℕ) → IsCount (BothSet a b) (64 * i) c → ((m : ℕ) → m ≡ 64 → IsCount (IsSetBit (bit_and (get_or a i 0) (get_or b i 0))) m d) → IsCount (BothSet a b) (64 * (i + 1)) (c + d)
words_more a b i c d before here = more_words a b i c d (variable 64).0 (variable 64).1 before (here (variable 64).0 (variable 64).1)

pub words_rest : (a b : List ℕ) (k c d : ℕ) → IsCount (BothSet a b) (64 * (k / 64)) c → IsCount (IsSetBit (bit_and (get_or a (k / 64) 0) (get_or b (k / 64) 0))) (k % 64) d → IsCount (BothSet a b) k (c + d)
words_rest a b k c d before here =
    let f : 64 * (k / 64) + k % 64 ≡ k = omega arith in
    subst (λ m. IsCount (BothSet a b) m (c + d)) f (count_join (BothSet a b) (64 * (k / 64)) (k % 64) c d before (word_flags a b (k / 64) d (k % 64) (omega arith) here))

pub has_flag : (words : List ℕ) (n k : ℕ) → k < n → (flag_of words k ≡ true) ↔ (slice_get (flags_of words n) k ≡ Some true)
has_flag words n k lt = (λ e. flag_there words n k true lt e, λ h. (flag_read words n k h).1)

pub shifted : (w i : ℕ) → (bit_and (w / 2 ^ i) 1 == 1) ≡ (bit_at w i == 1)
shifted w i = ap (λ z. z == 1) (shr_and_one w i)

word_at : (words : List ℕ) (word m i : ℕ) → AreEqual word m words → i < m → get_or words i 0 ≡ word
word_at words word m i are lt = get_or_from_slice_get words i word 0 (are.same i lt)

pub none_set : (words : List ℕ) (m n : ℕ) → AreEqual 0 m words → AreAll false n (flags_of words n)
none_set words m n are = all_flags words n false (λ k lt. ap (λ z. z == 1) (ap (λ z. bit_at z (k % 64)) (zero_at (k / 64)) ∙ bit_at-zero (k % 64)))
  where
    zero_at : (i : ℕ) → get_or words i 0 ≡ 0
    zero_at i = elim (cases_lt i m) [
      | inl l ↦ word_at words 0 m i are l
      | inr g ↦ get_or_past words i 0 (let l = are.long in omega arith)
    ]

pub all_set : (words : List ℕ) (m n : ℕ) → AreEqual (2 ^ 64 - 1) m words → n ≤ 64 * m → AreAll true n (flags_of words n)
all_set words m n are le = all_flags words n true (λ k lt.
    bit_flag words k (ap (λ z. bit_at z (k % 64)) (word_at words (2 ^ 64 - 1) m (k / 64) are (omega arith)) ∙ bit_at_ones 64 (k % 64) (small_bit k)))

-- a word in front of the others
pub flag_first : (w : ℕ) (words : List ℕ) (k : ℕ) → k < 64 → (bit_at w k == 1) ≡ flag_of (w ∷ words) k
flag_first w words k lt =
    let q : 0 ≡ k / 64 = omega arith in
    let r : k ≡ k % 64 = omega arith in
    ap (λ z. bit_at w z == 1) r ∙ ap (λ z. bit_at (get_or (w ∷ words) z 0) (k % 64) == 1) q

flag_after : (w : ℕ) (words : List ℕ) (j k : ℕ) → k ≡ 64 + j → flag_of words j ≡ flag_of (w ∷ words) k
flag_after w words j k e =
    let q : suc (j / 64) ≡ k / 64 = omega arith in
    let r : j % 64 ≡ k % 64 = omega arith in
    ap (λ z. bit_at (get_or words (j / 64) 0) z == 1) r ∙ ap (λ z. bit_at (get_or (w ∷ words) z 0) (k % 64) == 1) q

pub flag_later : (w : ℕ) (words : List ℕ) (k : ℕ) → 64 ≤ k → flag_of words (k - 64) ≡ flag_of (w ∷ words) k
flag_later w words k le = flag_after w words (k - 64) k (omega arith)

-- one flag more in the first word
pub first_here : (w : ℕ) (words : List ℕ) (k : ℕ) → k < 64 → flag_of (bit_or w (1 * 2 ^ k % 2 ^ 64) ∷ words) k ≡ true
first_here w words k lt = sym (flag_first (bit_or w (1 * 2 ^ k % 2 ^ 64)) words k lt) ∙ ap (λ z. z == 1) (bit_at_set_same w64 w k lt)

pub first_elsewhere : (w : ℕ) (words : List ℕ) (k j : ℕ) → k < 64 → (j ≡ k → ⊥) → flag_of (bit_or w (1 * 2 ^ k % 2 ^ 64) ∷ words) j ≡ flag_of (w ∷ words) j
first_elsewhere w words k j lt other = elim (cases_lt j 64) [
  | inl l ↦
      sym (flag_first (bit_or w (1 * 2 ^ k % 2 ^ 64)) words j l) ∙ ap (λ z. z == 1) (bit_at_set_other w64 w k lt j other) ∙ flag_first w words j l
  | inr g ↦ sym (flag_later (bit_or w (1 * 2 ^ k % 2 ^ 64)) words j g) ∙ flag_later w words j g
]

-- one flag more behind the first word
pub later_here : (w : ℕ) (words : List ℕ) (k : ℕ) → 64 ≤ k → flag_of words (k - 64) ≡ true → flag_of (w ∷ words) k ≡ true
later_here w words k le h = sym (flag_later w words k le) ∙ h

pub later_elsewhere : (w : ℕ) (old new : List ℕ) (k j : ℕ) → 64 ≤ k → ((i : ℕ) → (i ≡ k - 64 → ⊥) → flag_of new i ≡ flag_of old i) → (j ≡ k → ⊥) → flag_of (w ∷ new) j ≡ flag_of (w ∷ old) j
later_elsewhere w old new k j le others other = elim (cases_lt j 64) [
  | inl l ↦ sym (flag_first w new j l) ∙ flag_first w old j l
  | inr g ↦ sym (flag_later w new j g) ∙ others (j - 64) (λ e. other (omega arith)) ∙ flag_later w old j g
]

-- how many are flagged in both first words, and behind them
pub first_common : (a b : ℕ) (more_a more_b : List ℕ) (m c : ℕ) → m ≤ 64 → IsCount (IsSetBit (bit_and a b)) m c → IsCount (BothSet (a ∷ more_a) (b ∷ more_b)) m c
first_common a b more_a more_b m c le is =
    count_alike (λ j. BothSet (a ∷ more_a) (b ∷ more_b) (64 * 0 + j)) (BothSet (a ∷ more_a) (b ∷ more_b)) m c
    (λ j l h. subst (BothSet (a ∷ more_a) (b ∷ more_b)) (same j) h)
    (λ j l h. subst (BothSet (a ∷ more_a) (b ∷ more_b)) (sym (same j)) h)
    (word_flags (a ∷ more_a) (b ∷ more_b) 0 c m le is)
  where
    same : (j : ℕ) → 64 * 0 + j ≡ j
    same j = omega arith

later_common : (a b : ℕ) (more_a more_b : List ℕ) (k c d n : ℕ) → n ≡ 64 → 64 ≤ k → IsCount (IsSetBit (bit_and a b)) n c → IsCount (BothSet more_a more_b) (k - 64) d → IsCount (BothSet (a ∷ more_a) (b ∷ more_b)) k (c + d)
later_common a b more_a more_b k c d n e le here rest =
    let f : n + (k - 64) ≡ k = omega arith in
    subst (λ m. IsCount (BothSet (a ∷ more_a) (b ∷ more_b)) m (c + d)) f
    (count_join (BothSet (a ∷ more_a) (b ∷ more_b)) n (k - 64) c d (first_common a b more_a more_b n c (omega arith) here)
    (count_alike (BothSet more_a more_b) (λ j. BothSet (a ∷ more_a) (b ∷ more_b) (n + j)) (k - 64) d to from rest))
  where
    at : (w : ℕ) (words : List ℕ) (j : ℕ) → flag_of words j ≡ flag_of (w ∷ words) (n + j)
    at w words j = flag_after w words j (n + j) (omega arith)

    to : (j : ℕ) → j < k - 64 → BothSet more_a more_b j → BothSet (a ∷ more_a) (b ∷ more_b) (n + j)
    to j l h = (sym (at a more_a j) ∙ h.0, sym (at b more_b j) ∙ h.1)

    from : (j : ℕ) → j < k - 64 → BothSet (a ∷ more_a) (b ∷ more_b) (n + j) → BothSet more_a more_b j
    from j l h = (at a more_a j ∙ h.0, at b more_b j ∙ h.1)

pub all_common : (a b : ℕ) (more_a more_b : List ℕ) (k c d : ℕ) → 64 ≤ k → ((m : ℕ) → m ≡ 64 → IsCount (IsSetBit (bit_and a b)) m c) → IsCount (BothSet more_a more_b) (k - 64) d → IsCount (BothSet (a ∷ more_a) (b ∷ more_b)) k (c + d)
all_common a b more_a more_b k c d le here rest = later_common a b more_a more_b k c d (variable 64).0 (variable 64).1 le (here (variable 64).0 (variable 64).1) rest

-- a word more of those that are all the same
pub equal_more : (word m : ℕ) (words : List ℕ) → AreEqual word m words → AreEqual word (suc m) (word ∷ words)
equal_more word m words are = record { long = ap suc are.long; same = same }
  where
    same : (i : ℕ) → i < suc m → slice_get (word ∷ words) i ≡ Some word
    same zero lt = refl
    same (suc i) lt = are.same i (omega arith)
