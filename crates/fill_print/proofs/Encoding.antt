-- Characters in UTF-8, byte by byte.
use Rattle.std.proofs.Common.{◌≡◌, ◌≢◌, ℕ, ◌+◌, ◌-◌, ◌*◌, ◌/◌, ◌%◌, ◌<◌, ◌≤◌, ◌⊎◌, inl, inr, List, [], ◌∷◌, ◌++◌, length, refl, sym, ap, subst, ◌∙◌, arith}
use Rattle.std.specs.Char.{IsScalar, encode_utf8}
use Rattle.std.proofs.lemmas.Bool.{cases_lt, cases_eq, lt-ltb, le-ltb, ne_eqb, le-leb}
use lib.Utf8.{scalar_cases, low_scalar}
use Rattle.fill_print.specs.Reading.{Takes, Halts}
use Rattle.fill_print.specs.Utf8.{Scalar, High, Ranged, low_3, high_3, low_4, high_4, One, Two, Three, Four}
use Rattle.fill_print.proofs.Chains.{OneForm, IsSpelled, IsAt, HasText, halts_first, halts_empty, gives_one, both_one, at_one, link}

-- how many bytes a character has, and which
pub data Encoded (c : ℕ) (s k : List ℕ) : Type 0 where
  one : c < 128 → s ≡ c ∷ k → Encoded c s k
  two : 128 ≤ c → c < 2048 → s ≡ (192 + c / 64) ∷ (128 + c % 64) ∷ k → Encoded c s k
  three : 2048 ≤ c → c < 65536 → s ≡ (224 + c / 4096) ∷ (128 + (c / 64) % 64) ∷ (128 + c % 64) ∷ k → Encoded c s k
  four : 65536 ≤ c → s ≡ (240 + c / 262144) ∷ (128 + (c / 4096) % 64) ∷ (128 + (c / 64) % 64) ∷ (128 + c % 64) ∷ k → Encoded c s k

encode_1 : (c : ℕ) → c < 128 → encode_utf8 c ≡ c ∷ []
unfolding encode_utf8
encode_1 c h = rw (lt-ltb c 128 h) refl

encode_2 : (c : ℕ) → 128 ≤ c → c < 2048 → encode_utf8 c ≡ (192 + c / 64) ∷ (128 + c % 64) ∷ []
unfolding encode_utf8
encode_2 c a b = rw (le-ltb c 128 a, lt-ltb c 2048 b) refl

encode_3 : (c : ℕ) → 2048 ≤ c → c < 65536 → encode_utf8 c ≡ (224 + c / 4096) ∷ (128 + (c / 64) % 64) ∷ (128 + c % 64) ∷ []
unfolding encode_utf8
encode_3 c a b = rw (le-ltb c 128 (omega arith), le-ltb c 2048 a, lt-ltb c 65536 b) refl

encode_4 : (c : ℕ) → 65536 ≤ c → encode_utf8 c ≡ (240 + c / 262144) ∷ (128 + (c / 4096) % 64) ∷ (128 + (c / 64) % 64) ∷ (128 + c % 64) ∷ []
unfolding encode_utf8
encode_4 c a = rw (le-ltb c 128 (omega arith), le-ltb c 2048 (omega arith), le-ltb c 65536 a) refl

encoded : (c : ℕ) (s k : List ℕ) → s ≡ encode_utf8 c ++ k → Encoded c s k
encoded c s k e = elim (cases_lt c 128) [
  | inl a ↦ one a (e ∙ ap (λ x. x ++ k) (encode_1 c a))
  | inr a ↦ elim (cases_lt c 2048) [
    | inl b ↦ two a b (e ∙ ap (λ x. x ++ k) (encode_2 c a b))
    | inr b ↦ elim (cases_lt c 65536) [
      | inl d ↦ three b d (e ∙ ap (λ x. x ++ k) (encode_3 c b d))
      | inr d ↦ four d (e ∙ ap (λ x. x ++ k) (encode_4 c d))
    ]
  ]
]

-- a scalar value, from its range
scalar_high : (c : ℕ) → 57344 ≤ c → c < 1114112 → IsScalar c
scalar_high c a b = rw (le-ltb c 55296 (omega arith), le-leb 57344 c a, lt-ltb c 1114112 b) refl

scalar_from : (c : ℕ) → (c < 55296) ⊎ ((57344 ≤ c) × (c < 1114112)) → IsScalar c
scalar_from c (inl h) = low_scalar c h
scalar_from c (inr h) = scalar_high c h.0 h.1

-- the ranges of the second byte, as facts on numbers
low_3_is : (a : ℕ) → ((a ≡ 224) × (low_3 a ≡ 160)) ⊎ ((a ≢ 224) × (low_3 a ≡ 128))
low_3_is a = elim (cases_eq a 224) [ inl e ↦ inl (e, rw e refl) | inr ne ↦ inr (ne, rw (ne_eqb a 224 ne) refl) ]

high_3_is : (a : ℕ) → ((a ≡ 237) × (high_3 a ≡ 159)) ⊎ ((a ≢ 237) × (high_3 a ≡ 191))
high_3_is a = elim (cases_eq a 237) [ inl e ↦ inl (e, rw e refl) | inr ne ↦ inr (ne, rw (ne_eqb a 237 ne) refl) ]

low_4_is : (a : ℕ) → ((a ≡ 240) × (low_4 a ≡ 144)) ⊎ ((a ≢ 240) × (low_4 a ≡ 128))
low_4_is a = elim (cases_eq a 240) [ inl e ↦ inl (e, rw e refl) | inr ne ↦ inr (ne, rw (ne_eqb a 240 ne) refl) ]

high_4_is : (a : ℕ) → ((a ≡ 244) × (high_4 a ≡ 143)) ⊎ ((a ≢ 244) × (high_4 a ≡ 191))
high_4_is a = elim (cases_eq a 244) [ inl e ↦ inl (e, rw e refl) | inr ne ↦ inr (ne, rw (ne_eqb a 244 ne) refl) ]

low_3_ge : (a : ℕ) → 128 ≤ low_3 a
low_3_ge a = elim (low_3_is a) [ inl h ↦ omega (arith, h.1) | inr h ↦ omega (arith, h.1) ]

high_3_le : (a : ℕ) → high_3 a ≤ 191
high_3_le a = elim (high_3_is a) [ inl h ↦ omega (arith, h.1) | inr h ↦ omega (arith, h.1) ]

low_4_ge : (a : ℕ) → 128 ≤ low_4 a
low_4_ge a = elim (low_4_is a) [ inl h ↦ omega (arith, h.1) | inr h ↦ omega (arith, h.1) ]

high_4_le : (a : ℕ) → high_4 a ≤ 191
high_4_le a = elim (high_4_is a) [ inl h ↦ omega (arith, h.1) | inr h ↦ omega (arith, h.1) ]

-- three bytes, from the numbers to the character
three_range : (a b d c : ℕ) → 224 ≤ a → a ≤ 239 → low_3 a ≤ b → b ≤ high_3 a → 128 ≤ d → d ≤ 191 → c ≡ ((a - 224) * 64 + (b - 128)) * 64 + (d - 128)
    → ((c < 55296) ⊎ ((57344 ≤ c) × (c < 1114112))) × (2048 ≤ c) × (c < 65536)
three_range a b d c p q r s t u e = elim (low_3_is a) [
  | inl l ↦ let h = high_3_le a in (inl (omega (arith, l.0, l.1)), omega (arith, l.0, l.1), omega (arith, l.0, l.1))
  | inr l ↦ elim (high_3_is a) [
    | inl h ↦ (inl (omega (arith, l.1, h.0, h.1)), omega (arith, l.1, h.0, h.1), omega (arith, l.1, h.0, h.1))
    | inr h ↦ elim (cases_lt a 237) [
      | inl lt ↦ (inl (omega (arith, l.1, h.1)), omega (arith, l.0, l.1, h.1), omega (arith, l.1, h.1))
      | inr ge ↦ (inr (omega (arith, l.1, h.0, h.1), omega (arith, l.1, h.1)), omega (arith, l.0, l.1, h.1), omega (arith, l.1, h.1))
    ]
  ]
]

three_bytes : (a b d c : ℕ) → 224 ≤ a → 128 ≤ b → b ≤ 191 → 128 ≤ d → d ≤ 191 → c ≡ ((a - 224) * 64 + (b - 128)) * 64 + (d - 128)
    → (224 + c / 4096 ≡ a) × (128 + (c / 64) % 64 ≡ b) × (128 + c % 64 ≡ d)
three_bytes a b d c p q r s t e = (omega arith, omega arith, omega arith)

-- and back
three_parts : (c : ℕ) → 2048 ≤ c → c < 65536 → (c < 55296) ⊎ ((57344 ≤ c) × (c < 1114112)) → (low_3 (224 + c / 4096) ≤ 128 + (c / 64) % 64) × (128 + (c / 64) % 64 ≤ high_3 (224 + c / 4096))
three_parts c p q r = (
  elim (low_3_is (224 + c / 4096)) [ inl h ↦ omega (arith, h.0, h.1) | inr h ↦ omega (arith, h.1) ],
  elim (high_3_is (224 + c / 4096)) [
    | inl h ↦ elim r [ inl low ↦ omega (arith, h.0, h.1) | inr high ↦ absurd (omega (arith, h.0, high.0)) ]
    | inr h ↦ omega (arith, h.1)
  ],
)

three_value : (c : ℕ) → c ≡ ((224 + c / 4096 - 224) * 64 + (128 + (c / 64) % 64 - 128)) * 64 + (128 + c % 64 - 128)
three_value c = omega arith

four_range : (a b d f c : ℕ) → 240 ≤ a → a ≤ 244 → low_4 a ≤ b → b ≤ high_4 a → 128 ≤ d → d ≤ 191 → 128 ≤ f → f ≤ 191 → c ≡ (((a - 240) * 64 + (b - 128)) * 64 + (d - 128)) * 64 + (f - 128)
    → (65536 ≤ c) × (c < 1114112)
four_range a b d f c p q r s t u v w e = (
  elim (low_4_is a) [ inl h ↦ omega (arith, h.0, h.1) | inr h ↦ omega (arith, h.0, h.1) ],
  (let top = high_4_le a in elim (high_4_is a) [ inl h ↦ omega (arith, h.0, h.1) | inr h ↦ (let less : a ≤ 243 = omega (arith, h.0) in omega (arith, h.1)) ]),
)

four_bytes : (a b d f c : ℕ) → 240 ≤ a → 128 ≤ b → b ≤ 191 → 128 ≤ d → d ≤ 191 → 128 ≤ f → f ≤ 191 → c ≡ (((a - 240) * 64 + (b - 128)) * 64 + (d - 128)) * 64 + (f - 128)
    → (240 + c / 262144 ≡ a) × (128 + (c / 4096) % 64 ≡ b) × (128 + (c / 64) % 64 ≡ d) × (128 + c % 64 ≡ f)
four_bytes a b d f c p q r s t u v e = (omega arith, omega arith, omega arith, omega arith)

four_parts : (c : ℕ) → 65536 ≤ c → c < 1114112 → (low_4 (240 + c / 262144) ≤ 128 + (c / 4096) % 64) × (128 + (c / 4096) % 64 ≤ high_4 (240 + c / 262144)) × (240 + c / 262144 ≤ 244)
four_parts c p q = (
  elim (low_4_is (240 + c / 262144)) [ inl h ↦ omega (arith, h.0, h.1) | inr h ↦ omega (arith, h.1) ],
  elim (high_4_is (240 + c / 262144)) [ inl h ↦ omega (arith, h.0, h.1) | inr h ↦ omega (arith, h.1) ],
  omega arith,
)

four_value : (c : ℕ) → c ≡ (((240 + c / 262144 - 240) * 64 + (128 + (c / 4096) % 64 - 128)) * 64 + (128 + (c / 64) % 64 - 128)) * 64 + (128 + c % 64 - 128)
four_value c = omega arith

-- which bytes a character begins with
first_byte : (a b : ℕ) (x y : List ℕ) → a ∷ x ≡ b ∷ y → a ≡ b
first_byte a b x y e = cc

rest_bytes : (a b : ℕ) (x y : List ℕ) → a ∷ x ≡ b ∷ y → x ≡ y
rest_bytes a b x y e = cc

pub at_low : (a : ℕ) → a < 128 → IsAt Scalar One a
at_low a low = record {
  forth = λ c s k h. subst (λ x. Scalar x s k) (sym h.later.0) (low_scalar h.item (omega (arith, h.here.1)), h.here.2 ∙ ap (λ x. h.item ∷ x) h.later.1 ∙ ap (λ x. x ++ k) (sym (encode_1 h.item (omega (arith, h.here.1)))));
  back = λ c s k h. go c s k (encoded c (a ∷ s) k h.1);
}
  where
    go : (c : ℕ) (s k : List ℕ) → Encoded c (a ∷ s) k → One c (a ∷ s) k
    go c s k (one p e) = link c k (omega arith, omega arith, e) (refl, refl)
    go c s k (two p q e) = absurd (let f = first_byte a _ s _ e in omega arith)
    go c s k (three p q e) = absurd (let f = first_byte a _ s _ e in omega arith)
    go c s k (four p e) = absurd (let f = first_byte a _ s _ e in omega arith)

pub at_two : (a : ℕ) → 194 ≤ a → a ≤ 223 → IsAt Scalar Two a
at_two a low high = record {
  forth = λ c s k h.
      let b = h.later.item in
      let v : ℕ = (h.item - 192) * 64 + (b - 128) in
      let from : 128 ≤ v = omega (arith, h.here.0, h.later.here.0) in
      let to : v < 2048 = omega (arith, h.here.1, h.later.here.1) in
      let p : 192 + v / 64 ≡ h.item = omega (arith, h.here.0, h.later.here.0, h.later.here.1) in
      let q : 128 + v % 64 ≡ b = omega (arith, h.here.0, h.later.here.0, h.later.here.1) in
      let text : s ≡ encode_utf8 v ++ k = h.here.2 ∙ ap (λ x. h.item ∷ x) (h.later.here.2 ∙ ap (λ x. b ∷ x) h.later.later.1) ∙ ap (λ x. x ∷ b ∷ k) (sym p) ∙ ap (λ x. (192 + v / 64) ∷ x ∷ k) (sym q) ∙ ap (λ x. x ++ k) (sym (encode_2 v from to)) in
      subst (λ x. Scalar x s k) (sym h.later.later.0) (low_scalar v (omega arith), text);
  back = λ c s k h. go c s k (encoded c (a ∷ s) k h.1);
}
  where
    go : (c : ℕ) (s k : List ℕ) → Encoded c (a ∷ s) k → Two c (a ∷ s) k
    go c s k (one p e) = absurd (let f = first_byte a _ s _ e in omega arith)
    go c s k (two p q e) = link (192 + c / 64) ((128 + c % 64) ∷ k) (omega arith, omega arith, e) (link (128 + c % 64) k (omega arith, omega arith, refl) (omega arith, refl))
    go c s k (three p q e) = absurd (let f = first_byte a _ s _ e in omega arith)
    go c s k (four p e) = absurd (let f = first_byte a _ s _ e in omega arith)

pub at_three : (a : ℕ) → 224 ≤ a → a ≤ 239 → IsAt Scalar Three a
at_three a low high = record {
  forth = λ c s k h.
      let b = h.later.item in
      let d = h.later.later.item in
      let v : ℕ = ((h.item - 224) * 64 + (b - 128)) * 64 + (d - 128) in
      let r = three_range h.item b d v h.here.0 h.here.1 h.later.here.0 h.later.here.1 h.later.later.here.0 h.later.later.here.1 refl in
      let n = three_bytes h.item b d v h.here.0 (omega (arith, h.later.here.0, low_3_ge h.item)) (omega (arith, h.later.here.1, high_3_le h.item)) h.later.later.here.0 h.later.later.here.1 refl in
      let text : s ≡ encode_utf8 v ++ k = h.here.2 ∙ ap (λ x. h.item ∷ x) (h.later.here.2 ∙ ap (λ x. b ∷ x) (h.later.later.here.2 ∙ ap (λ x. d ∷ x) h.later.later.later.1)) ∙ sym (ap (λ x. x ++ k) (encode_3 v r.1 r.2) ∙ rw (n.0, n.1, n.2) refl) in
      subst (λ x. Scalar x s k) (sym h.later.later.later.0) (scalar_from v r.0, text);
  back = λ c s k h. go c s k h.0 (encoded c (a ∷ s) k h.1);
}
  where
    go : (c : ℕ) (s k : List ℕ) → IsScalar c → Encoded c (a ∷ s) k → Three c (a ∷ s) k
    go c s k is (one p e) = absurd (let f = first_byte a _ s _ e in omega arith)
    go c s k is (two p q e) = absurd (let f = first_byte a _ s _ e in omega arith)
    go c s k is (three p q e) =
        let t = three_parts c p q (scalar_cases c is) in
        link (224 + c / 4096) ((128 + (c / 64) % 64) ∷ (128 + c % 64) ∷ k) (omega arith, omega arith, e) (link (128 + (c / 64) % 64) ((128 + c % 64) ∷ k) (t.0, t.1, refl) (link (128 + c % 64) k (omega arith, omega arith, refl) (three_value c, refl)))
    go c s k is (four p e) = absurd (let f = first_byte a _ s _ e in omega arith)

pub at_four : (a : ℕ) → 240 ≤ a → a ≤ 244 → IsAt Scalar Four a
at_four a low high = record {
  forth = λ c s k h.
      let b = h.later.item in
      let d = h.later.later.item in
      let f = h.later.later.later.item in
      let v : ℕ = (((h.item - 240) * 64 + (b - 128)) * 64 + (d - 128)) * 64 + (f - 128) in
      let r = four_range h.item b d f v h.here.0 h.here.1 h.later.here.0 h.later.here.1 h.later.later.here.0 h.later.later.here.1 h.later.later.later.here.0 h.later.later.later.here.1 refl in
      let n = four_bytes h.item b d f v h.here.0 (omega (arith, h.later.here.0, low_4_ge h.item)) (omega (arith, h.later.here.1, high_4_le h.item)) h.later.later.here.0 h.later.later.here.1 h.later.later.later.here.0 h.later.later.later.here.1 refl in
      let text : s ≡ encode_utf8 v ++ k = h.here.2 ∙ ap (λ x. h.item ∷ x) (h.later.here.2 ∙ ap (λ x. b ∷ x) (h.later.later.here.2 ∙ ap (λ x. d ∷ x) (h.later.later.later.here.2 ∙ ap (λ x. f ∷ x) h.later.later.later.later.1))) ∙ sym (ap (λ x. x ++ k) (encode_4 v r.0) ∙ rw (n.0, n.1, n.2, n.3) refl) in
      subst (λ x. Scalar x s k) (sym h.later.later.later.later.0) (scalar_from v (inr (omega (arith, r.0), r.1)), text);
  back = λ c s k h. go c s k h.0 (encoded c (a ∷ s) k h.1);
}
  where
    go : (c : ℕ) (s k : List ℕ) → IsScalar c → Encoded c (a ∷ s) k → Four c (a ∷ s) k
    go c s k is (one p e) = absurd (let f = first_byte a _ s _ e in omega arith)
    go c s k is (two p q e) = absurd (let f = first_byte a _ s _ e in omega arith)
    go c s k is (three p q e) = absurd (let f = first_byte a _ s _ e in omega arith)
    go c s k is (four p e) =
        let top : c < 1114112 = elim (scalar_cases c is) [ inl h ↦ omega arith | inr h ↦ h.1 ] in
        let t = four_parts c p top in
        link (240 + c / 262144) ((128 + (c / 4096) % 64) ∷ (128 + (c / 64) % 64) ∷ (128 + c % 64) ∷ k) (omega arith, t.2, e)
        (link (128 + (c / 4096) % 64) ((128 + (c / 64) % 64) ∷ (128 + c % 64) ∷ k) (t.0, t.1, refl) (link (128 + (c / 64) % 64) ((128 + c % 64) ∷ k) (omega arith, omega arith, refl) (link (128 + c % 64) k (omega arith, omega arith, refl) (four_value c, refl))))

-- ranges of bytes
pub ranged_one : (low high : ℕ) → OneForm (Ranged low high)
ranged_one low high = record { law = λ a b s k l p q. (first_byte a b k l (sym p.2 ∙ q.2), rest_bytes a b k l (sym p.2 ∙ q.2)) }

pub ranged_spelled : (low high : ℕ) → low ≤ high → IsSpelled (Ranged low high)
ranged_spelled low high h = record { some = low; text = low ∷ []; spelled = λ k. (omega arith, h, refl) }

ranged_text : (low high : ℕ) → low ≤ high → HasText (Ranged low high)
ranged_text low high h = (low, low, [], λ k. (omega arith, h, refl))

pub ranged_takes : (low high b : ℕ) (bytes after : List ℕ) → low ≤ b → b ≤ high → bytes ≡ b ∷ after → Takes (Ranged low high) bytes b after
ranged_takes low high b bytes after l h e = record { front = b ∷ []; is = e; spelled = λ k. (l, h, refl) }

pub ranged_halts : (low high b : ℕ) (bytes after : List ℕ) → low ≤ high → bytes ≡ b ∷ after → (low ≤ b → b ≤ high → ⊥) → Halts (Ranged low high) bytes (length bytes)
ranged_halts low high b bytes after h e no_such = halts_first (Ranged low high) (ranged_text low high h) b bytes after e (λ c s k g. let f = first_byte b c s k g.2 in no_such (omega (arith, g.0)) (omega (arith, g.1)))

pub ranged_empty : (low high : ℕ) (bytes : List ℕ) → low ≤ high → bytes ≡ [] → Halts (Ranged low high) bytes 0
ranged_empty low high bytes h e = halts_empty (Ranged low high) (ranged_text low high h) bytes e (λ c k g. let f : ◌≡◌ {A = List ℕ} [] (c ∷ k) = g.2 in let no_such : ⊥ = cc in no_such)

pub low_high_3 : (a : ℕ) → low_3 a ≤ high_3 a
low_high_3 a = elim (low_3_is a) [
  | inl h ↦ (let top : high_3 a ≡ 191 = elim (high_3_is a) [ inl g ↦ absurd (omega (arith, h.0, g.0)) | inr g ↦ g.1 ] in omega (arith, h.1))
  | inr h ↦ elim (high_3_is a) [ inl g ↦ omega (arith, h.1, g.1) | inr g ↦ omega (arith, h.1, g.1) ]
]

pub low_high_4 : (a : ℕ) → low_4 a ≤ high_4 a
low_high_4 a = elim (low_4_is a) [
  | inl h ↦ (let top : high_4 a ≡ 191 = elim (high_4_is a) [ inl g ↦ absurd (omega (arith, h.0, g.0)) | inr g ↦ g.1 ] in omega (arith, h.1))
  | inr h ↦ elim (high_4_is a) [ inl g ↦ omega (arith, h.1, g.1) | inr g ↦ omega (arith, h.1, g.1) ]
]

-- the classes of first bytes
pub data Lead (b : ℕ) : Type 0 where
  lead_1 : b < 128 → Lead b
  lead_2 : 194 ≤ b → b ≤ 223 → Lead b
  lead_3 : 224 ≤ b → b ≤ 239 → Lead b
  lead_4 : 240 ≤ b → b ≤ 244 → Lead b

pub lead_of : (c b : ℕ) (s k : List ℕ) → Scalar c (b ∷ s) k → Lead b
lead_of c b s k h = go (encoded c (b ∷ s) k h.1)
  where
    go : Encoded c (b ∷ s) k → Lead b
    go (one p e) = lead_1 (let f = first_byte b _ s _ e in omega arith)
    go (two p q e) = lead_2 (let f = first_byte b _ s _ e in omega arith) (let f = first_byte b _ s _ e in omega arith)
    go (three p q e) = lead_3 (let f = first_byte b _ s _ e in omega arith) (let f = first_byte b _ s _ e in omega arith)
    go (four p e) = lead_4 (let f = first_byte b _ s _ e in omega arith) (let f = first_byte b _ s _ e in let top : c < 1114112 = elim (scalar_cases c h.0) [ inl g ↦ omega arith | inr g ↦ g.1 ] in omega arith)

pub scalar_text : HasText Scalar
scalar_text = (97, 97, [], λ k. (refl, ap (λ x. x ++ k) (sym (encode_1 97 (omega arith)))))

pub scalar_empty : (bytes : List ℕ) → bytes ≡ [] → Halts Scalar bytes 0
scalar_empty bytes e = halts_empty Scalar scalar_text bytes e (λ c k h. go c k (encoded c [] k h.1))
  where
    go : (c : ℕ) (k : List ℕ) → Encoded c [] k → ⊥
    go c k (one p e) = let no_such : ⊥ = cc in no_such
    go c k (two p q e) = let no_such : ⊥ = cc in no_such
    go c k (three p q e) = let no_such : ⊥ = cc in no_such
    go c k (four p e) = let no_such : ⊥ = cc in no_such

pub scalar_halts : (b : ℕ) (bytes after : List ℕ) → bytes ≡ b ∷ after → (Lead b → ⊥) → Halts Scalar bytes (length bytes)
scalar_halts b bytes after e no_lead = halts_first Scalar scalar_text b bytes after e (λ c s k h. no_lead (lead_of c b s k h))

pub scalar_one : OneForm Scalar
scalar_one = record { law = λ c d s k l p q. start s c d k l p q }
  where
    go : (b : ℕ) (x : List ℕ) (c d : ℕ) (k l : List ℕ) → Scalar c (b ∷ x) k → Scalar d (b ∷ x) l → Lead b → (c ≡ d) × (k ≡ l)
    go b x c d k l p q (lead_1 h) = at_one Scalar One b (at_low b h) (both_one (ranged_one 0 127) (λ a. gives_one a)) c d (b ∷ x) x k l refl p q
    go b x c d k l p q (lead_2 h g) = at_one Scalar Two b (at_two b h g) (both_one (ranged_one 194 223) (λ a. both_one (ranged_one 128 191) (λ e. gives_one _))) c d (b ∷ x) x k l refl p q
    go b x c d k l p q (lead_3 h g) = at_one Scalar Three b (at_three b h g) (both_one (ranged_one 224 239) (λ a. both_one (ranged_one (low_3 a) (high_3 a)) (λ e. both_one (ranged_one 128 191) (λ f. gives_one _)))) c d (b ∷ x) x k l refl p q
    go b x c d k l p q (lead_4 h g) = at_one Scalar Four b (at_four b h g) (both_one (ranged_one 240 244) (λ a. both_one (ranged_one (low_4 a) (high_4 a)) (λ e. both_one (ranged_one 128 191) (λ f. both_one (ranged_one 128 191) (λ i. gives_one _))))) c d (b ∷ x) x k l refl p q

    none : (c : ℕ) (k : List ℕ) → Encoded c [] k → ⊥
    none c k (one p e) = let no_such : ⊥ = cc in no_such
    none c k (two p q e) = let no_such : ⊥ = cc in no_such
    none c k (three p q e) = let no_such : ⊥ = cc in no_such
    none c k (four p e) = let no_such : ⊥ = cc in no_such

    start : (s : List ℕ) (c d : ℕ) (k l : List ℕ) → Scalar c s k → Scalar d s l → (c ≡ d) × (k ≡ l)
    start [] c d k l p q = absurd (none c k (encoded c [] k p.1))
    start (b ∷ x) c d k l p q = go b x c d k l p q (lead_of c b x k p)

pub low_takes : (b : ℕ) (bytes after : List ℕ) → b < 128 → bytes ≡ b ∷ after → Takes Scalar bytes b after
low_takes b bytes after low e = record { front = b ∷ []; is = e; spelled = λ k. (low_scalar b (omega arith), ap (λ x. x ++ k) (sym (encode_1 b low))) }

-- characters of two bytes or more
pub high_from : (c b : ℕ) (s k : List ℕ) → 128 ≤ b → Scalar c (b ∷ s) k → 128 ≤ c
high_from c b s k h x = go (encoded c (b ∷ s) k x.1)
  where
    go : Encoded c (b ∷ s) k → 128 ≤ c
    go (one p e) = absurd (let f = first_byte b c s k e in omega arith)
    go (two p q e) = p
    go (three p q e) = omega arith
    go (four p e) = omega arith

high_at : (c b : ℕ) (s m k : List ℕ) → 128 ≤ b → s ≡ b ∷ m → Scalar c s k → High c s k
high_at c b s m k h e x = (high_from c b m k h (subst (λ y. Scalar c y k) e x), x)

pub high_two : (a : ℕ) → 194 ≤ a → a ≤ 223 → IsAt High Two a
high_two a low high = record {
  forth = λ c s k h. high_at c h.item s h.middle k (omega (arith, h.here.0)) h.here.2 ((at_two a low high).forth c s k h);
  back = λ c s k h. (at_two a low high).back c s k h.1;
}

pub high_three : (a : ℕ) → 224 ≤ a → a ≤ 239 → IsAt High Three a
high_three a low high = record {
  forth = λ c s k h. high_at c h.item s h.middle k (omega (arith, h.here.0)) h.here.2 ((at_three a low high).forth c s k h);
  back = λ c s k h. (at_three a low high).back c s k h.1;
}

pub high_four : (a : ℕ) → 240 ≤ a → a ≤ 244 → IsAt High Four a
high_four a low high = record {
  forth = λ c s k h. high_at c h.item s h.middle k (omega (arith, h.here.0)) h.here.2 ((at_four a low high).forth c s k h);
  back = λ c s k h. (at_four a low high).back c s k h.1;
}

high_text : HasText High
high_text = (233, 195, 169 ∷ [], λ k. (omega arith, (refl, ap (λ x. x ++ k) (sym (encode_2 233 (omega arith) (omega arith))))))

pub scalar_nothing : (c : ℕ) (k : List ℕ) → Scalar c [] k → ⊥
scalar_nothing c k h = go (encoded c [] k h.1)
  where
    go : Encoded c [] k → ⊥
    go (one p e) = let no_such : ⊥ = cc in no_such
    go (two p q e) = let no_such : ⊥ = cc in no_such
    go (three p q e) = let no_such : ⊥ = cc in no_such
    go (four p e) = let no_such : ⊥ = cc in no_such

pub high_empty : (bytes : List ℕ) → bytes ≡ [] → Halts High bytes 0
high_empty bytes e = halts_empty High high_text bytes e (λ c k h. scalar_nothing c k h.1)

-- the bytes that no character of two or more begins with
abbrev pub NoLead : ℕ → Type 0
NoLead b = (b < 194) ⊎ (244 < b)

pub high_halts : (b : ℕ) (bytes after : List ℕ) → bytes ≡ b ∷ after → NoLead b → Halts High bytes (length bytes)
high_halts b bytes after e h = halts_first High high_text b bytes after e (λ c s k g. go c s k g.0 (lead_of c b s k g.1) (encoded c (b ∷ s) k g.1.1))
  where
    go : (c : ℕ) (s k : List ℕ) → 128 ≤ c → Lead b → Encoded c (b ∷ s) k → ⊥
    go c s k ge (lead_1 p) x = absurd (low c s k ge p x)
      where
        low : (c : ℕ) (s k : List ℕ) → 128 ≤ c → b < 128 → Encoded c (b ∷ s) k → ⊥
        low c s k ge p (one q f) = omega arith
        low c s k ge p (two q r f) = let g = first_byte b _ s _ f in omega arith
        low c s k ge p (three q r f) = let g = first_byte b _ s _ f in omega arith
        low c s k ge p (four q f) = let g = first_byte b _ s _ f in omega arith
    go c s k ge (lead_2 p q) x = elim h [ inl l ↦ omega arith | inr l ↦ omega arith ]
    go c s k ge (lead_3 p q) x = elim h [ inl l ↦ omega arith | inr l ↦ omega arith ]
    go c s k ge (lead_4 p q) x = elim h [ inl l ↦ omega arith | inr l ↦ omega arith ]

-- a character below 128 is its one byte
pub ascii_at : (c b : ℕ) (s k : List ℕ) → b < 128 → Scalar c (b ∷ s) k → (c ≡ b) × (s ≡ k)
ascii_at c b s k low h =
    let o = (at_low b low).back c s k h in
    (o.later.0 ∙ sym (first_byte b o.item s o.middle o.here.2), rest_bytes b o.item s o.middle o.here.2 ∙ o.later.1)

pub ascii_is : (c : ℕ) → c < 128 → encode_utf8 c ≡ c ∷ []
ascii_is c h = encode_1 c h

pub scalar_shrinks : (c : ℕ) (s k : List ℕ) → Scalar c s k → length k < length s
scalar_shrinks c s k h = go (encoded c s k h.1)
  where
    go : Encoded c s k → length k < length s
    go (one p e) = omega (arith, ap length e)
    go (two p q e) = omega (arith, ap length e)
    go (three p q e) = omega (arith, ap length e)
    go (four p e) = omega (arith, ap length e)
