-- Every text has the rising list of its cuts between two sequences, and that of the matches of a sequence.
use Rattle.std.proofs.Common.{◌≡◌, ℕ, zero, suc, ◌+◌, ◌-◌, ◌<◌, ◌≤◌, ◌⊎◌, inl, inr, Bool, true, false, List, [], ◌∷◌, ◌++◌, length, get_or, refl, sym, subst, arith}
use Rattle.std.specs.Prelude.{Contains}
use Rattle.std.specs.List.Sorted.{IsStrictlyIncreasing}
use Rattle.std.proofs.lemmas.Bool.{cases_order, cases_Bool}
use Rattle.std.proofs.lemmas.List.{get_or_push, get_or_append_left, length-append}
use Rattle.std.proofs.lemmas.List.Elements.{Contains-get_or, Contains-append_left, Contains-push, Contains-push_cases}
use Rattle.fill_tokens.specs.Kind.{run_has, kind_of}
use Rattle.fill_tokens.specs.Span.{IsRun, KindSpans, SeqSpans, Begins, Ends, IsCut}
use Rattle.fill_tokens.specs.Cuts.{IsRisingListOf, AreCuts, AreMatches}
use Rattle.fill_tokens.specs.declared.token.Token.{Token}
use Rattle.fill_tokens.specs.declared.kind.Kind.{Kind}
use Rattle.fill_tokens.specs.declared.kind.Kind.TheVariants.{AtStart, AtEnd, Run, Single}
use Rattle.fill_tokens.proofs.SpanLaws.{one_end, within, seq_within}

-- the fact holds or does not
abbrev Decided : Type 0 → Type 0
Decided P = P ⊎ (P → ⊥)

same_decided : (m n : ℕ) → Decided (m ≡ n)
same_decided m n = elim (cases_order m n) [ inl e ↦ inl e | inr o ↦ inr (λ e. omega arith) ]

both_decided : (P Q : Type 0) → Decided P → Decided Q → Decided (P × Q)
both_decided P Q (inl p) (inl q) = inl (p, q)
both_decided P Q (inl p) (inr q) = inr (λ h. q h.1)
both_decided P Q (inr p) q = inr (λ h. p h.0)

-- below a number stands one that has the property, or none
some_below : (P : ℕ → Type 0) → ((i : ℕ) → Decided (P i)) → (n : ℕ) → ((i : ℕ) × P i) ⊎ ((i : ℕ) → i < n → P i → ⊥)
some_below P decide zero = inr (λ i l h. omega arith)
some_below P decide (suc n) = elim (some_below P decide n) [
  | inl found ↦ inl found
  | inr none ↦ elim (decide n) [
    | inl h ↦ inl (n, h)
    | inr fails ↦ inr (λ i l h. elim (cases_order i n) [
      | inl e ↦ fails (subst P e h)
      | inr o ↦ elim o [ inl below ↦ none i below h | inr above ↦ absurd (omega arith) ]
    ])
  ]
]

-- the first position from a on whose character has the property not, or the length
record RunEnd (p : ℕ → Bool) (t : List ℕ) (a b : ℕ) : Type 0 where
  order : a ≤ b
  within : b ≤ length t
  inside : (i : ℕ) → a ≤ i → i < b → p (get_or t i 0) ≡ true
  after : b < length t → p (get_or t b 0) ≡ false

run_end : (p : ℕ → Bool) (t : List ℕ) (rest a : ℕ) → a + rest ≡ length t → (b : ℕ) × RunEnd p t a b
run_end p t zero a e = (
  a,
  record {
    order = omega arith;
    within = omega arith;
    inside = λ i l m. absurd (omega arith);
    after = λ l. absurd (omega arith);
  },
)
run_end p t (suc rest) a e = elim (cases_Bool (p (get_or t a 0))) [
  | inr fails ↦ (a, record { order = omega arith; within = omega arith; inside = λ i l m. absurd (omega arith); after = λ l. fails })
  | inl holds ↦
      let more = run_end p t rest (a + 1) (omega arith) in (
        more.0,
        record {
          order = omega (arith, more.1.order);
          within = more.1.within;
          inside = λ i l m. elim (cases_order i a) [
            | inl same ↦ subst (λ j. p (get_or t j 0) ≡ true) (sym same) holds
            | inr o ↦ more.1.inside i (omega arith) m
          ];
          after = more.1.after;
        },
      )
]

run_before : (p : ℕ → Bool) (t : List ℕ) (a : ℕ) → Decided ((i : ℕ) → i + 1 ≡ a → p (get_or t i 0) ≡ false)
run_before p t zero = inl (λ i e. absurd (omega arith))
run_before p t (suc a) = elim (cases_Bool (p (get_or t a 0))) [
  | inl holds ↦ inr (λ h. let no = h a (omega arith) in cc)
  | inr fails ↦ inl (λ i e. let same : a ≡ i = omega arith in subst (λ j. p (get_or t j 0) ≡ false) same fails)
]

run_from : (p : ℕ → Bool) (t : List ℕ) (a rest : ℕ) → a + rest ≡ length t → ((b : ℕ) × IsRun p t a b) ⊎ ((b : ℕ) → IsRun p t a b → ⊥)
run_from p t a rest e = elim (run_before p t a) [
  | inr fails ↦ inr (λ b r. fails r.before)
  | inl before ↦
      let end = run_end p t rest a e in
      elim (cases_order a end.0) [
        | inl same ↦ inr (λ b r.
            let yes = r.inside a (omega arith) r.some in
            let no = subst (λ j. j < length t → p (get_or t j 0) ≡ false) (sym same) end.1.after (omega (arith, r.some, r.within)) in
            cc)
        | inr o ↦ inl (
          end.0,
          record {
            some = omega (arith, end.1.order);
            within = end.1.within;
            inside = end.1.inside;
            before = before;
            after = end.1.after;
          },
        )
      ]
]

kind_from : (k : Kind) (t : List ℕ) (a rest : ℕ) → a + rest ≡ length t → ((b : ℕ) × KindSpans k t a b) ⊎ ((b : ℕ) → KindSpans k t a b → ⊥)
kind_from AtStart t a rest e = elim (same_decided a 0) [ inl h ↦ inl (0, (h, refl)) | inr n ↦ inr (λ b s. n s.0) ]
kind_from AtEnd t a rest e = elim (same_decided a (length t)) [ inl h ↦ inl (length t, (h, refl)) | inr n ↦ inr (λ b s. n s.0) ]
kind_from (Run class) t a rest e = run_from (run_has class) t a rest e
kind_from (Single c) t a zero e = inr (λ b s. omega (arith, s.0))
kind_from (Single c) t a (suc rest) e = elim (same_decided (get_or t a 0) c) [
  | inl h ↦ inl (a + 1, (omega arith, h, refl))
  | inr n ↦ inr (λ b s. n s.1)
]

seq_decided : (r : List Token) (t : List ℕ) (a b rest : ℕ) → a + rest ≡ length t → Decided (SeqSpans r t a b)
seq_decided [] t a b rest e = elim (same_decided a b) [ inl h ↦ inl (h, omega arith) | inr n ↦ inr (λ s. n s.0) ]
seq_decided (x ∷ xs) t a b rest e = elim (kind_from (kind_of x) t a rest e) [
  | inr none ↦ inr (λ s. none s.0 s.1)
  | inl piece ↦
      let w = within x t a piece.0 piece.1 in
      elim (seq_decided xs t piece.0 b (length t - piece.0) (omega arith)) [
        | inl s ↦ inl (piece.0, piece.1, s)
        | inr n ↦ inr (λ s. n (subst (λ m. SeqSpans xs t m b) (one_end x t a s.0 piece.0 s.1 piece.1) s.2))
      ]
]

spans_decided : (r : List Token) (t : List ℕ) (a b : ℕ) → Decided (SeqSpans r t a b)
spans_decided r t a b = elim (cases_order (length t) a) [
  | inl e ↦ seq_decided r t a b 0 (omega arith)
  | inr o ↦ elim o [
    | inl past ↦ inr (λ s. let w = seq_within r t a b s in omega arith)
    | inr inside ↦ seq_decided r t a b (length t - a) (omega arith)
  ]
]

-- the rising list of the numbers below n that have the property
record ListsBelow (P : ℕ → Type 0) (n : ℕ) (ks : List ℕ) : Type 0 where
  rising : IsStrictlyIncreasing ks
  has : (k : ℕ) → Contains ks k → P k × (k < n)
  all : (k : ℕ) → P k → k < n → Contains ks k

rising_push : (ks : List ℕ) (n : ℕ) → IsStrictlyIncreasing ks → ((j : ℕ) → j < length ks → get_or ks j 0 < n) → IsStrictlyIncreasing (ks ++ n ∷ [])
rising_push ks n rising low k h =
    let size = length-append ks (n ∷ []) in
    elim (cases_order (k + 1) (length ks)) [
      | inl last ↦
          let at_last = get_or_push ks n 0 (k + 1) (sym last) in
          let before = get_or_append_left ks (n ∷ []) 0 k (omega arith) in
          let less = low k (omega arith) in
          omega arith
      | inr o ↦ elim o [
        | inl inside ↦
            let left = get_or_append_left ks (n ∷ []) 0 k (omega arith) in
            let right = get_or_append_left ks (n ∷ []) 0 (k + 1) inside in
            let less = rising k inside in
            omega arith
        | inr past ↦ absurd (omega arith)
      ]
    ]

list_below : (P : ℕ → Type 0) → ((k : ℕ) → Decided (P k)) → (n : ℕ) → (ks : List ℕ) × ListsBelow P n ks
list_below P decide zero = (
  [],
  record {
    rising = λ k h. absurd (omega arith);
    has = λ k c. absurd (omega (arith, c.1));
    all = λ k h l. absurd (omega arith);
  },
)
list_below P decide (suc n) =
    let l = list_below P decide n in
    elim (decide n) [
      | inr fails ↦ (
        l.0,
        record {
          rising = l.1.rising;
          has = λ k c. let h = l.1.has k c in (h.0, omega (arith, h.1));
          all = λ k h m. elim (cases_order k n) [
            | inl e ↦ absurd (fails (subst P e h))
            | inr o ↦ elim o [ inl below ↦ l.1.all k h below | inr above ↦ absurd (omega arith) ]
          ];
        },
      )
      | inl holds ↦ (
        l.0 ++ n ∷ [],
        record {
          rising = rising_push l.0 n l.1.rising (λ j within. (l.1.has (get_or l.0 j 0) (Contains-get_or l.0 j 0 within)).1);
          has = λ k c. elim (Contains-push_cases l.0 n k c) [
            | inl before ↦ let h = l.1.has k before in (h.0, omega (arith, h.1))
            | inr e ↦ (subst P e holds, omega arith)
          ];
          all = λ k h m. elim (cases_order k n) [
            | inl e ↦ subst (λ x. Contains (l.0 ++ n ∷ []) x) (sym e) (Contains-push l.0 n)
            | inr o ↦ elim o [ inl below ↦ Contains-append_left l.0 (n ∷ []) k (l.1.all k h below) | inr above ↦ absurd (omega arith) ]
          ];
        },
      )
    ]

list_of : (P : ℕ → Type 0) → ((k : ℕ) → Decided (P k)) → (n : ℕ) → ((k : ℕ) → P k → k < n) → (ks : List ℕ) × IsRisingListOf P ks
list_of P decide n small =
    let l = list_below P decide n in
    (l.0, record { rising = l.1.rising; exact = λ k. (λ h. (l.1.has k h).0, λ h. l.1.all k h (small k h)) })

begins_decided : (r : List Token) (t : List ℕ) (k : ℕ) → Decided (Begins r t k)
begins_decided r t k = elim (some_below (λ b. SeqSpans r t k b) (spans_decided r t k) (length t + 1)) [
  | inl found ↦ inl found
  | inr none ↦ inr (λ h. let w = seq_within r t k h.0 h.1 in none h.0 (omega arith) h.1)
]

ends_decided : (r : List Token) (t : List ℕ) (k : ℕ) → Decided (Ends r t k)
ends_decided r t k = elim (some_below (λ a. SeqSpans r t a k) (λ a. spans_decided r t a k) (length t + 1)) [
  | inl found ↦ inl found
  | inr none ↦ inr (λ h. let w = seq_within r t h.0 k h.1 in none h.0 (omega arith) h.1)
]

begins_small : (r : List Token) (t : List ℕ) (k : ℕ) → Begins r t k → k < length t + 1
begins_small r t k h = let w = seq_within r t k h.0 h.1 in omega arith

pub cuts_exist : (r s : List Token) (t : List ℕ) → (ks : List ℕ) × AreCuts r s t ks
cuts_exist r s t = list_of (IsCut r s t) (λ k. both_decided (Ends r t k) (Begins s t k) (ends_decided r t k) (begins_decided s t k)) (length t + 1)
    (λ k h. begins_small s t k h.1)

pub matches_exist : (r : List Token) (t : List ℕ) → (ks : List ℕ) × AreMatches r t ks
matches_exist r t = list_of (Begins r t) (begins_decided r t) (length t + 1) (begins_small r t)
