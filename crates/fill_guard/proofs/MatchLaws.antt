-- Counts along the lists of pieces are counts of matches.
use Rattle.std.proofs.Common.{◌≡◌, ℕ, zero, suc, ◌+◌, ◌<◌, ◌≤◌, inl, inr, List, [], ◌∷◌, length, get_or, slice_get, Some, refl, sym, ap, ◌∙◌, subst, arith, min}
use Rattle.std.specs.Prelude.{Contains}
use Rattle.std.proofs.lemmas.Bool.{cases_order}
use Rattle.std.proofs.lemmas.Option.{same_Some, slice_get-get_or, slice_get_within, get_or_from_slice_get}
use Rattle.fill_text.proofs.ListReads.{contains_read, read_contains}
use Rattle.fill_tokens.specs.Span.{Spans, Begins}
use Rattle.fill_tokens.specs.Value.{IsCount}
use Rattle.fill_tokens.specs.declared.token.Token.{Token}
use Rattle.fill_tokens.proofs.CountLaws.{yes, no, count_same, count_mono}
use Rattle.fill_tokens.proofs.CutLaws.{matches_counted}
use Rattle.fill_tokens.proofs.ListsExist.{matches_exist}
use Rattle.fill_tokens.proofs.RisingLaws.{Enumerates, count_all}
use Rattle.fill_tokens.proofs.SpanLaws.{within}
use Rattle.fill_spans.specs.Pieces.{Rises, AreExactly}
use Rattle.fill_spans.proofs.PieceLaws.{piece_at}
use Rattle.fill_guard.specs.Matches.{IsMatchCount, IsFew, IsJoined, AreBelow}

-- numbers that have not the property count nothing
skip : (P : ℕ → Type 0) (m n c : ℕ) → m ≤ n → ((k : ℕ) → m ≤ k → k < n → P k → ⊥) → IsCount P m c → IsCount P n c
skip P m zero c h none is = let e : m ≡ 0 = omega arith in subst (λ i. IsCount P i c) e is
skip P m (suc n) c h none is = elim (cases_order m (suc n)) [
  | inl e ↦ subst (λ i. IsCount P i c) e is
  | inr o ↦ elim o [
    | inl l ↦ inr (none n (omega arith) (omega arith), skip P m n c (omega arith) (λ k a b. none k a (omega arith)) is)
    | inr g ↦ absurd (omega arith)
  ]
]

module _ (starts ends seconds : List ℕ) where
  -- `count` of the pieces before the place go on; m is past all of their starts
  pub record Scanned (i count : ℕ) : Type 0 where
    pub past : ℕ
    pub counted : IsCount (IsJoined starts ends seconds) past count
    pub low : (j : ℕ) → j < i → j < length starts → get_or starts j 0 < past
    pub high : (j : ℕ) → i ≤ j → j < length starts → past ≤ get_or starts j 0
    pub least : (n : ℕ) → AreBelow starts n → past ≤ n

  pub scan_start : Scanned 0 0
  scan_start = record { past = 0; counted = refl; low = λ j l w. absurd (omega arith); high = λ j l w. omega arith; least = λ n h. omega arith }

  module _ (rise : Rises starts) (i count : ℕ) (lt : i < length starts) (s : Scanned i count) where
    before : IsCount (IsJoined starts ends seconds) (get_or starts i 0) count
    before = skip (IsJoined starts ends seconds) s.past (get_or starts i 0) count (s.high i (omega arith) lt) none s.counted
      where
        none : (k : ℕ) → s.past ≤ k → k < get_or starts i 0 → IsJoined starts ends seconds k → ⊥
        none k a b h =
            let w = slice_get_within starts h.0 k h.1 in
            let e : get_or starts h.0 0 ≡ k = get_or_from_slice_get starts h.0 k 0 h.1 in
            elim (cases_order h.0 i) [
              | inl same ↦ absurd (let f : get_or starts h.0 0 ≡ get_or starts i 0 = ap (λ z. get_or starts z 0) same in omega arith)
              | inr o ↦ elim o [
                | inl l ↦ absurd (let u = s.low h.0 l w in omega arith)
                | inr g ↦ absurd (let u = rise i h.0 0 g w in omega arith)
              ]
            ]

    moved : (c : ℕ) → IsCount (IsJoined starts ends seconds) (get_or starts i 0 + 1) c → Scanned (i + 1) c
    moved c is = record {
      past = get_or starts i 0 + 1;
      counted = is;
      low = λ j l w. elim (cases_order j i) [
        | inl same ↦ (let f : get_or starts j 0 ≡ get_or starts i 0 = ap (λ z. get_or starts z 0) same in omega arith)
        | inr o ↦ elim o [ inl m ↦ (let u = rise j i 0 m lt in omega arith) | inr g ↦ absurd (omega arith) ]
      ];
      high = λ j l w. let u = rise i j 0 (omega arith) w in omega arith;
      least = λ n h. let u = h i (get_or starts i 0) (slice_get-get_or starts i 0 lt) in omega arith;
    }

    module _ (b : ℕ) (at : slice_get ends i ≡ Some b) where
      only : IsJoined starts ends seconds (get_or starts i 0) → Contains seconds b
      only h =
          let w = slice_get_within starts h.0 (get_or starts i 0) h.1 in
          let e : get_or starts h.0 0 ≡ get_or starts i 0 = get_or_from_slice_get starts h.0 (get_or starts i 0) 0 h.1 in
          elim (cases_order h.0 i) [
            | inl same ↦
                (let f : h.2 ≡ b = same_Some h.2 b (sym h.3 ∙ ap (slice_get ends) same ∙ at) in
                subst (Contains seconds) f h.4)
            | inr o ↦ elim o [
              | inl l ↦ absurd (let u = rise h.0 i 0 l lt in omega arith)
              | inr g ↦ absurd (let u = rise i h.0 0 g w in omega arith)
            ]
          ]

      pub scan_more : Contains seconds b → Scanned (i + 1) (count + 1)
      scan_more has = moved (count + 1) (yes (IsJoined starts ends seconds) (get_or starts i 0) count (i, slice_get-get_or starts i 0 lt, b, at, has) before)

      pub scan_not : (Contains seconds b → ⊥) → Scanned (i + 1) count
      scan_not none = moved count (no (IsJoined starts ends seconds) (get_or starts i 0) count (λ h. none (only h)) before)

  pub scan_three : (i : ℕ) → Scanned i 3 → (n : ℕ) → AreBelow starts n → IsFew (IsJoined starts ends seconds) n 3
  scan_three i s n h = inr (refl, (s.past, s.least n h, s.counted))

  pub scan_end : (i count : ℕ) → length starts ≤ i → count < 3 → Scanned i count → (n : ℕ) → AreBelow starts n → IsFew (IsJoined starts ends seconds) n count
  scan_end i count e small s n h = inl (small, skip (IsJoined starts ends seconds) s.past n count (s.least n h) none s.counted)
    where
      none : (k : ℕ) → s.past ≤ k → k < n → IsJoined starts ends seconds k → ⊥
      none k a b j =
          let w = slice_get_within starts j.0 k j.1 in
          let f : get_or starts j.0 0 ≡ k = get_or_from_slice_get starts j.0 k 0 j.1 in
          let u = s.low j.0 (omega arith) w in
          omega arith

-- what few there are of all matches
few_of_all : (r : List Token) (t : List ℕ) (few : ℕ) → IsFew (Begins r t) (length t + 1) few → IsMatchCount r t few
few_of_all r t few h =
    let list = matches_exist r t in
    let all = (matches_counted r t list.0 list.1 (length list.0)).1 refl in
    elim h [
      | inl a ↦ (few, a.1, omega (arith, a.0))
      | inr b ↦
          let p = b.1 in
          let le = count_mono (Begins r t) p.0 (length t + 1) 3 (length list.0) p.1 p.2 all in
          let e = b.0 in
          (length list.0, all, omega arith)
    ]

few_same : (P Q : ℕ → Type 0) (n few : ℕ) → ((i : ℕ) → P i → Q i) → ((i : ℕ) → Q i → P i) → IsFew P n few → IsFew Q n few
few_same P Q n few f g h = elim h [
  | inl a ↦ inl (a.0, count_same P Q n few f g a.1)
  | inr b ↦ let p = b.1 in inr (b.0, (p.0, p.1, count_same P Q p.0 3 f g p.2))
]

module _ (x : Token) (t : List ℕ) (starts ends : List ℕ) (are : AreExactly (Spans x t) starts ends) where
  pub starts_below : AreBelow starts (length t + 1)
  starts_below i k h =
      let lt = slice_get_within starts i k h in
      let s = piece_at (Spans x t) starts ends are i 0 lt in
      let w = within x t (get_or starts i 0) (get_or ends i 0) s in
      let e : get_or starts i 0 ≡ k = get_or_from_slice_get starts i k 0 h in
      let u = w.0 in
      let v = w.1 in
      omega arith

  begins_at : (j : ℕ) → j < length starts → Begins (x ∷ []) t (get_or starts j 0)
  begins_at j lt =
      let s = piece_at (Spans x t) starts ends are j 0 lt in
      (get_or ends j 0, (get_or ends j 0, s, (refl, (within x t (get_or starts j 0) (get_or ends j 0) s).1)))

  enumerates : Enumerates (Begins (x ∷ []) t) (length t + 1) starts
  enumerates = record {
    rising = λ i j l w. are.starts_rise i j 0 l w;
    each = begins_at;
    all = λ k l h.
        let p = (are.exact k h.1.0).1 h.1.1 in
        (p.0, slice_get_within starts p.0 k p.1, get_or_from_slice_get starts p.0 k 0 p.1);
  }

  -- pieces of one token
  pub count_of_one : (few : ℕ) → few ≡ min (length starts) 3 → IsMatchCount (x ∷ []) t few
  count_of_one few e = (
    length starts,
    count_all (Begins (x ∷ []) t) starts (length t + 1) enumerates (λ j lt. starts_below j (get_or starts j 0) (slice_get-get_or starts j 0 lt)),
    e,
  )

  -- .. of two
  pub count_of_two : (y : Token) (starts2 ends2 : List ℕ) → AreExactly (Spans y t) starts2 ends2 → (few : ℕ) → IsFew (IsJoined starts ends starts2) (length t + 1) few → IsMatchCount (x ∷ y ∷ []) t few
  count_of_two y starts2 ends2 are2 few h = few_of_all (x ∷ y ∷ []) t few (few_same (IsJoined starts ends starts2) (Begins (x ∷ y ∷ []) t) (length t + 1) few to from h)
    where
      to : (k : ℕ) → IsJoined starts ends starts2 k → Begins (x ∷ y ∷ []) t k
      to k j =
          let b = j.2 in
          let s = (are.exact k b).0 (j.0, j.1, j.3) in
          let r = read_contains starts2 b j.4 in
          let u = (are2.exact b (get_or ends2 r.0 0)).0 (r.0, r.2, slice_get-get_or ends2 r.0 0 (let p = are2.paired in let q = r.1 in omega arith)) in
          (get_or ends2 r.0 0, (b, s, (get_or ends2 r.0 0, u, (refl, (within y t b (get_or ends2 r.0 0) u).1))))

      from : (k : ℕ) → Begins (x ∷ y ∷ []) t k → IsJoined starts ends starts2 k
      from k j =
          let a = j.1 in
          let p = (are.exact k a.0).1 a.1 in
          let q = (are2.exact a.0 a.2.0).1 a.2.1 in
          (p.0, p.1, a.0, p.2, contains_read starts2 q.0 a.0 q.1)
