-- Counting the numbers that have a property along the rising list of them.
use Rattle.std.proofs.Common.{◌≡◌, ℕ, zero, suc, ◌+◌, ◌-◌, ◌<◌, ◌≤◌, inl, inr, List, length, get_or, reverse, map, refl, sym, ap, ◌∙◌, subst, arith}
use Rattle.std.proofs.lemmas.Bool.{cases_order}
use Rattle.std.proofs.lemmas.List.{get_or-map, get_or-reverse, length-map, length-reverse, get_or_read}
use Rattle.std.proofs.lemmas.List.Elements.{Contains-get_or}
use Rattle.std.proofs.lemmas.List.Kept.{AllPairs-from_increasing}
use Rattle.fill_tokens.specs.Value.{IsCount}
use Rattle.fill_tokens.specs.Cuts.{IsRisingListOf}
use Rattle.fill_tokens.proofs.CountLaws.{count_unique}

-- the rising list of the numbers below b that have the property, by its items' places
pub record Enumerates (P : ℕ → Type 0) (b : ℕ) (ks : List ℕ) : Type 0 where
  pub rising : (i j : ℕ) → i < j → j < length ks → get_or ks i 0 < get_or ks j 0
  pub each : (j : ℕ) → j < length ks → P (get_or ks j 0)
  pub all : (x : ℕ) → x < b → P x → (j : ℕ) × (j < length ks) × (get_or ks j 0 ≡ x)

module _ (P : ℕ → Type 0) (ks : List ℕ) where
  -- the first i items are below n and count the numbers below n, and the others are not below n
  pub record Passed (n i : ℕ) : Type 0 where
    pub counted : IsCount P n i
    pub within : i ≤ length ks
    pub low : (j : ℕ) → j < i → get_or ks j 0 < n
    pub high : (j : ℕ) → i ≤ j → j < length ks → n ≤ get_or ks j 0

  module _ (b : ℕ) (e : Enumerates P b ks) where
    pass_item : (n i : ℕ) → Passed n i → i < length ks → get_or ks i 0 ≡ n → Passed (suc n) (i + 1)
    pass_item n i p h is = record {
      counted = inl (i, refl, subst P is (e.each i h), p.counted);
      within = omega arith;
      low = λ j l. elim (cases_order j i) [
        | inl same ↦ let here : get_or ks j 0 ≡ n = subst (λ m. get_or ks m 0 ≡ n) (sym same) is in omega arith
        | inr o ↦ elim o [ inl below ↦ let before = p.low j below in omega arith | inr above ↦ absurd (omega arith) ]
      ];
      high = λ j l within. let above = e.rising i j (omega arith) within in omega arith;
    }

    pass_none : (n i : ℕ) → Passed n i → n < b → ((j : ℕ) → j < length ks → get_or ks j 0 ≡ n → ⊥) → Passed (suc n) i
    pass_none n i p h none = record {
      counted = inr (λ q. let at = e.all n h q in none at.0 at.1 at.2, p.counted);
      within = p.within;
      low = λ j l. let before = p.low j l in omega arith;
      high = λ j l within. elim (cases_order (get_or ks j 0) n) [
        | inl same ↦ absurd (none j within same)
        | inr o ↦ let after = p.high j l within in omega arith
      ];
    }

    none_at : (n i : ℕ) → Passed n i → (i < length ks → n < get_or ks i 0) → (j : ℕ) → j < length ks → get_or ks j 0 ≡ n → ⊥
    none_at n i p above j within same = elim (cases_order j i) [
      | inl here ↦
          let next : n < get_or ks i 0 = above (omega arith) in
          let it : get_or ks i 0 ≡ n = subst (λ m. get_or ks m 0 ≡ n) here same in
          absurd (omega arith)
      | inr o ↦ elim o [
        | inl below ↦ let before = p.low j below in absurd (omega arith)
        | inr after ↦
            let next : n < get_or ks i 0 = above (omega arith) in
            let more = e.rising i j after within in
            absurd (omega arith)
      ]
    ]

    pub passed : (n : ℕ) → n ≤ b → (i : ℕ) × Passed n i
    passed zero h = (
      0,
      record {
        counted = refl;
        within = omega arith;
        low = λ j l. absurd (omega arith);
        high = λ j l within. omega arith;
      },
    )
    passed (suc n) h =
        let before = passed n (omega arith) in
        let i = before.0 in
        let p = before.1 in
        elim (cases_order i (length ks)) [
          | inl end ↦ (i, pass_none n i p (omega arith) (none_at n i p (λ l. absurd (omega arith))))
          | inr o ↦ elim o [
            | inr past ↦ absurd (omega (arith, p.within))
            | inl within ↦ elim (cases_order n (get_or ks i 0)) [
              | inl same ↦ (i + 1, pass_item n i p within (sym same))
              | inr c ↦ elim c [
                | inl above ↦ (i, pass_none n i p (omega arith) (none_at n i p (λ l. above)))
                | inr below ↦ absurd (omega (arith, p.high i (omega arith) within))
              ]
            ]
          ]
        ]

    -- up to an item of the list stand as many numbers as the list has items up to it
    pub count_at : (j : ℕ) → j < length ks → get_or ks j 0 < b → IsCount P (get_or ks j 0 + 1) (j + 1)
    count_at j within h =
        let here = passed (get_or ks j 0 + 1) (omega arith) in
        let i = here.0 in
        let p = here.1 in
        elim (cases_order i (j + 1)) [
          | inl same ↦ subst (λ m. IsCount P (get_or ks j 0 + 1) m) same p.counted
          | inr o ↦ elim o [
            | inl few ↦ let above = p.high j (omega arith) within in absurd (omega arith)
            | inr many ↦
                let below = p.low (j + 1) many in
                let above = e.rising j (j + 1) (omega arith) (omega (arith, p.within)) in
                absurd (omega arith)
          ]
        ]

    -- in all stand as many numbers as the list has items
    pub count_all : ((j : ℕ) → j < length ks → get_or ks j 0 < b) → IsCount P b (length ks)
    count_all low =
        let here = passed b (omega arith) in
        let i = here.0 in
        let p = here.1 in
        elim (cases_order i (length ks)) [
          | inl same ↦ subst (λ m. IsCount P b m) same p.counted
          | inr o ↦ elim o [
            | inl few ↦
                let above = p.high i (omega arith) few in
                let below = low i few in
                absurd (omega arith)
            | inr many ↦ absurd (omega (arith, p.within))
          ]
        ]

    -- a number that has the property is the item at the place that counts the earlier ones
    pub item_of : (x c : ℕ) → x < b → P x → IsCount P (x + 1) c → (j : ℕ) × (j < length ks) × (get_or ks j 0 ≡ x) × (c ≡ suc j)
    item_of x c h q r =
        let at = e.all x h q in
        let here : IsCount P (x + 1) (at.0 + 1) = subst (λ m. IsCount P (m + 1) (at.0 + 1)) at.2 (count_at at.0 at.1 (omega arith)) in
        let same : c ≡ at.0 + 1 = count_unique P (x + 1) c (at.0 + 1) r here in
        (at.0, at.1, at.2, omega arith)

module _ (P : ℕ → Type 0) (ks : List ℕ) (l : IsRisingListOf P ks) where
  rises : (i j : ℕ) → i < j → j < length ks → get_or ks i 0 < get_or ks j 0
  rises i j = AllPairs-from_increasing ks l.rising i j 0

  pub has_each : (j : ℕ) → j < length ks → P (get_or ks j 0)
  has_each j within = (l.exact (get_or ks j 0)).0 (Contains-get_or ks j 0 within)

  place : (x : ℕ) → P x → (j : ℕ) × (j < length ks) × (get_or ks j 0 ≡ x)
  place x h =
      let at = (l.exact x).1 h in
      (at.0, at.1, sym (get_or_read ks at.0 x at.1 (sym at.2) 0))

  pub enumerated : (b : ℕ) → Enumerates P b ks
  enumerated b = record { rising = rises; each = has_each; all = λ x h. place x }

  -- the same list counted back from n
  module _ (n : ℕ) (small : (j : ℕ) → j < length ks → get_or ks j 0 ≤ n) where
    pub back : List ℕ
    back = map (λ k. n - k) (reverse ks)

    pub length-back : length back ≡ length ks
    unfolding back
    length-back = length-map (reverse ks) (λ k. n - k) ∙ length-reverse ks

    pub back_at : (j : ℕ) → j < length ks → get_or back j 0 ≡ n - get_or ks (length ks - 1 - j) 0
    unfolding back
    back_at j within = get_or-map (λ k. n - k) (reverse ks) j 0 0 (omega (arith, length-reverse ks)) ∙ ap (λ k. n - k) (get_or-reverse ks j 0 within)

    pub enumerated_back : Enumerates (λ i. P (n - i)) (n + 1) back
    enumerated_back = record {
      rising = λ i j o within.
          let more = rises (length ks - 1 - j) (length ks - 1 - i) (omega (arith, length-back)) (omega (arith, length-back)) in
          let most = small (length ks - 1 - i) (omega (arith, length-back)) in
          omega (arith, back_at i (omega (arith, length-back)), back_at j (omega (arith, length-back)));
      each = λ j within.
          let most = small (length ks - 1 - j) (omega (arith, length-back)) in
          let it : get_or ks (length ks - 1 - j) 0 ≡ n - get_or back j 0 = omega (arith, back_at j (omega (arith, length-back))) in
          subst P it (has_each (length ks - 1 - j) (omega (arith, length-back)));
      all = λ x h q.
          let at = place (n - x) q in
          let twice : length ks - 1 - (length ks - 1 - at.0) ≡ at.0 = omega arith in
          let it = ap (λ i. get_or ks i 0) twice in
          (length ks - 1 - at.0, omega (arith, length-back), omega (arith, back_at (length ks - 1 - at.0) (omega arith)));
    }
