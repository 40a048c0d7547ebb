-- What the loops over rows have met so far.
use Rattle.std.proofs.Common.{◌≡◌, ◌⊎◌, ℕ, zero, suc, ◌+◌, ◌<◌, List, [], ◌∷◌, ◌++◌, length, length-append, Bool, true, false, not, cond, nat_eq, bytes_eq, Option, None, Some, unwrap_or, slice_get, inl, inr, refl, sym, ap, subst, ◌∙◌, arith}
use Rattle.std.specs.Cmp.Lexicographic.{bytes_decides, nat_list_eq_equiv}
use Rattle.std.proofs.lemmas.Bool.{cases_Bool, cases_order}
use Rattle.std.proofs.lemmas.Bool.Decides.{nat_tests}
use Rattle.std.proofs.lemmas.Option.{slice_get_within}
use Rattle.fill_text.specs.Data.{TableData, table_cell_at}
use Rattle.fill_tables.specs.Tables.{row_count}
use Rattle.fill_keys.specs.Ranks.{AreRanks}

some_same : {A : Type 0} (x y : A) → Some x ≡ Some y → x ≡ y
some_same x y h = cc

same_number : (s q : ℕ) → nat_eq s q ≡ true → s ≡ q
same_number s q h = grind (arith, nat_tests)

number_same : (s : ℕ) → nat_eq s s ≡ true
number_same s = grind (arith, nat_tests)

pub not_true : (b : Bool) → not b ≡ true → b ≡ false
not_true true h = sym h
not_true false h = refl

pub not_false : (b : Bool) → not b ≡ false → b ≡ true
not_false true h = refl
not_false false h = sym h

-- the numbers of the first n rows were met, and no other, and no two of them are equal
pub record MetSoFar (number : ℕ → ℕ) (n : ℕ) (met : ℕ → Bool) : Type 0 where
  pub seen : (v : ℕ) → met v ≡ true → (k : ℕ) × (k < n) × (number k ≡ v)
  pub all : (k : ℕ) → k < n → met (number k) ≡ true
  pub apart : (j k : ℕ) → j < n → k < n → number j ≡ number k → j ≡ k

pub met_none : (number : ℕ → ℕ) (met : ℕ → Bool) → ((v : ℕ) → met v ≡ false) → MetSoFar number 0 met
met_none number met none = record {
  seen = λ v h. absurd (let no = none v in let f : ⊥ = cc in f);
  all = λ k lt. absurd (omega arith);
  apart = λ j k lt less e. absurd (omega arith);
}

pub met_more : (number : ℕ → ℕ) (n : ℕ) (met more : ℕ → Bool) → MetSoFar number n met → met (number n) ≡ false → ((v : ℕ) → more v ≡ cond (nat_eq (number n) v) true (met v)) → MetSoFar number (n + 1) more
met_more number n met more old new is = record {
  seen = λ v h. elim (cases_Bool (nat_eq (number n) v)) [
    | inl e ↦ (n, (omega arith), same_number (number n) v e)
    | inr e ↦ let was : met v ≡ true = rw e at (sym (is v) ∙ h) in let k = old.seen v was in let lt = k.1 in (k.0, (omega arith), k.2)
  ];
  all = λ k lt. elim (cases_order k n) [
    | inl e ↦ subst (λ i. more (number i) ≡ true) (sym e) (is (number n) ∙ ap (λ b. cond b true (met (number n))) (number_same (number n)))
    | inr o ↦ elim o [
      | inl b ↦ is (number k) ∙ kept (nat_eq (number n) (number k)) (met (number k)) (old.all k b)
      | inr g ↦ absurd (omega arith)
    ]
  ];
  apart = λ j k lj lk e. elim (cases_order j n) [
    | inl j_last ↦ elim (cases_order k n) [
      | inl k_last ↦ j_last ∙ sym k_last
      | inr o ↦ elim o [
        | inl b ↦ absurd (clash k b (sym e ∙ ap number j_last))
        | inr g ↦ absurd (omega arith)
      ]
    ]
    | inr o ↦ elim o [
      | inl b ↦ elim (cases_order k n) [
        | inl k_last ↦ absurd (clash j b (e ∙ ap number k_last))
        | inr p ↦ elim p [
          | inl d ↦ old.apart j k b d e
          | inr g ↦ absurd (omega arith)
        ]
      ]
      | inr g ↦ absurd (omega arith)
    ]
  ];
}
  where
    kept : (b m : Bool) → m ≡ true → cond b true m ≡ true
    kept true m h = refl
    kept false m h = h

    clash : (k : ℕ) → k < n → number k ≡ number n → ⊥
    clash k lt e = let was : met (number n) ≡ true = subst (λ v. met v ≡ true) e (old.all k lt) in let f : ⊥ = cc in f

-- the ranks of the first rows: each text that was met is known by the first row that has it
pub record RankedSoFar (cell : ℕ → Option (List ℕ)) (first : List ℕ → Option ℕ) (ranks : List ℕ) : Type 0 where
  pub right : (t : List ℕ) (m : ℕ) → first t ≡ Some m → (cell m ≡ Some t) × (m < 65536)
  pub each : (i m : ℕ) (t : List ℕ) → slice_get ranks i ≡ Some m → cell (suc i) ≡ Some t → first t ≡ Some m
  pub there : (i : ℕ) → i < length ranks → (t : List ℕ) × (cell (suc i) ≡ Some t)

pub ranked_none : (cell : ℕ → Option (List ℕ)) (first : List ℕ → Option ℕ) → ((t : List ℕ) → first t ≡ None) → RankedSoFar cell first []
ranked_none cell first none = record {
  right = λ t m h. absurd (let no = none t in let f : ⊥ = cc in f);
  each = λ i m t h c. absurd (let f : ⊥ = cc in f);
  there = λ i lt. absurd (omega arith);
}

pub last_item : {A : Type 0} (xs : List A) (x : A) (i : ℕ) (y : A) → slice_get (xs ++ x ∷ []) i ≡ Some y → (slice_get xs i ≡ Some y) ⊎ ((i ≡ length xs) × (y ≡ x))
last_item [] x zero y h = inr (refl, (let e : x ≡ y = cc in sym e))
last_item [] x (suc i) y h = absurd (let f : ⊥ = cc in f)
last_item (z ∷ xs) x zero y h = inl h
last_item (z ∷ xs) x (suc i) y h = elim (last_item xs x i y h) [
  | inl e ↦ inl e
  | inr e ↦ inr (ap suc e.0, e.1)
]

pub ranked_more : (cell : ℕ → Option (List ℕ)) (first more : List ℕ → Option ℕ) (ranks : List ℕ) (t : List ℕ) (r : ℕ) → RankedSoFar cell first ranks →
    cell (suc (length ranks)) ≡ Some t → suc (length ranks) < 65536 → r ≡ unwrap_or (first t) (suc (length ranks)) →
    ((s : List ℕ) → more s ≡ cond (bytes_eq t s) (Some r) (first s)) → RankedSoFar cell more (ranks ++ r ∷ [])
ranked_more cell first more ranks t r old at small is update = record {
  right = λ s m h. elim (cases_Bool (bytes_eq t s)) [
    | inl e ↦ (
        let now : more s ≡ Some r = rw e at (update s) in
        let one : r ≡ m = some_same r m (sym now ∙ h) in
        let text : t ≡ s = (bytes_decides t s).0 e in
        subst (λ x. (cell x ≡ Some s) × (x < 65536)) one (subst (λ x. (cell r ≡ Some x) × (r < 65536)) text own))
    | inr e ↦ (let was : first s ≡ Some m = sym (rw e at (update s)) ∙ h in old.right s m was)
  ];
  each = λ i m s h c. elim (last_item ranks r i m h) [
    | inl before ↦ still s m (old.each i m s before c)
    | inr e ↦ (
        let text : t ≡ s = some_same t s (sym at ∙ subst (λ k. cell (suc k) ≡ Some s) e.0 c) in
        let now : more t ≡ Some r = update t ∙ ap (λ b. cond b (Some r) (first t)) (nat_list_eq_equiv.refl t) in
        subst (λ x. more x ≡ Some m) text (now ∙ ap Some (sym e.1)))
  ];
  there = λ i lt. elim (cases_order i (length ranks)) [
    | inl e ↦ (t, subst (λ k. cell (suc k) ≡ Some t) (sym e) at)
    | inr o ↦ elim o [
      | inl b ↦ old.there i b
      | inr g ↦ absurd (omega (arith, length-append ranks (r ∷ [])))
    ]
  ];
}
  where
    from_first : (o : Option ℕ) → first t ≡ o → r ≡ unwrap_or o (suc (length ranks)) → (cell r ≡ Some t) × (r < 65536)
    from_first None e h = subst (λ x. (cell x ≡ Some t) × (x < 65536)) (sym h) (at, small)
    from_first (Some m) e h = subst (λ x. (cell x ≡ Some t) × (x < 65536)) (sym h) (old.right t m e)

    own : (cell r ≡ Some t) × (r < 65536)
    own = from_first (first t) refl is

    still : (s : List ℕ) (m : ℕ) → first s ≡ Some m → more s ≡ Some m
    still s m h = elim (cases_Bool (bytes_eq t s)) [
      | inl e ↦ (
          let text : t ≡ s = (bytes_decides t s).0 e in
          let found : first t ≡ Some m = subst (λ x. first x ≡ Some m) (sym text) h in
          let one : r ≡ m = is ∙ ap (λ o. unwrap_or o (suc (length ranks))) found in
          let now : more s ≡ Some r = rw e at (update s) in
          now ∙ ap Some one)
      | inr e ↦ (let was : more s ≡ first s = rw e at (update s) in was ∙ h)
    ]

pub ranked_all : (tables : List TableData) (table column : ℕ) (first : List ℕ → Option ℕ) (ranks : List ℕ) → RankedSoFar (λ row. table_cell_at tables table row column) first ranks →
    length ranks ≡ row_count tables table → AreRanks tables table column ranks
ranked_all tables table column first ranks done full = record {
  full = full;
  small = λ i m h. (let t = done.there i (slice_get_within ranks i m h) in (done.right t.0 m (done.each i m t.0 h t.1)).1);
  same = λ i j m n hi hj. (
      let p = done.there i (slice_get_within ranks i m hi) in
      let q = done.there j (slice_get_within ranks j n hj) in
      let fp = done.each i m p.0 hi p.1 in
      let fq = done.each j n q.0 hj q.1 in (
        (λ e. (
            let cm : table_cell_at tables table m column ≡ Some p.0 = (done.right p.0 m fp).0 in
            let cn : table_cell_at tables table m column ≡ Some q.0 = subst (λ x. table_cell_at tables table x column ≡ Some q.0) (sym e) (done.right q.0 n fq).0 in
            p.1 ∙ sym cm ∙ cn ∙ sym q.1)),
        (λ e. (
            let text : p.0 ≡ q.0 = some_same p.0 q.0 (sym p.1 ∙ e ∙ q.1) in
            some_same m n (sym fp ∙ ap first text ∙ fq))),
      ));
}
