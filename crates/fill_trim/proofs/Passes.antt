-- One pass over the edges marks all nodes that a node leads to, or that lead to it.
use Rattle.std.proofs.Common.{◌≡◌, ◌↔◌, ℕ, ◌+◌, ◌<◌, ◌≤◌, ◌⊎◌, inl, inr, Bool, true, false, cond, List, length, get_or, set, Some, slice_get, refl, sym, ◌∙◌, subst, arith, length-set}
use Rattle.std.proofs.lemmas.Bool.{cases_lt, cases_eq}
use Rattle.std.proofs.lemmas.Option.{slice_get_within}
use Rattle.fill_arena.specs.declared.entry.Edge.{Edge}
use Rattle.fill_trim.specs.Trim.{AreEdges}
use Rattle.fill_trim.specs.Marks.{AreMarks, IsMarked, Leads, spread}
use Rattle.fill_trim.proofs.Paths.{leads_same, leads_first, leads_last, leads_start, leads_end}
use Rattle.fill_trim.proofs.Ranks.{read_marked, marked_read, set_same, set_other}

-- the marks spread from a node to another
module _ (n : ℕ) (P Q : ℕ → Type 0) (marks : List Bool) (from to : ℕ) (s : AreMarks n P marks) (f : from < n) (t : to < n) (stays : (m : ℕ) → P m → Q m) (comes : P from → Q to) (back : (m : ℕ) → Q m → P m ⊎ ((m ≡ to) × P from)) where
  spread_by : (b : Bool) → get_or marks from false ≡ b → AreMarks n Q (cond b (set marks to true) marks)
  spread_by true e =
      let on = (s.each from f).0 (read_marked marks from e) in
      record {
        long = length-set marks to true ∙ s.long;
        each = λ m lt. elim (cases_eq m to) [
          | inl same ↦ (
            (λ _. subst Q (sym same) (comes on)),
            (λ _. rw same (set_same marks to true (let l = s.long in omega arith))),
          )
          | inr other ↦ rw (set_other marks to m true other) (
            (λ h. stays m ((s.each m lt).0 h)),
            (λ q. elim (back m q) [
              | inl p ↦ (s.each m lt).1 p
              | inr p ↦ absurd (other p.0)
            ]),
          )
        ];
      }
  spread_by false e =
      record {
        long = s.long;
        each = λ m lt. (
          (λ h. stays m ((s.each m lt).0 h)),
          (λ q. elim (back m q) [
            | inl p ↦ (s.each m lt).1 p
            | inr p ↦ let yes = marked_read marks from ((s.each from f).1 p.1) in absurd cc
          ]),
        );
      }

  pub spread_marks : AreMarks n Q (spread marks from to)
  spread_marks = spread_by (get_or marks from false) refl

-- the edges before a place lead from node 0 to the node
abbrev pub CameBy : List Edge → ℕ → ℕ → Type 0
CameBy edges i m = (m ≡ 0) ⊎ ((k : ℕ) × (e : Edge) × (k < i) × (slice_get edges k ≡ Some e) × (e.to ≡ m) × Leads edges 0 e.from)

-- the edges from a place on lead from the node to the last one
abbrev pub GoesFrom : List Edge → ℕ → ℕ → ℕ → Type 0
GoesFrom edges last i m = (m ≡ last) ⊎ ((k : ℕ) × (e : Edge) × (i ≤ k) × (slice_get edges k ≡ Some e) × (e.from ≡ m) × Leads edges e.to last)

module _ (n : ℕ) (edges : List Edge) (are : AreEdges n edges) where
  came_leads : (i m : ℕ) → CameBy edges i m → Leads edges 0 m
  came_leads i m c = elim c [
    | inl z ↦ leads_same edges 0 m (sym z)
    | inr w ↦ subst (Leads edges 0) w.4 (leads_last edges 0 w.1 (w.0, w.3) w.5)
  ]

  -- what leads to a node, leads to it by edges before the node's own
  leads_came : (i m : ℕ) → ((k : ℕ) (e : Edge) → slice_get edges k ≡ Some e → e.to ≡ m → k < i) → Leads edges 0 m → CameBy edges i m
  leads_came i m before r = elim (leads_end edges 0 m r) [
    | inl z ↦ inl (sym z)
    | inr w ↦ inr (w.1.0, w.0, before w.1.0 w.0 w.1.1 w.2.0, w.1.1, w.2.0, w.2.1)
  ]

  pub came_start : (marks : List Bool) → length marks ≡ n → ((m : ℕ) → m < n → IsMarked marks m ↔ (m ≡ 0)) → AreMarks n (CameBy edges 0) marks
  came_start marks long first = record {
    long = long;
    each = λ m lt. (
      (λ h. inl ((first m lt).0 h)),
      (λ c. elim c [
        | inl z ↦ (first m lt).1 z
        | inr w ↦ let none = w.2 in absurd (omega arith)
      ]),
    );
  }

  pub came_more : (i : ℕ) (marks : List Bool) (e : Edge) → slice_get edges i ≡ Some e → AreMarks n (CameBy edges i) marks → AreMarks n (CameBy edges (i + 1)) (spread marks e.from e.to)
  came_more i marks e at s =
      let on = are.onward i e at in
      let lt = on.0 in
      let within = on.1 in
      spread_marks n (CameBy edges i) (CameBy edges (i + 1)) marks e.from e.to s (omega arith) within
      (λ m c. elim c [
        | inl z ↦ inl z
        | inr w ↦ let k = w.2 in inr (w.0, w.1, omega arith, w.3, w.4, w.5)
      ])
      (λ c. inr (i, e, omega arith, at, refl, came_leads i e.from c))
      (λ m c. elim c [
        | inl z ↦ inl (inl z)
        | inr w ↦ elim (cases_lt w.0 i) [
          | inl k ↦ inl (inr (w.0, w.1, k, w.3, w.4, w.5))
          | inr k ↦
              let same : w.0 ≡ i = (let below = w.2 in omega arith) in
              let there : slice_get edges i ≡ Some w.1 = subst (λ j. slice_get edges j ≡ Some w.1) same w.3 in
              let one : w.1 ≡ e = cc in
              let r : Leads edges 0 e.from = subst (λ (x : Edge). Leads edges 0 x.from) one w.5 in
              let to : e.to ≡ m = subst (λ (x : Edge). x.to ≡ m) one w.4 in
              inr (sym to, leads_came i e.from (λ j x h eq. are.ordered j i x e h at eq) r)
        ]
      ])

  pub came_end : (i : ℕ) (marks : List Bool) → length edges ≤ i → AreMarks n (CameBy edges i) marks → AreMarks n (Leads edges 0) marks
  came_end i marks past s = record {
    long = s.long;
    each = λ m lt. (
      (λ h. came_leads i m ((s.each m lt).0 h)),
      (λ r. (s.each m lt).1 (leads_came i m (λ k e h _. let w = slice_get_within edges k e h in omega arith) r)),
    );
  }

  module _ (last : ℕ) where
    goes_leads : (i m : ℕ) → GoesFrom edges last i m → Leads edges m last
    goes_leads i m c = elim c [
      | inl z ↦ leads_same edges m last z
      | inr w ↦ subst (λ k. Leads edges k last) w.4 (leads_first edges w.1 last (w.0, w.3) w.5)
    ]

    -- what a node leads to, it leads to by edges after those into it
    leads_goes : (i m : ℕ) → ((k : ℕ) (e : Edge) → slice_get edges k ≡ Some e → e.from ≡ m → i ≤ k) → Leads edges m last → GoesFrom edges last i m
    leads_goes i m after r = elim (leads_start edges m last r) [
      | inl z ↦ inl z
      | inr w ↦ inr (w.1.0, w.0, after w.1.0 w.0 w.1.1 w.2.0, w.1.1, w.2.0, w.2.1)
    ]

    pub goes_start : (i : ℕ) (marks : List Bool) → length edges ≤ i → length marks ≡ n → ((m : ℕ) → m < n → IsMarked marks m ↔ (m ≡ last)) → AreMarks n (GoesFrom edges last i) marks
    goes_start i marks past long first = record {
      long = long;
      each = λ m lt. (
        (λ h. inl ((first m lt).0 h)),
        (λ c. elim c [
          | inl z ↦ (first m lt).1 z
          | inr w ↦ let k = w.2 in let within = slice_get_within edges w.0 w.1 w.3 in absurd (omega arith)
        ]),
      );
    }

    pub goes_more : (i : ℕ) (marks : List Bool) (e : Edge) → slice_get edges i ≡ Some e → AreMarks n (GoesFrom edges last (i + 1)) marks → AreMarks n (GoesFrom edges last i) (spread marks e.to e.from)
    goes_more i marks e at s =
        let on = are.onward i e at in
        let lt = on.0 in
        let within = on.1 in
        spread_marks n (GoesFrom edges last (i + 1)) (GoesFrom edges last i) marks e.to e.from s within (omega arith)
        (λ m c. elim c [
          | inl z ↦ inl z
          | inr w ↦ let k = w.2 in inr (w.0, w.1, omega arith, w.3, w.4, w.5)
        ])
        (λ c. inr (i, e, omega arith, at, refl, goes_leads (i + 1) e.to c))
        (λ m c. elim c [
          | inl z ↦ inl (inl z)
          | inr w ↦ elim (cases_lt i w.0) [
            | inl k ↦ inl (inr (w.0, w.1, omega arith, w.3, w.4, w.5))
            | inr k ↦
                let same : w.0 ≡ i = (let below = w.2 in omega arith) in
                let there : slice_get edges i ≡ Some w.1 = subst (λ j. slice_get edges j ≡ Some w.1) same w.3 in
                let one : w.1 ≡ e = cc in
                let r : Leads edges e.to last = subst (λ (x : Edge). Leads edges x.to last) one w.5 in
                let from : e.from ≡ m = subst (λ (x : Edge). x.from ≡ m) one w.4 in
                inr (sym from, leads_goes (i + 1) e.to (λ j x h eq. let o = are.ordered i j e x at h (sym eq) in omega arith) r)
          ]
        ])

    pub goes_end : (marks : List Bool) → AreMarks n (GoesFrom edges last 0) marks → AreMarks n (λ m. Leads edges m last) marks
    goes_end marks s = record {
      long = s.long;
      each = λ m lt. (
        (λ h. goes_leads 0 m ((s.each m lt).0 h)),
        (λ r. (s.each m lt).1 (leads_goes 0 m (λ k e h _. omega arith) r)),
      );
    }
