-- Texts with what they come from, as more is put to them.
use Rattle.std.proofs.Common.{◌≡◌, ◌↔◌, ◌⊎◌, ℕ, ◌+◌, ◌<◌, ◌≤◌, inl, inr, List, Some, slice_get, sym, ◌∙◌, subst, arith}
use Rattle.std.proofs.lemmas.Bool.{cases_lt}
use Rattle.fill_text.specs.Data.{TableData, width_at}
use Rattle.fill_reach.specs.Spots.{IsFree}
use Rattle.fill_reach.specs.declared.rows.ReachedRow.{ReachedRow}
use Rattle.fill_sources.specs.Origins.{FreeTo, Grown, InputsTo, IsFreeIn, IsInput, IsOfRow, RowsTo}
use Rattle.fill_sources.specs.declared.row.OnRow.{OnRow}
use Rattle.fill_sources.specs.declared.texts.Named.{Named}
use Rattle.fill_sources.specs.declared.texts.Origin.{Origin}
use Rattle.fill_sources.proofs.Lists.{same_at}

pub grown_none : (old : List Named) (Q : List ℕ → Origin → Type 0) → ((v : List ℕ) (o : Origin) → Q v o → ⊥) → Grown old old Q
grown_none old Q none v o = (λ h. inl h, λ h. elim h [ inl i ↦ i | inr q ↦ absurd (none v o q) ])

pub grown_then : (a b c : List Named) (P R S : List ℕ → Origin → Type 0) → Grown a b P → Grown b c R → ((v : List ℕ) (o : Origin) → S v o ↔ (P v o ⊎ R v o)) → Grown a c S
grown_then a b c P R S f g both v o = (
  λ h. elim ((g v o).0 h) [
    | inl i ↦ elim ((f v o).0 i) [ inl j ↦ inl j | inr p ↦ inr ((both v o).1 (inl p)) ]
    | inr r ↦ inr ((both v o).1 (inr r))
  ],
  λ h. elim h [
    | inl j ↦ (g v o).1 (inl ((f v o).1 (inl j)))
    | inr s ↦ elim ((both v o).0 s) [ inl p ↦ (g v o).1 (inl ((f v o).1 (inr p))) | inr r ↦ (g v o).1 (inr r) ]
  ],
)

pub grown_same : (a b : List Named) (P S : List ℕ → Origin → Type 0) → Grown a b P → ((v : List ℕ) (o : Origin) → S v o ↔ P v o) → Grown a b S
grown_same a b P S f both v o = (
  λ h. elim ((f v o).0 h) [ inl i ↦ inl i | inr p ↦ inr ((both v o).1 p) ],
  λ h. elim h [ inl i ↦ (f v o).1 (inl i) | inr s ↦ (f v o).1 (inr ((both v o).0 s)) ],
)

pub inputs_start : (on : OnRow) (inputs : List ℕ) (old : List Named) → Grown old old (InputsTo on inputs 0)
inputs_start on inputs old = grown_none old (InputsTo on inputs 0) (λ v o q. let lt = q.2 in absurd (omega arith))

pub inputs_step : (on : OnRow) (inputs : List ℕ) (n column : ℕ) → slice_get inputs n ≡ Some column → (a b c : List Named)
    → Grown a b (InputsTo on inputs n) → Grown b c (IsInput on column) → Grown a c (InputsTo on inputs (n + 1))
inputs_step on inputs n column at a b c f g =
    grown_then a b c (InputsTo on inputs n) (IsInput on column) (InputsTo on inputs (n + 1)) f g
    (λ v o. (
      λ s. elim (cases_lt s.0 n) [
        | inl lt ↦ inl (s.0, s.1, lt, s.3, s.4)
        | inr le ↦ let up = s.2 in let e : s.0 ≡ n = omega arith in inr (subst (λ z. IsInput on z v o) (same_at inputs s.0 n s.1 column e s.3 at) s.4)
      ],
      λ p. elim p [
        | inl h ↦ let lt = h.2 in (h.0, h.1, omega arith, h.3, h.4)
        | inr r ↦ (n, column, omega arith, at, r)
      ],
    ))

pub rows_start : (tables : List TableData) (rows : List ReachedRow) (old : List Named) → Grown old old (RowsTo tables rows 0)
rows_start tables rows old = grown_none old (RowsTo tables rows 0) (λ v o q. let lt = q.2 in absurd (omega arith))

pub rows_step : (tables : List TableData) (rows : List ReachedRow) (n : ℕ) (r : ReachedRow) → slice_get rows n ≡ Some r → (a b c : List Named)
    → Grown a b (RowsTo tables rows n) → Grown b c (IsOfRow tables r) → Grown a c (RowsTo tables rows (n + 1))
rows_step tables rows n r at a b c f g =
    grown_then a b c (RowsTo tables rows n) (IsOfRow tables r) (RowsTo tables rows (n + 1)) f g
    (λ v o. (
      λ s. elim (cases_lt s.0 n) [
        | inl lt ↦ inl (s.0, s.1, lt, s.3, s.4)
        | inr le ↦ let up = s.2 in let e : s.0 ≡ n = omega arith in inr (subst (λ (z : ReachedRow). IsOfRow tables z v o) (same_at rows s.0 n s.1 r e s.3 at) s.4)
      ],
      λ p. elim p [
        | inl h ↦ let lt = h.2 in (h.0, h.1, omega arith, h.3, h.4)
        | inr q ↦ (n, r, omega arith, at, q)
      ],
    ))

pub free_start : (tables : List TableData) (r : ReachedRow) (old : List Named) → Grown old old (FreeTo tables r 1)
free_start tables r old = grown_none old (FreeTo tables r 1) (λ v o q. let lt = q.1 in let one : 1 ≤ q.0 = q.2.0.4 in absurd (omega arith))

pub free_step : (tables : List TableData) (r : ReachedRow) (n : ℕ) (a b c : List Named)
    → Grown a b (FreeTo tables r n) → Grown b c (IsFreeIn tables r n) → Grown a c (FreeTo tables r (n + 1))
free_step tables r n a b c f g =
    grown_then a b c (FreeTo tables r n) (IsFreeIn tables r n) (FreeTo tables r (n + 1)) f g
    (λ v o. (
      λ s. elim (cases_lt s.0 n) [
        | inl lt ↦ inl (s.0, lt, s.2)
        | inr le ↦ let up = s.1 in let e : s.0 ≡ n = omega arith in inr (subst (λ z. IsFreeIn tables r z v o) e s.2)
      ],
      λ p. elim p [
        | inl h ↦ let lt = h.1 in (h.0, omega arith, h.2)
        | inr q ↦ (n, omega arith, q)
      ],
    ))

pub free_end : (tables : List TableData) (r : ReachedRow) (n width : ℕ) → width_at tables r.table ≡ Some width → width < n → (a b : List Named) → Grown a b (FreeTo tables r n) → Grown a b (IsOfRow tables r)
free_end tables r n width w lt a b f =
    grown_same a b (FreeTo tables r n) (IsOfRow tables r) f
    (λ v o. (
      λ s.
          let free : IsFree tables r.table r.key s.0 = s.1.0 in
          let e : Some free.1 ≡ Some width = sym free.3 ∙ w in
          let same : free.1 ≡ width = cc in
          let last : s.0 ≤ free.1 = free.5 in
          (s.0, omega arith, s.1),
      λ p. (p.0, p.2),
    ))
