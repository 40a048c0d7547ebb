-- What two items of sources have in common.
use Rattle.std.proofs.Common.{◌≡◌, ◌↔◌, ℕ, ◌≤◌, List, length, refl, sym, subst, ◌∙◌}
use Rattle.fill_tree.specs.Tree.{SourceTree, Atoms, col, select}
use Rattle.fill_tree.specs.Grammar.{HasPart}
use Rattle.fill_arena.specs.Contents.{SomeIn, EachIn, Extends}
use Rattle.fill_arena.specs.Stands.{ConditionsFit}
use Rattle.fill_arena.specs.declared.entry.Entry.{Entry}
use Rattle.fill_arena.specs.declared.entry.SourceItem.{SourceItem}
use Rattle.fill_arena.specs.declared.entry.SourceItem.TheVariants.{Col, Select}
use Rattle.fill_arena.specs.declared.entry.SelectItem.{SelectItem}
use Rattle.fill_arena.specs.declared.entry.ConditionItem.{ConditionItem}
use Rattle.fill_meet.specs.Meet.{AreMet, AreApart}
use Rattle.fill_meet.specs.Sets.{SourceIn, RowsMeet, IsFilled, NamesAtoms, HaveSameNumbers, AreConditions}
use Rattle.fill_meet.proofs.Conditions.{rows_both, rows_older, rows_tight, rows_some, row_filled, row_names, row_length}

-- what a lookup in both items tells
both_select : (d : List Entry) (x y : SelectItem) (a : SourceTree) → SourceIn d (Select x) a → SourceIn d (Select y) a
    → (row : Atoms) × HaveSameNumbers x y × (ConditionsFit row d x.conditions × ConditionsFit row d y.conditions) × HasPart row
both_select d x y (col n) f g = absurd f
both_select d x y (select column table key row) f g = (row, (f.0 ∙ sym g.0, f.1 ∙ sym g.1, f.2 ∙ sym g.2), (f.4, g.4), f.3)

pub select_numbers : (c : List Entry) (x y : SelectItem) → (HaveSameNumbers x y → ⊥) → AreApart SourceIn c (Select x) (Select y)
select_numbers c x y n = λ d o a f g. n (both_select d x y a f g).1

pub select_lengths : (c : List Entry) (x y : SelectItem) → (length x.conditions ≡ length y.conditions → ⊥) → AreApart SourceIn c (Select x) (Select y)
select_lengths c x y n = λ d o a f g. let b = both_select d x y a f g in n (row_length d b.0 x.conditions y.conditions b.2.0 b.2.1)

module _ (c : List Entry) (x y : SelectItem) (zs : List ConditionItem) (e : length x.conditions ≡ length y.conditions) (f : length zs ≡ length x.conditions) (r : RowsMeet c x.conditions y.conditions zs) where
  pub select_unfilled : (EachIn IsFilled zs → ⊥) → AreApart SourceIn c (Select x) (Select y)
  select_unfilled n = λ d o a p q.
      let b = both_select d x y a p q in
      n (row_filled d b.0 zs ((rows_both c d o b.0 x.conditions y.conditions zs e f r).1 b.2))

  pub select_constants : (SomeIn NamesAtoms zs → ⊥) → AreApart SourceIn c (Select x) (Select y)
  select_constants n = λ d o a p q.
      let b = both_select d x y a p q in
      n (row_names d b.0 zs ((rows_both c d o b.0 x.conditions y.conditions zs e f r).1 b.2) b.3)

  pub select_conditions : (n : ℕ) → AreConditions c n x.conditions → AreConditions c (length c) zs
  select_conditions n h =
      record {
        some = subst (λ m. 1 ≤ m) (sym f) h.some;
        few = subst (λ m. m ≤ 3) (sym f) h.few;
        older = rows_older c x.conditions y.conditions zs e f r;
      }

  module _ (z : SelectItem) (same : HaveSameNumbers x y) (zx : HaveSameNumbers z x) (zl : z.conditions ≡ zs) where
    select_fits : (d : List Entry) → Extends c d → (a : SourceTree) → SourceIn d (Select z) a ↔ (SourceIn d (Select x) a × SourceIn d (Select y) a)
    select_fits d o (col n) = (λ h. absurd h, λ h. h.0)
    select_fits d o (select column table key row) =
        let b = rows_both c d o row x.conditions y.conditions zs e f r in (
          λ h.
              let g = b.0 (subst (ConditionsFit row d) zl h.4) in
              ((sym zx.0 ∙ h.0, sym zx.1 ∙ h.1, sym zx.2 ∙ h.2, h.3, g.0), (sym same.0 ∙ sym zx.0 ∙ h.0, sym same.1 ∙ sym zx.1 ∙ h.1, sym same.2 ∙ sym zx.2 ∙ h.2, h.3, g.1)),
          λ h. (zx.0 ∙ h.0.0, zx.1 ∙ h.0.1, zx.2 ∙ h.0.2, h.0.3, subst (ConditionsFit row d) (sym zl) (b.1 (h.0.4, h.1.4))),
        )

    pub select_met : EachIn IsFilled zs → SomeIn NamesAtoms zs → AreMet SourceIn c (Select x) (Select y) (Select z)
    select_met filled names =
        record {
          both = select_fits;
          some = λ d o.
              (let s = rows_some d zs filled (rows_tight c d o x.conditions y.conditions zs e f r) in
              (select z.column z.table z.key s.0, (refl, refl, refl, s.2 names, subst (ConditionsFit s.0 d) (sym zl) s.1)));
        }

-- the same column, or two lookups
abbrev pub AreSourcesAlike : SourceItem → SourceItem → Type 0
AreSourcesAlike (Col m) (Col n) = m ≡ n
AreSourcesAlike (Col m) (Select y) = ⊥
AreSourcesAlike (Select x) (Col n) = ⊥
AreSourcesAlike (Select x) (Select y) = Unit {0}

alike : (d : List Entry) (a : SourceTree) (x y : SourceItem) → SourceIn d x a → SourceIn d y a → AreSourcesAlike x y
alike d (col n) (Col u) (Col v) f g = f ∙ sym g
alike d (col n) (Col u) (Select y) f g = g
alike d (col n) (Select x) y f g = absurd f
alike d (select column table key row) (Col u) y f g = absurd f
alike d (select column table key row) (Select x) (Col v) f g = g
alike d (select column table key row) (Select x) (Select y) f g = tt

pub kinds_apart : (c : List Entry) (x y : SourceItem) → (AreSourcesAlike x y → ⊥) → AreApart SourceIn c x y
kinds_apart c x y n = λ d o a f g. n (alike d a x y f g)

pub col_met : (c : List Entry) (u v : ℕ) → u ≡ v → AreMet SourceIn c (Col u) (Col v) (Col u)
col_met c u v e = record { both = λ d o a. (λ h. (h, subst (λ n. SourceIn d (Col n) a) e h), λ h. h.0); some = λ d o. (col u, refl) }

pub col_select : (c : List Entry) (x y : SourceItem) (u : ℕ) (j : SelectItem) → x ≡ Col u → y ≡ Select j → AreApart SourceIn c x y
col_select c x y u j e f = rw (e, f) (kinds_apart c (Col u) (Select j) (λ h. h))

pub select_col : (c : List Entry) (x y : SourceItem) (i : SelectItem) (v : ℕ) → x ≡ Select i → y ≡ Col v → AreApart SourceIn c x y
select_col c x y i v e f = rw (e, f) (kinds_apart c (Select i) (Col v) (λ h. h))
