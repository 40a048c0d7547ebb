-- Values on rows that have the same cells are the same.
use Rattle.std.proofs.Common.{◌≡◌, ◌↔◌, ℕ, List, [], ◌∷◌, Option, None, Some, inl, inr, refl, sym, ◌∙◌, IfSome}
use Rattle.fill_text.specs.Data.{RowData, SheetData, TableData, cell_at, nth}
use Rattle.fill_tree.specs.Guard.{GuardHolds, LiteralHolds, NoneHolds, SwitchIs, Takes}
use Rattle.fill_tree.specs.Switch.{CaseTree, SwitchTree}
use Rattle.fill_tree.specs.Tree.{SourceTree, AtomTree, Atoms, col, select, constant, whole, sub, end, more}
use Rattle.fill_tree.specs.Value.{AtomIs, ConditionIs, ConditionsAre, ProgramIs, SourceIs}
use Rattle.fill_tree.specs.declared.guard.Literal.{Literal}
use Rattle.fill_tree.specs.declared.guard.Guard.{Guard}
use Rattle.fill_sheet.specs.Sheet.{row_sheet}

-- two rows have the same cells
abbrev SameCells : SheetData → ℕ → SheetData → ℕ → Type 0
SameCells a i b k = (column : ℕ) → cell_at a i column ≡ cell_at b k column

module _ (a : SheetData) (i : ℕ) (b : SheetData) (k : ℕ) (tables : List TableData) (same : SameCells a i b k) where
  mutual
    source_there : (s : SourceTree) (v : List ℕ) → SourceIs a tables i s v → SourceIs b tables k s v
    source_there (col c) v h = sym (same c) ∙ h
    source_there (select column table key conditions) v h = (h.0, h.1, conditions_there conditions h.0 h.2, h.3, h.4)

    condition_there : (t : AtomTree) (v : List ℕ) → ConditionIs a tables i t v → ConditionIs b tables k t v
    condition_there (constant t) v h = h
    condition_there (whole s) v h = (source_there s v h.0, h.1)
    condition_there (sub s p q) v h = (h.0, h.1, h.2, source_there s h.0 h.3, h.4, h.5, h.6, h.7)

    conditions_there : (ts : Atoms) (vs : List (List ℕ)) → ConditionsAre a tables i ts vs → ConditionsAre b tables k ts vs
    conditions_there end vs h = h
    conditions_there (more t rest) [] h = absurd h
    conditions_there (more t rest) (v ∷ vs) h = (condition_there t v h.0, conditions_there rest vs h.1)

  atom_there : (t : AtomTree) (v : List ℕ) → AtomIs a tables i t v → AtomIs b tables k t v
  atom_there (constant t) v h = h
  atom_there (whole s) v h = (source_there s v h.0, h.1)
  atom_there (sub s p q) v h = (h.0, h.1, h.2, source_there s h.0 h.3, h.4, h.5, h.6, h.7)

  program_there : (p : Atoms) (v : List ℕ) → ProgramIs a tables i p v → ProgramIs b tables k p v
  program_there end v h = h
  program_there (more t rest) v h = (h.0, h.1, atom_there t h.0 h.2, program_there rest h.1 h.3, h.4)

  literal_there : (l : Literal) → LiteralHolds a i l → LiteralHolds b k l
  literal_there l h = (h.0, sym (same l.column) ∙ h.1, h.2)

  guard_there : (g : Guard) → GuardHolds a i g → GuardHolds b k g
  guard_there g h = (
    literal_there g.first h.0,
    elim g.second as (λ (o : Option Literal). IfSome o (LiteralHolds a i) → IfSome o (LiteralHolds b k)) [
      | None ↦ λ _. tt
      | Some l ↦ λ holds. literal_there l holds
    ] h.1,
  )

module _ (a : SheetData) (i : ℕ) (b : SheetData) (k : ℕ) (tables : List TableData) (same : SameCells a i b k) where
  none_there : (cases : List CaseTree) → NoneHolds a i cases → NoneHolds b k cases
  none_there cases none n d lt holds = none n d lt (guard_there b k a i tables (λ c. sym (same c)) _ holds)

  takes_there : (s : SwitchTree) (p : Atoms) → Takes a i s p → Takes b k s p
  takes_there s p (inl h) = inl (h.0, h.1, h.2, h.3, none_there h.0 h.4, guard_there a i b k tables same h.1.guard h.5, h.6)
  takes_there s p (inr h) = inr (none_there s.cases h.0, h.1)

  switch_there : (s : SwitchTree) (v : List ℕ) → SwitchIs a tables i s v → SwitchIs b tables k s v
  switch_there s v h = (h.0, takes_there s h.0 h.1, program_there a i b k tables same h.0 v h.2)

own_cells : (sheet : SheetData) (row : ℕ) (r : RowData) → nth sheet.rows row ≡ Some r → SameCells sheet row (row_sheet sheet.inputs r.cells) 1
own_cells sheet row r is column = rw is refl

pub of_cells : (sheet : SheetData) (tables : List TableData) (row : ℕ) (r : RowData) (s : SwitchTree) (v : List ℕ) → nth sheet.rows row ≡ Some r
    → SwitchIs sheet tables row s v ↔ SwitchIs (row_sheet sheet.inputs r.cells) tables 1 s v
of_cells sheet tables row r s v is =
    let one = row_sheet sheet.inputs r.cells in
    let same = own_cells sheet row r is in
    (switch_there sheet row one 1 tables same s v, switch_there one 1 sheet row tables (λ c. sym (same c)) s v)
