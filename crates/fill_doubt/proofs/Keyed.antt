-- The cells of a table's row in the columns of a key, and what is found by them.
use Rattle.std.proofs.Common.{◌≡◌, ◌⊎◌, inl, inr, ⊎_elim, ℕ, zero, suc, ◌<◌, ◌≤◌, ◌+◌, List, [], ◌∷◌, ◌++◌, length, map, take, true, false, Option, None, Some, option_and_then, option_map, unwrap_or, slice_get, refl, sym, ap, subst, ◌∙◌, arith}
use Rattle.std.proofs.lemmas.Bool.{cases_lt}
use Rattle.std.proofs.lemmas.List.{take_all}
use Rattle.fill_doubt.proofs.Appended.{take_more}
use Rattle.std.proofs.lemmas.Option.{slice_get_within}
use Rattle.fill_text.specs.Data.{TableData, nth, key_at, table_cell_at, table_row_at}
use Rattle.fill_tables.specs.Keys.{IsKeyedRow}
use Rattle.fill_tables.specs.Tables.{row_count}
use Rattle.fill_tree.specs.Value.{IsValue, LooksUp}
use Rattle.fill_doubt.specs.Answers.{Covers, Gains}
use Rattle.fill_doubt.specs.Rows.{Find, FindsBy, Fit, IsText, RowHas}
use Rattle.fill_doubt.specs.declared.conditions.Cells.{Cells}
use Rattle.fill_doubt.specs.declared.rows.Look.{Look}
use Rattle.fill_doubt.proofs.Covered.{covers_by, covers_gains, covers_into, covers_same, covers_then}

row_table : (tables : List TableData) (table row : ℕ) (cells : List (List ℕ)) → table_row_at tables table row ≡ Some cells → (t : TableData) × (nth tables table ≡ Some t) × (nth t.rows row ≡ Some cells)
row_table tables table row cells is =
    elim (nth tables table) as (λ found. nth tables table ≡ found → option_and_then (λ t. nth t.rows row) found ≡ Some cells → (t : TableData) × (nth tables table ≡ Some t) × (nth t.rows row ≡ Some cells)) [
      | None ↦ λ _ no. absurd (let f : ⊥ = cc in f)
      | Some t ↦ λ there row. (t, there, row)
    ] refl is

cell_of : (tables : List TableData) (table row column : ℕ) (cells : List (List ℕ)) → table_row_at tables table row ≡ Some cells → table_cell_at tables table row column ≡ nth cells column
cell_of tables table row column cells is =
    let found = row_table tables table row cells is in
    ap (option_and_then (λ t. option_and_then (λ cs. nth cs column) (nth t.rows row))) found.1 ∙ ap (option_and_then (λ cs. nth cs column)) found.2

rows_of : (tables : List TableData) (table : ℕ) (t : TableData) → nth tables table ≡ Some t → row_count tables table ≡ length t.rows
rows_of tables table t is = ap (λ found. unwrap_or (option_map (λ u. length u.rows) found) 0) is

nth_within : {A : Type 0} (xs : List A) (n : ℕ) (x : A) → nth xs n ≡ Some x → (1 ≤ n) × (n ≤ length xs)
nth_within xs zero x h = absurd cc
nth_within xs (suc i) x h = let w = slice_get_within xs i x h in (omega arith, omega arith)

row_within : (tables : List TableData) (table row : ℕ) (cells : List (List ℕ)) → table_row_at tables table row ≡ Some cells → (1 ≤ row) × (row ≤ row_count tables table)
row_within tables table row cells is =
    let found = row_table tables table row cells is in
    rw (rows_of tables table found.0 found.1) (nth_within found.0.rows row cells found.2)

-- two lists of which one has what the other gives
agree_at : {A : Type 0} (f : ℕ → Option A) (ks : List ℕ) (ts : List A) → map f ks ≡ map Some ts → (i k : ℕ) → slice_get ks i ≡ Some k → (v : A) × (slice_get ts i ≡ Some v) × (f k ≡ Some v)
agree_at f [] ts e i k h = absurd cc
agree_at f (x ∷ ks) [] e i k h = absurd cc
agree_at f (x ∷ ks) (t ∷ ts) e zero k h = let a : f x ≡ Some t = cc in let b : x ≡ k = cc in (t, refl, subst (λ y. f y ≡ Some t) b a)
agree_at f (x ∷ ks) (t ∷ ts) e (suc i) k h = let rest : map f ks ≡ map Some ts = cc in agree_at f ks ts rest i k h

agree_length : {A : Type 0} (f : ℕ → Option A) (ks : List ℕ) (ts : List A) → map f ks ≡ map Some ts → length ts ≡ length ks
agree_length f [] [] e = refl
agree_length f [] (t ∷ ts) e = absurd cc
agree_length f (x ∷ ks) [] e = absurd cc
agree_length f (x ∷ ks) (t ∷ ts) e = let rest : map f ks ≡ map Some ts = cc in ap suc (agree_length f ks ts rest)

module _ (tables : List TableData) (table key : ℕ) (columns : List ℕ) (is : key_at tables table key ≡ Some columns) (row : ℕ) (ts : List (List ℕ)) (keyed : IsKeyedRow tables table key ts row) where
  same_columns : map (nth keyed.1) columns ≡ map Some ts
  same_columns = (
      let k = keyed.2 in
      let same : keyed.0 ≡ columns = cc in
      subst (λ cs. map (nth keyed.1) cs ≡ map Some ts) same keyed.4)

  pub keyed_at : (i column : ℕ) → slice_get columns i ≡ Some column → (v : List ℕ) × (slice_get ts i ≡ Some v) × (table_cell_at tables table row column ≡ Some v)
  keyed_at i column at =
      let a = agree_at (nth keyed.1) columns ts same_columns i column at in
      (a.0, a.1, cell_of tables table row column keyed.1 keyed.3 ∙ a.2)

  pub keyed_length : length ts ≡ length columns
  keyed_length = agree_length (nth keyed.1) columns ts same_columns

-- the cells so far
module _ (tables : List TableData) (table key : ℕ) (columns : List ℕ) (is : key_at tables table key ≡ Some columns) (row : ℕ) where
  abbrev pub AreCells : ℕ → List (List ℕ) → Type 0
  AreCells i cells = (ts : List (List ℕ)) → IsKeyedRow tables table key ts row → take i ts ≡ cells

  pub cells_more : (i column : ℕ) (v : List ℕ) (cells : List (List ℕ)) → slice_get columns i ≡ Some column → table_cell_at tables table row column ≡ Some v → AreCells i cells → AreCells (i + 1) (cells ++ v ∷ [])
  cells_more i column v cells at there before ts keyed =
      let k = keyed_at tables table key columns is row ts keyed i column at in
      let same : k.0 ≡ v = (let a = k.2 in cc) in
      let w = slice_get_within ts i k.0 k.1 in
      let item : slice_get ts i ≡ Some v = subst (λ u. slice_get ts i ≡ Some u) same k.1 in
      take_more ts i v item ∙ ap (λ l. l ++ v ∷ []) (before ts keyed)

  pub cells_all : (i : ℕ) (cells : List (List ℕ)) → length columns ≤ i → AreCells i cells → (ts : List (List ℕ)) → IsKeyedRow tables table key ts row → ts ≡ cells
  cells_all i cells past before ts keyed =
      let n = keyed_length tables table key columns is row ts keyed in
      sym (take_all i ts (omega arith)) ∙ before ts keyed

  pub cell_gone : (i column : ℕ) → slice_get columns i ≡ Some column → table_cell_at tables table row column ≡ None → (ts : List (List ℕ)) → ¬ (IsKeyedRow tables table key ts row)
  cell_gone i column at none ts keyed = let k = keyed_at tables table key columns is row ts keyed i column at in let a = k.2 in cc

module _ (look : Look) (cs : List Cells) where
  abbrev tables : List TableData
  tables = look.tables.now

  -- the row by which a text is found
  pub find_row : (o : Option (List ℕ)) → IsText o → Find look [] false cs o → (k : ℕ) × (1 ≤ k) × (k ≤ row_count look.tables.now look.item.now.table) × RowHas look k cs o
  find_row o v h =
      let P = LooksUp (λ ts. ts ≡ h.0.texts) tables look.item.now.column look.item.now.table look.item.now.key in
      let by : P v.0 = (h.2.1 v.0).1 v.1 in
      let keyed = subst (λ ts. IsKeyedRow tables look.item.now.table look.item.now.key ts by.1) by.2 by.3 in
      let within = row_within tables look.item.now.table by.1 keyed.1 keyed.3 in
      (by.1, within.0, within.1, (v.0, h.0, v.1, h.1, keyed, h.2))

  pub find_key : (o : Option (List ℕ)) → IsText o → Find look [] false cs o → key_at look.tables.now look.item.now.table look.item.now.key ≡ None → ⊥
  find_key o v h none = let r = find_row o v h in let k = r.3.4 in let e = k.2 in cc

  -- of the first rows
  abbrev pub RowsBelow : ℕ → Option (List ℕ) → Type 0
  RowsBelow n o = (k : ℕ) × (1 ≤ k) × (k < n) × RowHas look k cs o

  abbrev pub Ways : Option (List ℕ) → Type 0
  Ways o = Find look [] false cs o

  pub rows_start : (a : Option (List ℕ) → Type 0) → Covers (RowsBelow 1) a a Ways
  rows_start a = covers_same (RowsBelow 1) a Ways (λ o c r. let x = c.1 in let y = c.2 in absurd (omega arith))

  pub rows_more : (a b c : Option (List ℕ) → Type 0) (n m : ℕ) → m ≡ suc n → Covers (RowsBelow n) a b Ways → Covers (RowHas look n cs) b c Ways → Covers (RowsBelow m) a c Ways
  rows_more a b c n m next first second =
      covers_by (λ o. RowsBelow n o ⊎ RowHas look n cs o) (RowsBelow m) a c Ways split (covers_then (RowsBelow n) (RowHas look n cs) a b c Ways first second)
    where
      split : (o : Option (List ℕ)) → RowsBelow m o → Ways o → RowsBelow n o ⊎ RowHas look n cs o
      split o d r = ⊎_elim (λ less. inl (d.0, d.1, less, d.3)) (λ past. let lt = d.2 in let same : d.0 ≡ n = omega arith in inr (subst (λ k. RowHas look k cs o) same d.3)) (cases_lt d.0 n)

  pub rows_end : (a b : Option (List ℕ) → Type 0) (n : ℕ) → row_count look.tables.now look.item.now.table < n → Covers (RowsBelow n) a b Ways → Covers IsText a b Ways
  rows_end a b n past h = covers_by (RowsBelow n) IsText a b Ways (λ o v r. let f = find_row o v r in let le = f.2 in (f.0, f.1, omega arith, f.3)) h

  abbrev IsValueOf : List (List ℕ) → Option (List ℕ) → Type 0
  IsValueOf ts o = IsValue (LooksUp (λ us. us ≡ ts) look.tables.now look.item.now.column look.item.now.table look.item.now.key) o

  -- a row whose cells are texts of the conditions, or are not
  module _ (row : ℕ) (cells : List (List ℕ)) (are : (ts : List (List ℕ)) → IsKeyedRow look.tables.now look.item.now.table look.item.now.key ts row → ts ≡ cells) where
    pub row_unfit : (a : Option (List ℕ) → Type 0) → ¬ (Fit cs cells false) → Covers (RowHas look row cs) a a Ways
    row_unfit a not = covers_same (RowHas look row cs) a Ways (λ o h r. absurd (not (h.1, h.3, are h.1.texts h.4, h.5.0)))

    pub row_fits : (a b : Option (List ℕ) → Type 0) → Fit cs cells false → Gains a b (FindsBy look (record { texts = cells; part = true })) → Covers (RowHas look row cs) a b Ways
    row_fits a b fit gains =
        let F = FindsBy look (record { texts = cells; part = true }) in
        covers_by (λ o. IsText o × F o) (RowHas look row cs) a b Ways (λ o h r. ((h.0, h.2), (refl, subst (λ ts. IsValueOf ts o) (are h.1.texts h.4) h.5.1)))
        (covers_into IsText a b F Ways (λ o f. (fit.0, fit.1, (fit.3, subst (λ ts. IsValueOf ts o) (sym fit.2) f.1))) (covers_gains IsText a b F gains))

  pub row_gone : (row : ℕ) → ((ts : List (List ℕ)) → ¬ (IsKeyedRow look.tables.now look.item.now.table look.item.now.key ts row)) → (a : Option (List ℕ) → Type 0) → Covers (RowHas look row cs) a a Ways
  row_gone row none a = covers_same (RowHas look row cs) a Ways (λ o h r. absurd (none h.1.texts h.4))
