-- What a lookup finds, by the rows of its table.
use Rattle.std.proofs.Common.{◌≡◌, ℕ, zero, suc, ◌<◌, ◌==◌, List, length, get_or, slice_get, Option, None, Some, option_map, option_and_then, unwrap_or, All, Contains, position, refl, sym, subst, ◌∙◌, arith}
use Rattle.std.proofs.lemmas.Bool.Decides.{nat_tests}
use Rattle.std.proofs.lemmas.List.Quantifiers.{position-Some}
use Rattle.std.proofs.lemmas.Option.{slice_get_past, slice_get_within, get_or_from_slice_get}
use Rattle.fill_text.specs.Data.{SheetData, TableData, nth, cell_at, key_at, table_cell_at, width_at}
use Rattle.fill_tables.specs.Keys.{IsKeyedRow, KeysDistinguish}
use Rattle.fill_tables.specs.Tables.{AreTables, IsTable, key_count, row_count}
use Rattle.fill_tables.proofs.Found.{too-many}
use Rattle.fill_tree.proofs.ValueLaws.{keyed_row_one}
use Rattle.fill_tree.specs.Value.{IsValue, LooksUp}
use Rattle.fill_eval.proofs.Values.{none_is, has, only}

-- the cell of the one row that has the cells
pub looked_up : (sheet : SheetData) (tables : List TableData) (Q : List (List ℕ) → Type 0) (column table key row : ℕ) (texts : List (List ℕ)) → KeysDistinguish tables → IsValue Q (Some texts)
    → IsKeyedRow tables table key texts row → IsValue (LooksUp Q tables column table key) (table_cell_at tables table row column)
looked_up sheet tables Q column table key row texts distinguish is found v = (
  (λ h.
      let same : texts ≡ h.0 = only Q texts h.0 is h.2 in
      let rows : h.1 ≡ row = keyed_row_one sheet tables distinguish table key texts h.1 row (subst (λ ts. IsKeyedRow tables table key ts h.1) (sym same) h.3) found in
      subst (λ r. table_cell_at tables table r column ≡ Some v) rows h.4),
  (λ e. (texts, row, has Q texts is, found, e)),
)

-- none where no row has them
pub no_row : (tables : List TableData) (Q : List (List ℕ) → Type 0) (column table key : ℕ) (texts : List (List ℕ)) → IsValue Q (Some texts)
    → ((row : ℕ) → ¬ (IsKeyedRow tables table key texts row)) → IsValue (LooksUp Q tables column table key) None
no_row tables Q column table key texts is none = none_is (LooksUp Q tables column table key) (λ v h.
    none h.1 (subst (λ ts. IsKeyedRow tables table key ts h.1) (sym (only Q texts h.0 is h.2)) h.3))

-- none where the texts are more than a key can have columns
pub too_many_texts : (tables : List TableData) (Q : List (List ℕ) → Type 0) (column table key : ℕ) → AreTables tables → ((texts : List (List ℕ)) → Q texts → 3 < length texts)
    → IsValue (LooksUp Q tables column table key) None
too_many_texts tables Q column table key are many = none_is (LooksUp Q tables column table key) (λ v h.
    too-many tables table key h.0 are (many h.0 h.2) h.1 h.3)

-- no row has the cells where there is no key
pub no_key : (tables : List TableData) (table key : ℕ) (texts : List (List ℕ)) → key_at tables table key ≡ None → (row : ℕ) → ¬ (IsKeyedRow tables table key texts row)
no_key tables table key texts none row h = let e : ◌≡◌ {A = Option (List ℕ)} None (Some h.0) = sym none ∙ h.2 in cc

-- the item of a number that is out of range
pub nth_past : {A : Type 0} (xs : List A) (n : ℕ) → length xs < n → nth xs n ≡ None
nth_past xs zero lt = absurd (omega arith)
nth_past xs (suc i) lt = slice_get_past xs i (omega arith)

pub key_past : (tables : List TableData) (table key : ℕ) → key_count tables table < key → key_at tables table key ≡ None
key_past tables table key lt = elim (nth tables table) as (λ found. unwrap_or (option_map (λ t. length t.keys) found) 0 < key → option_and_then (λ t. nth t.keys key) found ≡ None) [
  | None ↦ λ _. refl
  | Some t ↦ λ past. nth_past t.keys key past
] lt

pub table_past : (tables : List TableData) (table row column : ℕ) → length tables < table → table_cell_at tables table row column ≡ None
table_past tables table row column lt = rw (nth_past tables table lt) refl

pub row_past : (tables : List TableData) (table row column : ℕ) → row_count tables table < row → table_cell_at tables table row column ≡ None
row_past tables table row column lt =
    elim (nth tables table) as (λ found. unwrap_or (option_map (λ t. length t.rows) found) 0 < row → option_and_then (λ t. option_and_then (λ cells. nth cells column) (nth t.rows row)) found ≡ None) [
      | None ↦ λ _. refl
      | Some t ↦ λ past. rw (nth_past t.rows row past) refl
    ] lt

nth-All : {A : Type 0} (P : A → Type 0) (xs : List A) (n : ℕ) (x : A) → All P xs → nth xs n ≡ Some x → P x
nth-All P xs zero x all h = cc
nth-All P xs (suc i) x all h = subst P (get_or_from_slice_get xs i x x h) (all i x (slice_get_within xs i x h))

past_width : (t : TableData) (row column : ℕ) → All (λ cells. length cells ≡ t.width) t.rows → t.width < column → option_and_then (λ cells. nth cells column) (nth t.rows row) ≡ None
past_width t row column full lt =
    elim (nth t.rows row) as (λ found. nth t.rows row ≡ found → option_and_then (λ cells. nth cells column) found ≡ None) [
      | None ↦ λ _. refl
      | Some cells ↦ λ is.
          let size : length cells ≡ t.width = nth-All (λ cells. length cells ≡ t.width) t.rows row cells full is in
          nth_past cells column (omega arith)
    ] refl

pub column_past : (tables : List TableData) (table row column width : ℕ) → AreTables tables → width_at tables table ≡ Some width → width < column → table_cell_at tables table row column ≡ None
column_past tables table row column width are is lt =
    elim (nth tables table) as (λ found. nth tables table ≡ found → option_map (λ t. t.width) found ≡ Some width
    → option_and_then (λ t. option_and_then (λ cells. nth cells column) (nth t.rows row)) found ≡ None) [
      | None ↦ λ _ _. refl
      | Some t ↦ λ there wide.
          let same : t.width ≡ width = cc in
          past_width t row column (nth-All IsTable tables table t are.proper there).full (omega arith)
    ] refl is

-- a column that is no input has no cell
pub no_input : (sheet : SheetData) (row column : ℕ) → ¬ (Contains sheet.inputs column) → cell_at sheet row column ≡ None
no_input sheet row column none =
    elim (position (λ c. c == column) sheet.inputs) as (λ found. position (λ c. c == column) sheet.inputs ≡ found
    → option_and_then (λ at. option_and_then (λ r. slice_get r.cells at) (nth sheet.rows row)) found ≡ None) [
      | None ↦ λ _. refl
      | Some k ↦ λ is.
          let facts = position-Some (λ c. c == column) sheet.inputs k column is in
          let same : get_or sheet.inputs k column ≡ column = grind (arith, nat_tests) in
          absurd (none (k, facts.0, same))
    ] refl
