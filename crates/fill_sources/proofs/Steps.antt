-- Conditions that are put together, cell by cell.
use Rattle.std.proofs.Common.{◌≡◌, ℕ, ◌+◌, List, [], ◌∷◌, ◌++◌, map, take, Some, slice_get, sym, ap, ◌∙◌, subst}
use Rattle.std.proofs.lemmas.List.{map-append, take_more}
use Rattle.std.proofs.lemmas.Option.{get_or_from_slice_get, slice_get_within}
use Rattle.fill_text.specs.Data.{nth, key_at, table_cell_at, table_row_at}
use Rattle.fill_reach.specs.Reach.{IsReached}
use Rattle.fill_reach.specs.declared.rows.ReachedRow.{ReachedRow}
use Rattle.fill_reach.proofs.CellLaws.{cell_of, some_same}
use Rattle.fill_sources.specs.declared.row.OnRow.{OnRow}
use Rattle.fill_sources.proofs.Lists.{mapped_at, mapped_from}

take_one : {A : Type 0} (xs : List A) (i : ℕ) (x : A) → slice_get xs i ≡ Some x → take (i + 1) xs ≡ take i xs ++ x ∷ []
take_one xs i x h = take_more xs i x (slice_get_within xs i x h) ∙ ap (λ y. take i xs ++ y ∷ []) (get_or_from_slice_get xs i x x h)

-- the rows of a reached row's key, of which each cell of the key is there
pub row_there : (on : OnRow) (r : ReachedRow) → IsReached on.settings on.sheet.now on.tables.now on.row r → (rows : List (List ℕ)) × (table_row_at on.tables.now r.table r.row ≡ Some rows)
row_there on r h = let keyed = h.reached.5.2 in (keyed.1, keyed.3)

pub cell_there : (on : OnRow) (r : ReachedRow) → IsReached on.settings on.sheet.now on.tables.now on.row r → (key : List ℕ) → key_at on.tables.now r.table r.key ≡ Some key → (i column : ℕ) → slice_get key i ≡ Some column
    → (text : List ℕ) × (table_cell_at on.tables.now r.table r.row column ≡ Some text)
cell_there on r h key is i column at =
    let keyed = h.reached.5.2 in
    let texts : List (List ℕ) = h.reached.5.0 in
    let same : key ≡ keyed.0 = some_same key keyed.0 (sym is ∙ keyed.2) in
    let there : slice_get keyed.0 i ≡ Some column = subst (λ l. slice_get l i ≡ Some column) same at in
    let read : slice_get (map (nth keyed.1) keyed.0) i ≡ Some (nth keyed.1 column) = mapped_at (nth keyed.1) keyed.0 i column there in
    let told : slice_get (map Some texts) i ≡ Some (nth keyed.1 column) = subst (λ l. slice_get l i ≡ Some (nth keyed.1 column)) keyed.4 read in
    let text = mapped_from Some texts i (nth keyed.1 column) told in
    (text.0, cell_of on.tables.now r.table r.row column keyed.1 keyed.3 ∙ sym text.2)

-- the cells so far, with one more
pub cells_more : (rows : List (List ℕ)) (key : List ℕ) (i column : ℕ) (text : List ℕ) (cells : List (List ℕ)) → slice_get key i ≡ Some column → nth rows column ≡ Some text → map (nth rows) (take i key) ≡ map Some cells
    → map (nth rows) (take (i + 1) key) ≡ map Some (cells ++ text ∷ [])
cells_more rows key i column text cells at cell h =
    ap (λ l. map (nth rows) l) (take_one key i column at)
    ∙ (map-append (nth rows) (take i key) (column ∷ [])
    ∙ (ap (λ l. l ++ nth rows column ∷ []) h
    ∙ (ap (λ o. map Some cells ++ o ∷ []) cell
    ∙ sym (map-append Some cells (text ∷ [])))))
