-- Rows that agree in ranks are those that agree in cells.
use Rattle.std.proofs.Common.{◌≡◌, ◌≢◌, ◌↔◌, ℕ, zero, suc, ◌+◌, ◌*◌, ◌-◌, ◌<◌, ◌≤◌, List, [], ◌∷◌, length, map, drop, get_or, None, Some, Result, Ok, Err, option_and_then, option_map, unwrap_or, slice_get, refl, sym, ap, subst, ◌∙◌, arith}
use Rattle.std.specs.Prelude.{All}
use Rattle.std.specs.Result.{IfOk}
use Rattle.std.proofs.lemmas.List.{drop_all}
use Rattle.std.proofs.lemmas.Option.{slice_get-get_or, slice_get_within, slice_get_read, get_or_from_slice_get}
use Rattle.fill_text.specs.Data.{TableData, nth, table_cell_at, table_row_at}
use Rattle.fill_tables.specs.Keys.{DistinguishRows}
use Rattle.fill_tables.specs.Tables.{AreTables, IsTable, row_count}
use Rattle.fill_keys.specs.Ranks.{IsRanked, number_after, number_of, rank_in}
use Rattle.fill_keys.specs.declared.ranks.RankedTable.{RankedTable}

pub here : {A : Type 0} (xs : List A) (i : ℕ) (x : A) → i < length xs → x ≡ get_or xs i x → slice_get xs i ≡ Some x
here xs i x lt is = slice_get_read xs (length xs) i x refl lt is

some_same : {A : Type 0} (x y : A) → Some x ≡ Some y → x ≡ y
some_same x y h = cc

pub ok_same : {A E : Type 0} (P Q : A → Type 0) (r : Result A E) → IfOk r P → ((x : A) → P x → Q x) → IfOk r Q
ok_same P Q (Ok x) h f = f x h
ok_same P Q (Err e) h f = h

-- the item of a number that counts from 1
pub nth_before : {A : Type 0} (xs : List A) (n : ℕ) → 1 ≤ n → nth xs n ≡ slice_get xs (n - 1)
nth_before xs zero first = absurd (omega arith)
nth_before xs (suc i) first = let e : suc i - 1 ≡ i = omega arith in ap (slice_get xs) (sym e)

-- the row of a number
row_table : (tables : List TableData) (table row : ℕ) (cells : List (List ℕ)) → table_row_at tables table row ≡ Some cells → (t : TableData) × (nth tables table ≡ Some t) × (nth t.rows row ≡ Some cells)
row_table tables table row cells is =
    elim (nth tables table) as (λ found. nth tables table ≡ found → option_and_then (λ t. nth t.rows row) found ≡ Some cells → (t : TableData) × (nth tables table ≡ Some t) × (nth t.rows row ≡ Some cells)) [
      | None ↦ λ _ no. absurd (let f : ⊥ = cc in f)
      | Some t ↦ λ there row. (t, there, row)
    ] refl is

cell_of : (tables : List TableData) (table row column : ℕ) (cells : List (List ℕ)) → table_row_at tables table row ≡ Some cells → table_cell_at tables table row column ≡ nth cells column
cell_of tables table row column cells is =
    let found = row_table tables table row cells is in
    ap (option_and_then (λ t. option_and_then (λ cs. nth cs column) (nth t.rows row))) found.1 ∙ ap (option_and_then (λ cs. nth cs column)) found.2

rows_of : (tables : List TableData) (table : ℕ) (t : TableData) → nth tables table ≡ Some t → row_count tables table ≡ length t.rows
rows_of tables table t is = ap (λ found. unwrap_or (option_map (λ u. length u.rows) found) 0) is

no_row : (tables : List TableData) (table : ℕ) (cells : List (List ℕ)) → table_row_at tables table zero ≡ Some cells → ⊥
no_row tables table cells is = let found = row_table tables table zero cells is in let no = found.2 in cc

row_within : (tables : List TableData) (table i : ℕ) (cells : List (List ℕ)) → table_row_at tables table (suc i) ≡ Some cells → i < row_count tables table
row_within tables table i cells is =
    let found = row_table tables table (suc i) cells is in
    rw (rows_of tables table found.0 found.1) (slice_get_within found.0.rows i cells found.2)

row_there : (tables : List TableData) (table i : ℕ) → i < row_count tables table → (cells : List (List ℕ)) × (table_row_at tables table (suc i) ≡ Some cells)
row_there tables table i lt =
    elim (nth tables table) as (λ found. nth tables table ≡ found → i < unwrap_or (option_map (λ u. length u.rows) found) 0 → (cells : List (List ℕ)) × (table_row_at tables table (suc i) ≡ Some cells)) [
      | None ↦ λ _ no. absurd (omega arith)
      | Some t ↦ λ there less. (get_or t.rows i [], ap (option_and_then (λ u. nth u.rows (suc i))) there ∙ slice_get-get_or t.rows i [] less)
    ] refl lt

-- numbers of equally many small ranks are equal where the ranks are
module _ (f g : ℕ → ℕ) (fs : (c : ℕ) → f c < 65536) (gs : (c : ℕ) → g c < 65536) where
  pub same_numbers : (cs : List ℕ) (a b : ℕ) → number_after a (map f cs) ≡ number_after b (map g cs) → (a ≡ b) × (map f cs ≡ map g cs)
  same_numbers [] a b h = (h, refl)
  same_numbers (c ∷ cs) a b h =
      let rest = same_numbers cs (a * 65536 + f c) (b * 65536 + g c) h in
      let less = fs c in
      let few = gs c in
      let both = rest.0 in
      let first : a ≡ b = omega arith in
      let here : f c ≡ g c = omega arith in
      let later = rest.1 in
      (first, cc)

module _ (tables : List TableData) (ranked : RankedTable) (is : IsRanked tables ranked) where
  pub rank_small : (row column : ℕ) → rank_in ranked.columns.items row column < 65536
  rank_small row zero = omega arith
  rank_small row (suc c) =
      elim (slice_get ranked.columns.items c) as (λ found. slice_get ranked.columns.items c ≡ found → unwrap_or (option_and_then (λ ranks. slice_get ranks row) found) 0 < 65536) [
        | None ↦ λ _. omega arith
        | Some ranks ↦ λ there. elim (slice_get ranks row) as (λ found. slice_get ranks row ≡ found → unwrap_or found 0 < 65536) [
          | None ↦ λ _. omega arith
          | Some m ↦ λ at. (is.each c ranks there).small row m at
        ] refl
      ] refl

  -- the rank is read in the ranks of its column
  pub rank_read : (row c r : ℕ) (ranks : List ℕ) → slice_get ranked.columns.items c ≡ Some ranks → slice_get ranks row ≡ Some r → r ≡ rank_in ranked.columns.items row (suc c)
  rank_read row c r ranks there at = sym (ap (λ found. unwrap_or (option_and_then (λ rs. slice_get rs row) found) 0) there ∙ ap (λ found. unwrap_or found 0) at)

  rank_there : (row c : ℕ) → c < length ranked.columns.items → row < ranked.rows →
      (ranks : List ℕ) × (r : ℕ) × (slice_get ranked.columns.items c ≡ Some ranks) × (slice_get ranks row ≡ Some r) × (r ≡ rank_in ranked.columns.items row (suc c))
  rank_there row c within lt =
      let ranks = get_or ranked.columns.items c [] in
      let there = slice_get-get_or ranked.columns.items c [] within in
      let full = (is.each c ranks there).full in
      let rows = is.rows in
      let at = slice_get-get_or ranks row 0 (omega arith) in
      (ranks, get_or ranks row 0, there, at, rank_read row c (get_or ranks row 0) ranks there at)

  module _ (i j : ℕ) (ci cj : List (List ℕ)) (first : table_row_at tables ranked.table (suc i) ≡ Some ci) (other : table_row_at tables ranked.table (suc j) ≡ Some cj) where
    below : (k : ℕ) (cells : List (List ℕ)) → table_row_at tables ranked.table (suc k) ≡ Some cells → k < ranked.rows
    below k cells at = let lt = row_within tables ranked.table k cells at in let rows = is.rows in omega arith

    same_cells : (c : ℕ) → c < length ranked.columns.items → (rank_in ranked.columns.items i (suc c) ≡ rank_in ranked.columns.items j (suc c)) ↔ (nth ci (suc c) ≡ nth cj (suc c))
    same_cells c within =
        let p = rank_there i c within (below i ci first) in
        let q = rank_there j c within (below j cj other) in
        let one : p.0 ≡ q.0 = some_same p.0 q.0 (sym p.2 ∙ q.2) in
        let at : slice_get p.0 j ≡ Some q.1 = subst (λ ranks. slice_get ranks j ≡ Some q.1) (sym one) q.3 in
        let both = (is.each c p.0 p.2).same i j p.1 q.1 p.3 at in
        let ei = cell_of tables ranked.table (suc i) (suc c) ci first in
        let ej = cell_of tables ranked.table (suc j) (suc c) cj other in
        ((λ h. sym ei ∙ both.0 (p.4 ∙ h ∙ sym q.4) ∙ ej), (λ h. sym p.4 ∙ both.1 (ei ∙ h ∙ sym ej) ∙ q.4))

    same_column : (column : ℕ) → (1 ≤ column) × (column ≤ length ranked.columns.items) → (rank_in ranked.columns.items i column ≡ rank_in ranked.columns.items j column) ↔ (nth ci column ≡ nth cj column)
    same_column zero h = absurd (let w = h.0 in omega arith)
    same_column (suc c) h = same_cells c (let w = h.1 in omega arith)

    same_rows : (cs : List ℕ) → ((k c : ℕ) → slice_get cs k ≡ Some c → (1 ≤ c) × (c ≤ length ranked.columns.items)) →
        (map (rank_in ranked.columns.items i) cs ≡ map (rank_in ranked.columns.items j) cs) ↔ (map (nth ci) cs ≡ map (nth cj) cs)
    same_rows [] each = ((λ h. refl), (λ h. refl))
    same_rows (c ∷ cs) each =
        let head = same_column c (each zero c refl) in
        let tail = same_rows cs (λ k d at. each (suc k) d at) in (
          (λ h. let x : nth ci c ≡ nth cj c = head.0 cc in let xs : map (nth ci) cs ≡ map (nth cj) cs = tail.0 cc in cc),
          (λ h. let x : rank_in ranked.columns.items i c ≡ rank_in ranked.columns.items j c = head.1 cc in
              let xs : map (rank_in ranked.columns.items i) cs ≡ map (rank_in ranked.columns.items j) cs = tail.1 cc in cc),
        )

  -- the number of a row in some columns
  abbrev pub row_number : List ℕ → ℕ → ℕ
  row_number cs i = number_of (map (rank_in ranked.columns.items i) cs)

  module _ (cs : List ℕ) (within : All (λ column. (1 ≤ column) × (column ≤ length ranked.columns.items)) cs) where
    each_column : (k c : ℕ) → slice_get cs k ≡ Some c → (1 ≤ c) × (c ≤ length ranked.columns.items)
    each_column k c at = subst (λ x. (1 ≤ x) × (x ≤ length ranked.columns.items)) (get_or_from_slice_get cs k c c at) (within k c (slice_get_within cs k c at))

    -- rows of which no two have one number
    pub key_apart : ((j k : ℕ) → j < ranked.rows → k < ranked.rows → row_number cs j ≡ row_number cs k → j ≡ k) → DistinguishRows tables ranked.table cs
    key_apart apart zero other cells others first last same = absurd (no_row tables ranked.table cells first)
    key_apart apart (suc i) zero cells others first last same = absurd (no_row tables ranked.table others last)
    key_apart apart (suc i) (suc j) cells others first last same =
        let ranks = (same_rows i j cells others first last cs each_column).1 same in
        ap suc (apart i j (below i j cells others first last i cells first) (below i j cells others first last j others last) (ap number_of ranks))

    -- two rows that have one number
    pub key_clash : (j k : ℕ) → j < ranked.rows → k < ranked.rows → j ≢ k → row_number cs j ≡ row_number cs k → DistinguishRows tables ranked.table cs → ⊥
    key_clash j k lj lk differ same distinct =
        let rows = is.rows in
        let p = row_there tables ranked.table j (omega arith) in
        let q = row_there tables ranked.table k (omega arith) in
        let ranks = (same_numbers (rank_in ranked.columns.items j) (rank_in ranked.columns.items k) (rank_small j) (rank_small k) cs 0 0 same).1 in
        let cells = (same_rows j k p.0 q.0 p.1 q.1 cs each_column).0 ranks in
        let one : suc j ≡ suc k = distinct (suc j) (suc k) p.0 q.0 p.1 q.1 cells in
        differ (omega arith)

-- the item at a place of the rest of a list
drop_here : {A : Type 0} (xs : List A) (n : ℕ) (x : A) → slice_get xs n ≡ Some x → drop n xs ≡ x ∷ drop (suc n) xs
drop_here [] n x h = cc
drop_here (y ∷ xs) zero x h = let e : y ≡ x = cc in ap (λ z. z ∷ xs) e
drop_here (y ∷ xs) (suc n) x h = drop_here xs n x h

-- one more rank is put to the number
pub number_step : (f : ℕ → ℕ) (cs : List ℕ) (i c n total : ℕ) → slice_get cs i ≡ Some c → number_after n (map f (drop i cs)) ≡ total → number_after (n * 65536 + f c) (map f (drop (i + 1) cs)) ≡ total
number_step f cs i c n total at h =
    let next : suc i ≡ i + 1 = omega arith in
    let cut : drop i cs ≡ c ∷ drop (i + 1) cs = drop_here cs i c at ∙ ap (λ m. c ∷ drop m cs) next in
    sym (ap (λ xs. number_after n (map f xs)) cut) ∙ h

pub number_whole : (f : ℕ → ℕ) (cs : List ℕ) (i n total : ℕ) → length cs ≤ i → number_after n (map f (drop i cs)) ≡ total → n ≡ total
number_whole f cs i n total far h = sym (ap (λ xs. number_after n (map f xs)) (drop_all i cs far)) ∙ h

-- a table has so few rows that their numbers are ranks
pub rows_few : (tables : List TableData) (table : ℕ) → AreTables tables → row_count tables table ≤ 2000
rows_few tables zero are = omega arith
rows_few tables (suc i) are =
    elim (slice_get tables i) as (λ found. slice_get tables i ≡ found → unwrap_or (option_map (λ u. length u.rows) found) 0 ≤ 2000) [
      | None ↦ λ _. omega arith
      | Some t ↦ λ there. (subst IsTable (get_or_from_slice_get tables i t t there) (are.proper i t (slice_get_within tables i t there))).limited
    ] refl
