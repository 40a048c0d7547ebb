-- Cells of tables, by numbers that are in range.
use Rattle.std.proofs.Common.{◌≡◌, ℕ, zero, suc, ◌≤◌, List, [], ◌∷◌, length, map, get_or, Option, None, Some, option_map, option_and_then, unwrap_or, All, Contains, refl, sym, ap, subst, ◌∙◌, arith}
use Rattle.std.proofs.lemmas.List.{length-map}
use Rattle.std.proofs.lemmas.Option.{slice_get-get_or, slice_get_within, get_or_from_slice_get}
use Rattle.fill_text.specs.Data.{TableData, nth, key_at, table_cell_at, table_row_at, width_at}
use Rattle.fill_tables.specs.Keys.{IsKey}
use Rattle.fill_tables.specs.Tables.{AreTables, IsTable, key_count, row_count}

pub some_same : {A : Type 0} (x y : A) → Some x ≡ Some y → x ≡ y
some_same x y h = cc

-- the item of a number
pub nth_at : {A : Type 0} (xs : List A) (n : ℕ) → 1 ≤ n → n ≤ length xs → (x : A) × (nth xs n ≡ Some x)
nth_at xs zero first last = absurd (omega arith)
nth_at [] (suc i) first last = absurd (omega arith)
nth_at (x ∷ xs) (suc i) first last = (get_or (x ∷ xs) i x, slice_get-get_or (x ∷ xs) i x (omega arith))

pub nth_within : {A : Type 0} (xs : List A) (n : ℕ) (x : A) → nth xs n ≡ Some x → (1 ≤ n) × (n ≤ length xs)
nth_within {A} xs zero x h = let e : ◌≡◌ {A = Option A} None (Some x) = h in absurd (let f : ⊥ = cc in f)
nth_within xs (suc i) x h = let lt = slice_get_within xs i x h in ((omega arith), (omega arith))

pub nth_all : {A : Type 0} (P : A → Type 0) (xs : List A) (n : ℕ) (x : A) → All P xs → nth xs n ≡ Some x → P x
nth_all P xs zero x all h = absurd (let f : ⊥ = cc in f)
nth_all P xs (suc i) x all h = subst P (get_or_from_slice_get xs i x x h) (all i x (slice_get_within xs i x h))

-- the table of a number, and what its counts are
pub keys_of : (tables : List TableData) (table : ℕ) (t : TableData) → nth tables table ≡ Some t → key_count tables table ≡ length t.keys
keys_of tables table t is = ap (λ found. unwrap_or (option_map (λ u. length u.keys) found) 0) is

pub rows_of : (tables : List TableData) (table : ℕ) (t : TableData) → nth tables table ≡ Some t → row_count tables table ≡ length t.rows
rows_of tables table t is = ap (λ found. unwrap_or (option_map (λ u. length u.rows) found) 0) is

pub width_of : (tables : List TableData) (table : ℕ) (t : TableData) → nth tables table ≡ Some t → width_at tables table ≡ Some t.width
width_of tables table t is = ap (option_map (λ u. u.width)) is

row_of : (tables : List TableData) (table row : ℕ) (t : TableData) → nth tables table ≡ Some t → table_row_at tables table row ≡ nth t.rows row
row_of tables table row t is = ap (option_and_then (λ u. nth u.rows row)) is

pub row_read : (tables : List TableData) (table row : ℕ) (t : TableData) (cells : List (List ℕ)) → nth tables table ≡ Some t → nth t.rows row ≡ Some cells → table_row_at tables table row ≡ Some cells
row_read tables table row t cells there is = row_of tables table row t there ∙ is

-- there is a table where something is found in it
pub key_table : (tables : List TableData) (table key : ℕ) (columns : List ℕ) → key_at tables table key ≡ Some columns → (t : TableData) × (nth tables table ≡ Some t) × (nth t.keys key ≡ Some columns)
key_table tables table key columns is =
    elim (nth tables table) as (λ found. nth tables table ≡ found → option_and_then (λ t. nth t.keys key) found ≡ Some columns → (t : TableData) × (nth tables table ≡ Some t) × (nth t.keys key ≡ Some columns)) [
      | None ↦ λ _ no. absurd (let f : ⊥ = cc in f)
      | Some t ↦ λ there key. (t, there, key)
    ] refl is

pub row_table : (tables : List TableData) (table row : ℕ) (cells : List (List ℕ)) → table_row_at tables table row ≡ Some cells → (t : TableData) × (nth tables table ≡ Some t) × (nth t.rows row ≡ Some cells)
row_table tables table row cells is =
    elim (nth tables table) as (λ found. nth tables table ≡ found → option_and_then (λ t. nth t.rows row) found ≡ Some cells → (t : TableData) × (nth tables table ≡ Some t) × (nth t.rows row ≡ Some cells)) [
      | None ↦ λ _ no. absurd (let f : ⊥ = cc in f)
      | Some t ↦ λ there row. (t, there, row)
    ] refl is

-- the cell in a column of the row
pub cell_of : (tables : List TableData) (table row column : ℕ) (cells : List (List ℕ)) → table_row_at tables table row ≡ Some cells → table_cell_at tables table row column ≡ nth cells column
cell_of tables table row column cells is =
    let found = row_table tables table row cells is in
    ap (option_and_then (λ t. option_and_then (λ cs. nth cs column) (nth t.rows row))) found.1 ∙ ap (option_and_then (λ cs. nth cs column)) found.2

-- what one list is read as is the other
pub read_there : {A B : Type 0} (f : A → Option B) (xs : List A) (ys : List B) (x : A) (y : B) → map f xs ≡ map Some ys → Contains xs x → f x ≡ Some y → Contains ys y
read_there f [] ys x y same (i, lt, e) is = absurd (omega arith)
read_there f (z ∷ xs) [] x y same c is = absurd (let g : ⊥ = cc in g)
read_there f (z ∷ xs) (w ∷ ys) x y same (zero, lt, e) is =
    let here : z ≡ x = e in
    let heads : f z ≡ Some w = cc in
    (zero, (omega arith), (let g : w ≡ y = some_same w y (sym heads ∙ ap f here ∙ is) in g))
read_there f (z ∷ xs) (w ∷ ys) x y same (suc i, lt, e) is =
    let tails : map f xs ≡ map Some ys = cc in
    let rest = read_there f xs ys x y tails (i, (omega arith), e) is in
    let less = rest.1 in
    (suc rest.0, (omega arith), rest.2)

pub read_back : {A B : Type 0} (f : A → Option B) (xs : List A) (ys : List B) (y : B) → map f xs ≡ map Some ys → Contains ys y → (x : A) × Contains xs x × (f x ≡ Some y)
read_back f xs [] y same (i, lt, e) = absurd (omega arith)
read_back f [] (w ∷ ys) y same c = absurd (let g : ⊥ = cc in g)
read_back f (z ∷ xs) (w ∷ ys) y same (zero, lt, e) =
    let here : w ≡ y = e in
    let heads : f z ≡ Some w = cc in
    (z, (zero, omega arith, refl), heads ∙ ap Some here)
read_back f (z ∷ xs) (w ∷ ys) y same (suc i, lt, e) =
    let tails : map f xs ≡ map Some ys = cc in
    let rest = read_back f xs ys y tails (i, (omega arith), e) in
    let less = rest.1.1 in
    (rest.0, (suc rest.1.0, (omega arith), rest.1.2), rest.2)

pub same_length : {A B : Type 0} (f : A → Option B) (xs : List A) (ys : List B) → map f xs ≡ map Some ys → length xs ≡ length ys
same_length f xs ys same = sym (length-map xs f) ∙ ap length same ∙ length-map ys Some

-- all of a list are read as something
pub all_read : {A B : Type 0} (f : A → Option B) (xs : List A) → All (λ x. (y : B) × (f x ≡ Some y)) xs → (ys : List B) × (map f xs ≡ map Some ys)
all_read f [] all = ([], refl)
all_read f (x ∷ xs) all =
    let here = all zero x (omega arith) in
    let rest = all_read f xs (λ k d l. all (suc k) d (omega arith)) in
    (here.0 ∷ rest.0, (let h : f x ≡ Some here.0 = here.1 in let t : map f xs ≡ map Some rest.0 = rest.1 in cc))

-- a row has a cell in each column of a key
pub key_column : (tables : List TableData) (table key column : ℕ) (columns : List ℕ) → AreTables tables → key_at tables table key ≡ Some columns → Contains columns column
    → (t : TableData) × (nth tables table ≡ Some t) × (1 ≤ column) × (column ≤ t.width)
key_column tables table key column columns are is there =
    let found = key_table tables table key columns is in
    let t : TableData = found.0 in
    let table_is : IsTable t = nth_all IsTable tables table t are.proper found.1 in
    let key_is : IsKey t.width t.rows columns = nth_all (IsKey t.width t.rows) t.keys key columns table_is.keyed found.2 in
    let first : 1 ≤ get_or columns there.0 column = key_is.are.first there.0 column there.1 in
    let last : get_or columns there.0 column ≤ t.width = key_is.within there.0 column there.1 in
    (t, found.1, subst (λ c. 1 ≤ c) there.2 first, subst (λ c. c ≤ t.width) there.2 last)

pub row_full : (tables : List TableData) (table row : ℕ) (t : TableData) (cells : List (List ℕ)) → AreTables tables → nth tables table ≡ Some t → nth t.rows row ≡ Some cells → length cells ≡ t.width
row_full tables table row t cells are there is = nth_all (λ cs. length cs ≡ t.width) t.rows row cells (nth_all IsTable tables table t are.proper there).full is
