-- Rows and keys of one table among others.
use Rattle.std.proofs.Common.{◌≡◌, ◌≢◌, ℕ, zero, suc, ◌+◌, ◌-◌, ◌<◌, ◌≤◌, ◌↔◌, List, [], ◌∷◌, ◌++◌, length, get_or, set, map, slice_get, position, Bool, true, false, IsTrue, not, Option, None, Some, Ok, Err, Result, nat_lt, All, option_map, option_and_then, ◌||◌, inl, inr, refl, sym, ap, subst, ◌∙◌, arith, length-append}
use Rattle.std.specs.Option.{is_none, is_some}
use Rattle.std.specs.Result.{OnOk, IfErr}
use Rattle.std.specs.Str.{chars, IsUtf8}
use Rattle.std.specs.List.{list_any}
use Rattle.std.specs.Str.{bytes_eq}
use Rattle.std.proofs.lemmas.Str.{encodes-chars}
use lib.Utf8.{encodes}
use Rattle.std.proofs.lemmas.Bool.{cases_eq}
use Rattle.std.proofs.lemmas.Bool.Decides.{nat_tests}
use Rattle.std.proofs.lemmas.Slice.Eq.{bytes_eq-Decides}
use Rattle.std.proofs.lemmas.List.{length-map, length-set, get_or-set_same, get_or-set_other}
use Rattle.std.proofs.lemmas.List.Elements.{All-push, All-set, All-cons, All-nil}
use Rattle.std.proofs.lemmas.List.Quantifiers.{position-Some, all_pairs_push}
use Rattle.std.proofs.lemmas.Option.{slice_get-get_or, slice_get_within, get_or_from_slice_get, slice_get_read, slice_get-map}
use Rattle.fill_text.specs.Data.{TableData, nth, key_at, table_row_at}
use Rattle.fill_tables.specs.Keys.{AreKeyColumns, DistinguishRows, IsKey, IsKeyedRow}
use Rattle.fill_tables.specs.Rows.{has_cells, first_clash}
use Rattle.fill_tables.specs.Tables.{IsTable, AreTables, place_of, add_key_to, with_key, before, after}
use Rattle.fill_tables.specs.declared.error.TableError.{TableError}
use Rattle.fill_tables.specs.declared.error.TableError.TheVariants.{NoSuchTable}
use Rattle.fill_tables.proofs.Agree.{has_cells-Decides, position-None, Distinguish-from_None, Distinguish-not_Some}

no_row : (rows : List (List (List ℕ))) (columns : List ℕ) (texts : List (List ℕ)) (row : ℕ) (cells : List (List ℕ)) → position (has_cells columns texts) rows ≡ None → nth rows row ≡ Some cells → map (nth cells) columns ≢ map Some texts
no_row rows columns texts zero cells none here same = cc
no_row rows columns texts (suc i) cells none here same =
    let fails = position-None (has_cells columns texts) rows i cells none (slice_get_within rows i cells here) in
    let cell : get_or rows i cells ≡ cells = get_or_from_slice_get rows i cells cells here in
    let no : has_cells columns texts cells ≡ false = rw cell at fails in
    let yes : has_cells columns texts cells ≡ true = (has_cells-Decides columns texts cells).1 same in
    cc

-- the item of a number that is read at its place
pub nth-read : {A : Type 0} (xs : List A) (n : ℕ) (x : A) → 1 ≤ n → n ≤ length xs → x ≡ get_or xs (n - 1) x → nth xs n ≡ Some x
nth-read xs zero x first last is = absurd (omega arith)
nth-read xs (suc n) x first last is = let less : suc n - 1 ≡ n = omega arith in slice_get_read xs (length xs) n x refl (omega arith) (rw less at is)

-- texts are the same exactly where their characters are
pub same_chars : (a b : List ℕ) → IsUtf8 a → IsUtf8 b → bytes_eq a b ≡ bytes_eq (chars a) (chars b)
same_chars a b text other =
    elim (bytes_eq a b) as (λ r. bytes_eq a b ≡ r → r ≡ bytes_eq (chars a) (chars b)) [
      | true ↦ λ is. sym ((bytes_eq-Decides (chars a) (chars b)).1 (ap chars ((bytes_eq-Decides a b).0 is)))
      | false ↦ λ is.
          elim (bytes_eq (chars a) (chars b)) as (λ s. bytes_eq (chars a) (chars b) ≡ s → false ≡ s) [
            | false ↦ λ _. refl
            | true ↦ λ alike.
                let same : a ≡ b = sym (encodes-chars a text) ∙ ap encodes ((bytes_eq-Decides (chars a) (chars b)).0 alike) ∙ encodes-chars b other in
                let yes = (bytes_eq-Decides a b).1 same in
                cc
          ] refl
    ] refl

pub bytes_eq-sym : (a b : List ℕ) → bytes_eq a b ≡ bytes_eq b a
bytes_eq-sym a b =
    elim (bytes_eq a b) as (λ r. bytes_eq a b ≡ r → r ≡ bytes_eq b a) [
      | true ↦ λ is. sym ((bytes_eq-Decides b a).1 (sym ((bytes_eq-Decides a b).0 is)))
      | false ↦ λ is.
          elim (bytes_eq b a) as (λ s. bytes_eq b a ≡ s → false ≡ s) [
            | false ↦ λ _. refl
            | true ↦ λ back. let yes = (bytes_eq-Decides a b).1 (sym ((bytes_eq-Decides b a).0 back)) in cc
          ] refl
    ] refl

pub OnOk-map : {T E : Type 0} (r : Result T E) (P Q : Type 0) → (P → Q) → OnOk r P → OnOk r Q
OnOk-map (Ok x) P Q f p = f p
OnOk-map (Err e) P Q f p = p

pub IfErr-map : {T E : Type 0} (r : Result T E) (P Q : E → Type 0) → ((e : E) → P e → Q e) → IfErr r P → IfErr r Q
IfErr-map (Ok x) P Q f p = p
IfErr-map (Err e) P Q f p = f e p

-- no row has the cells where no place is found
pub find-None : (tables : List TableData) (table key : ℕ) (texts : List (List ℕ)) (t : TableData) (columns : List ℕ) → nth tables table ≡ Some t → nth t.keys key ≡ Some columns
    → position (has_cells columns texts) t.rows ≡ None → (row : ℕ) → ¬ (IsKeyedRow tables table key texts row)
find-None tables table key texts t columns there is none row found =
    let key_is : key_at tables table key ≡ Some columns = rw there is in
    let rows_are : table_row_at tables table row ≡ nth t.rows row = rw there refl in
    let same : found.0 ≡ columns = cc in
    let cells_there : nth t.rows row ≡ Some found.1 = cc in
    no_row t.rows columns texts row found.1 none cells_there (rw same at found.4)

pub find-Some : (tables : List TableData) (table key : ℕ) (texts : List (List ℕ)) (t : TableData) (columns : List ℕ) (place : ℕ) → nth tables table ≡ Some t → nth t.keys key ≡ Some columns
    → position (has_cells columns texts) t.rows ≡ Some place → IsKeyedRow tables table key texts (place + 1)
find-Some tables table key texts t columns place there is found =
    let facts = position-Some (has_cells columns texts) t.rows place [] found in
    let next : place + 1 ≡ suc place = omega arith in
    let row : nth t.rows (place + 1) ≡ Some (get_or t.rows place []) = rw next (slice_get-get_or t.rows place [] facts.0) in
    (columns, get_or t.rows place [], rw there is, rw there row, (has_cells-Decides columns texts (get_or t.rows place [])).0 facts.1)

nth-All : {A : Type 0} (P : A → Type 0) (xs : List A) (n : ℕ) (x : A) → All P xs → nth xs n ≡ Some x → P x
nth-All P xs zero x all h = cc
nth-All P xs (suc i) x all h = subst P (get_or_from_slice_get xs i x x h) (all i x (slice_get_within xs i x h))

-- a key has at most three columns
few-columns : (tables : List TableData) (table key : ℕ) (columns : List ℕ) → AreTables tables → key_at tables table key ≡ Some columns → length columns ≤ 3
few-columns tables table key columns are there =
    elim (nth tables table) as (λ found. nth tables table ≡ found → option_and_then (λ t. nth t.keys key) found ≡ Some columns → length columns ≤ 3) [
      | None ↦ λ is h. cc
      | Some t ↦ λ is h. (nth-All (IsKey t.width t.rows) t.keys key columns (nth-All IsTable tables table t are.proper is).keyed h).are.few
    ] refl there

-- no row has the cells where they are more than a key can have columns
pub too-many : (tables : List TableData) (table key : ℕ) (texts : List (List ℕ)) → AreTables tables → 3 < length texts → (row : ℕ) → ¬ (IsKeyedRow tables table key texts row)
too-many tables table key texts are many row found =
    let few = few-columns tables table key found.0 are found.2 in
    let left = length-map found.0 (nth found.1) in
    let right = length-map texts Some in
    let same : length (map (nth found.1) found.0) ≡ length (map Some texts) = ap length found.4 in
    omega arith

none_is : {A : Type 0} (found : Option A) (none : Bool) → is_some found ≡ not none → none ≡ is_none found
none_is None true is = refl
none_is None false is = cc
none_is (Some x) true is = cc
none_is (Some x) false is = refl

-- whether no clash is found is whether the columns distinguish all rows
by_clash : (tables : List TableData) (table : ℕ) (t : TableData) (columns : List ℕ) → nth tables table ≡ Some t → IsTrue (is_none (first_clash columns t.rows)) ↔ DistinguishRows tables table columns
by_clash tables table t columns there =
    elim (first_clash columns t.rows) as (λ found. first_clash columns t.rows ≡ found → IsTrue (is_none found) ↔ DistinguishRows tables table columns) [
      | None ↦ λ is. ((λ _. λ row other cells others here second same. Distinguish-from_None columns t.rows is row other cells others (rw there at here) (rw there at second) same), (λ _. refl))
      | Some clash ↦ λ is. ((λ no. cc), (λ apart. absurd (Distinguish-not_Some columns t.rows clash is (λ row other cells others here second same. apart row other cells others (rw there here) (rw there second) same))))
    ] refl

pub distinguish-iff : (tables : List TableData) (table : ℕ) (t : TableData) (columns : List ℕ) (none : Bool) → nth tables table ≡ Some t → is_some (first_clash columns t.rows) ≡ not none → IsTrue none ↔ DistinguishRows tables table columns
distinguish-iff tables table t columns none there is = rw (none_is (first_clash columns t.rows) none is) (by_clash tables table t columns there)

-- columns none of which is past the last are within the width
pub within-from_any : (width : ℕ) (columns : List ℕ) → list_any (λ column. nat_lt width column) columns ≡ false → All (λ column. column ≤ width) columns
within-from_any width [] none = All-nil (λ column. column ≤ width)
within-from_any width (c ∷ more) none =
    elim (nat_lt width c) as (λ b. nat_lt width c ≡ b → (b || list_any (λ column. nat_lt width column) more) ≡ false → All (λ column. column ≤ width) (c ∷ more)) [
      | true ↦ λ is no. cc
      | false ↦ λ is rest. let le : c ≤ width = grind (arith, nat_tests) in All-cons (λ column. column ≤ width) c more le (within-from_any width more rest)
    ] refl none

-- a table with one more key is a table
pub keyed-table : (name : List ℕ) (width : ℕ) (rows : List (List (List ℕ))) (keys : List (List ℕ)) (columns : List ℕ) → IsTable (record { name = name; width = width; rows = rows; keys = keys }) → AreKeyColumns columns
    → list_any (λ column. nat_lt width column) columns ≡ false → length keys ≢ 4 → first_clash columns rows ≡ None → IsTable (record { name = name; width = width; rows = rows; keys = keys ++ columns ∷ [] })
keyed-table name width rows keys columns is are within room none = record {
  narrow = is.narrow;
  limited = is.limited;
  full = is.full;
  few = let size = length-append keys (columns ∷ []) in let old = is.few in omega arith;
  keyed = All-push (IsKey width rows) keys columns is.keyed (record { are = are; within = within-from_any width columns within; distinguish = Distinguish-from_None columns rows none });
}

-- tables with one more at the end
pub pushed-tables : (tables : List TableData) (t : TableData) → AreTables tables → IsTable t → length tables ≢ 8 → place_of tables t.name ≡ None → AreTables (tables ++ t ∷ [])
pushed-tables tables t are is room none = record {
  few = let size = length-append tables (t ∷ []) in let old = are.few in omega arith;
  proper = All-push IsTable tables t are.proper is;
  distinct = all_pairs_push (λ a b. a.name ≢ b.name) tables t are.distinct (λ k d lt same.
      let no : bytes_eq (get_or tables k d).name t.name ≡ false = position-None (λ u. bytes_eq u.name t.name) tables k d none lt in
      let yes : bytes_eq (get_or tables k d).name t.name ≡ true = (bytes_eq-Decides (get_or tables k d).name t.name).1 same in
      cc);
}

-- a table that is changed keeps its name
set-name : (tables : List TableData) (place k : ℕ) (t d : TableData) → t.name ≡ (get_or tables place d).name → place < length tables → (get_or (set tables place t) k d).name ≡ (get_or tables k d).name
set-name tables place k t d same lt = elim (cases_eq k place) [
  | inl is ↦ rw (is, get_or-set_same tables place t d lt) same
  | inr other ↦ rw (get_or-set_other tables place k t d other) refl
]

pub set-tables : (tables : List TableData) (place : ℕ) (t u : TableData) → AreTables tables → IsTable t → place < length tables → slice_get tables place ≡ Some u → t.name ≡ u.name → AreTables (set tables place t)
set-tables tables place t u are is lt there named = record {
  few = let size = length-set tables place t in let old = are.few in omega arith;
  proper = All-set IsTable tables place t is are.proper;
  distinct = λ i j d less last.
      let same : t.name ≡ (get_or tables place d).name = rw (get_or_from_slice_get tables place u d there) named in
      let size = length-set tables place t in
      rw (set-name tables place i t d same lt, set-name tables place j t d same lt) (are.distinct i j d less (omega arith));
}

-- the tables where one is replaced, if it was taken
abbrev pub replaced : List TableData → ℕ → Result TableData TableError → Result (List TableData) TableError
replaced tables place (Ok t) = Ok (set tables place t)
replaced tables place (Err e) = Err e

before-replaced : (t : TableData) (more : List TableData) (made : Result TableData TableError) → before made more ≡ replaced (t ∷ more) 0 made
before-replaced t more (Ok made) = refl
before-replaced t more (Err e) = refl

after-replaced : (t : TableData) (more : List TableData) (place : ℕ) (made : Result TableData TableError) → after t (replaced more place made) ≡ replaced (t ∷ more) (suc place) made
after-replaced t more place (Ok made) = refl
after-replaced t more place (Err e) = refl

add_key_to-first : (tables : List TableData) (name columns : List ℕ) (place : ℕ) (d : TableData) → place < length tables → bytes_eq (get_or tables place d).name name ≡ true
    → ((k : ℕ) → k < place → bytes_eq (get_or tables k d).name name ≡ false) → add_key_to tables name columns ≡ replaced tables place (with_key (get_or tables place d) columns)
add_key_to-first [] name columns place d lt is others = absurd (omega arith)
add_key_to-first (t ∷ more) name columns zero d lt is others = rw is (before-replaced t more (with_key t columns))
add_key_to-first (t ∷ more) name columns (suc place) d lt is others =
    let first : bytes_eq t.name name ≡ false = others 0 (omega arith) in
    let rest = add_key_to-first more name columns place d (omega arith) is (λ k less. others (suc k) (omega arith)) in
    rw (first, rest) (after-replaced t more place (with_key (get_or more place d) columns))

pub add_key_to-at : (tables : List TableData) (name columns : List ℕ) (place : ℕ) (t : TableData) → place_of tables name ≡ Some place → slice_get tables place ≡ Some t
    → add_key_to tables name columns ≡ replaced tables place (with_key t columns)
add_key_to-at tables name columns place t found there =
    let facts = position-Some (λ u. bytes_eq u.name name) tables place t found in
    let is : get_or tables place t ≡ t = get_or_from_slice_get tables place t t there in
    let whole = add_key_to-first tables name columns place t facts.0 facts.1 facts.2 in
    whole ∙ ap (λ (u : TableData). replaced tables place (with_key u columns)) is

add_key_to-none : (tables : List TableData) (name columns : List ℕ) → ((k : ℕ) (d : TableData) → k < length tables → bytes_eq (get_or tables k d).name name ≡ false) → add_key_to tables name columns ≡ Err NoSuchTable
add_key_to-none [] name columns others = refl
add_key_to-none (t ∷ more) name columns others =
    let first : bytes_eq t.name name ≡ false = others 0 t (omega arith) in
    let rest = add_key_to-none more name columns (λ k d less. others (suc k) d (omega arith)) in
    rw (first, rest) refl

pub add_key_to-missing : (tables : List TableData) (name columns : List ℕ) → place_of tables name ≡ None → add_key_to tables name columns ≡ Err NoSuchTable
add_key_to-missing tables name columns none = add_key_to-none tables name columns (λ k d lt. position-None (λ u. bytes_eq u.name name) tables k d none lt)

pub place-within : (tables : List TableData) (name : List ℕ) (place : ℕ) → place_of tables name ≡ Some place → place < length tables
place-within [] name place found = cc
place-within (t ∷ more) name place found = (position-Some (λ u. bytes_eq u.name name) (t ∷ more) place t found).0

-- the same of what is made of each item
pub nth-mapped : {A B : Type 0} (f : A → B) (xs : List A) (n : ℕ) (x : A) → 1 ≤ n → n ≤ length xs → x ≡ get_or xs (n - 1) x → nth (map f xs) n ≡ Some (f x)
nth-mapped f xs zero x first last is = absurd (omega arith)
nth-mapped f xs (suc i) x first last is = slice_get-map f xs i ∙ ap (option_map f) (nth-read xs (suc i) x first last is)
