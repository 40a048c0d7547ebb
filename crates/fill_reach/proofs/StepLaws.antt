-- What is put to a list step by step.
use Rattle.std.proofs.Common.{◌≡◌, ◌≢◌, ◌⊎◌, ◌↔◌, ℕ, ◌+◌, ◌-◌, ◌<◌, ◌≤◌, ◌^◌, List, [], ◌∷◌, ◌++◌, length, drop, map, get_or, slice_get, slice_range, set, Some, option_map, Bor, Bool, false, IsTrue, All, Contains, inl, inr, refl, sym, ap, subst, ◌∙◌, arith}
use Rattle.std.specs.declared.cmp.Ordering.TheVariants.{Less, Equal}
use Rattle.std.specs.Ordering.{nat_cmp, ordering_then}
use Rattle.std.specs.Cmp.{nat_cmp_is}
use Rattle.std.proofs.lemmas.List.{map-append, length-take, length-drop, length-map, get_or-set_same, get_or-set_other, get_or_default}
use Rattle.std.proofs.lemmas.List.Elements.{All-append, All-nil, All-cons}
use Rattle.std.proofs.lemmas.Option.{slice_get-get_or, slice_get_within, get_or_from_slice_get, slice_get-map}
use Rattle.fill_text.specs.Data.{SheetData, TableData, cell_at, key_at, table_cell_at, width_at}
use Rattle.fill_tables.specs.Tables.{key_count, row_count}
use Rattle.fill_text.specs.Lists.{Lists}
use Rattle.fill_text.proofs.ListsLaws.{adds_none, adds_one, adds_same, adds_then, adds_all}
use Rattle.fill_reach.specs.Marks.{AreTexts, IsNew, IsNewCell}
use Rattle.fill_reach.specs.Spots.{AddsRows, Spot, Gains, HasFree, IsFree, IsFreeCell, IsInputCell, IsKeyCell, IsKeyOf, IsPieceOf, IsPieceOfSome, IsShort, IsSpot, spot_cmp, spot_of}
use Rattle.fill_reach.specs.declared.rows.ReachedRow.{ReachedRow}
use Rattle.fill_reach.proofs.CellLaws.{some_same}

-- a number below the next one
last_of : (k n : ℕ) → k < n + 1 → (k < n) ⊎ (k ≡ n)
last_of k n lt = grind arith

-- an item is where it is read, and is contained
pub at_contains : {A : Type 0} (xs : List A) (k : ℕ) (x : A) → slice_get xs k ≡ Some x → Contains xs x
at_contains xs k x at = (k, slice_get_within xs k x at, get_or_from_slice_get xs k x x at)

pub contains_at : {A : Type 0} (xs : List A) (x : A) → Contains xs x → (k : ℕ) × (k < length xs) × (slice_get xs k ≡ Some x)
contains_at xs x c = (c.0, c.1, slice_get-get_or xs c.0 x c.1 ∙ ap Some c.2)

-- a cell that stands at no place of the text
pub piece_none : (cell text : List ℕ) (n : ℕ) → length text < n + length cell → ((a : ℕ) → a < n → slice_range text a (a + length cell) ≢ cell) → ¬ (IsPieceOf cell text)
piece_none cell text n past none (a, b, lt, le, is) =
    let dropped = length-drop a text in
    let taken = length-take (b - a) (drop a text) in
    let size : length cell ≡ length (slice_range text a b) = ap length is in
    let ends : b ≡ a + length cell = omega arith in
    none a (omega arith) (subst (λ e. slice_range text a e ≡ cell) ends (sym is))

-- the cells of the first inputs
abbrev pub InputsTo : SheetData → ℕ → List ℕ → ℕ → List ℕ → Type 0
InputsTo sheet row inputs n v = (k : ℕ) × (c : ℕ) × (k < n) × (slice_get inputs k ≡ Some c) × (c < 2 ^ 32) × (cell_at sheet row c ≡ Some v)

-- the cells of a row in the free columns before one
abbrev pub FreeTo : List TableData → Spot → ℕ → List ℕ → Type 0
FreeTo tables s n v = (column : ℕ) × (column < n) × IsFree tables s.table s.key column × (table_cell_at tables s.table s.row column ≡ Some v)

-- the free cells of the first rows that have a mark
abbrev pub CellsTo : List TableData → List ReachedRow → ℕ → ℕ → List ℕ → Type 0
CellsTo tables rows mark n v = (k : ℕ) × (r : ReachedRow) × (k < n) × (slice_get rows k ≡ Some r) × (r.depth ≡ mark) × IsFreeCell tables (spot_of r) v

-- what holds of the cells of a row in the first columns
abbrev pub HoldTo : (List ℕ → Type 0) → List TableData → Spot → List ℕ → ℕ → Type 0
HoldTo P tables s columns n = (k : ℕ) (c : ℕ) (v : List ℕ) → k < n → slice_get columns k ≡ Some c → table_cell_at tables s.table s.row c ≡ Some v → P v

pub hold_more : (P : List ℕ → Type 0) (tables : List TableData) (s : Spot) (columns : List ℕ) (n d : ℕ) (t : List ℕ) → n < length columns
    → table_cell_at tables s.table s.row (get_or columns n d) ≡ Some t → P t → HoldTo P tables s columns n → HoldTo P tables s columns (n + 1)
hold_more P tables s columns n d t lt cell here before k c v less at is =
    elim (last_of k n less) [
      | inl earlier ↦ before k c v earlier at is
      | inr same ↦
          let item : get_or columns n d ≡ c = get_or_from_slice_get columns n c d (subst (λ m. slice_get columns m ≡ Some c) same at) in
          let there : table_cell_at tables s.table s.row c ≡ Some t = subst (λ m. table_cell_at tables s.table s.row m ≡ Some t) item cell in
          subst P (some_same t v (sym there ∙ is)) here
    ]

pub hold_all : (P : List ℕ → Type 0) (tables : List TableData) (s : Spot) (columns : List ℕ) (n : ℕ) → key_at tables s.table s.key ≡ Some columns → length columns ≤ n
    → HoldTo P tables s columns n → (v : List ℕ) → IsKeyCell tables s v → P v
hold_all P tables s columns n key le hold v (others, c, is, there, cell) =
    let same : others ≡ columns = some_same others columns (sym is ∙ key) in
    let at = contains_at columns c (subst (λ cs. Contains cs c) same there) in
    let less = at.1 in
    hold at.0 c v (omega arith) at.2 cell

-- texts that are put to others
pub gains_same : (old new : List (List ℕ)) (Q S : List ℕ → Type 0) → ((v : List ℕ) → Q v → S v) → ((v : List ℕ) → S v → Q v) → Gains old new Q → Gains old new S
gains_same old new Q S f g a = record {
  exact = λ v. (
    (λ c. elim ((a.exact v).0 c) [ inl o ↦ inl o | inr q ↦ inr (f v q) ]),
    (λ h. elim h [ inl o ↦ (a.exact v).1 (inl o) | inr s ↦ (a.exact v).1 (inr (g v s)) ]),
  );
  short = a.short;
}

pub gains_then : (old mid new : List (List ℕ)) (Q R S : List ℕ → Type 0) → Gains old mid Q → Gains mid new R → ((v : List ℕ) → S v → Q v ⊎ R v) → ((v : List ℕ) → Q v → S v) → ((v : List ℕ) → R v → S v)
    → Gains old new S
gains_then old mid new Q R S a b split left right = record {
  exact = λ v. (
    (λ c. elim ((b.exact v).0 c) [ inl m ↦ elim ((a.exact v).0 m) [ inl o ↦ inl o | inr q ↦ inr (left v q) ] | inr r ↦ inr (right v r) ]),
    (λ h. elim h [
      | inl o ↦ (b.exact v).1 (inl ((a.exact v).1 (inl o)))
      | inr s ↦ elim (split v s) [ inl q ↦ (b.exact v).1 (inl ((a.exact v).1 (inr q))) | inr r ↦ (b.exact v).1 (inr r) ]
    ]),
  );
  short = λ all. b.short (a.short all);
}

pub texts_from : (texts : List (List ℕ)) (Q : List ℕ → Type 0) → Gains [] texts Q → AreTexts Q texts
texts_from texts Q a = record {
  exact = λ v. ((λ c. elim ((a.exact v).0 c) [ inl o ↦ absurd (let lt = o.1 in omega arith) | inr q ↦ q ]), (λ q. (a.exact v).1 (inr q)));
  short = a.short (All-nil IsShort);
}

pub new_at_first : (sheet : SheetData) (tables : List TableData) (row : ℕ) (rows : List ReachedRow) (depth : ℕ) (texts : List (List ℕ)) → depth ≡ 0 → Gains [] texts (IsInputCell sheet row)
    → AreTexts (IsNew sheet tables row rows depth) texts
new_at_first sheet tables row rows depth texts is a = texts_from texts (IsNew sheet tables row rows depth)
    (gains_same [] texts (IsInputCell sheet row) (IsNew sheet tables row rows depth) (λ v h. inl (is, h)) (λ v h. elim h [ inl input ↦ input.1 | inr cell ↦ absurd (let le = cell.0 in omega arith) ]) a)

pub new_later : (sheet : SheetData) (tables : List TableData) (row : ℕ) (rows : List ReachedRow) (depth : ℕ) (texts : List (List ℕ)) → depth ≢ 0 → Gains [] texts (IsNewCell tables rows depth)
    → AreTexts (IsNew sheet tables row rows depth) texts
new_later sheet tables row rows depth texts is a = texts_from texts (IsNew sheet tables row rows depth)
    (gains_same [] texts (IsNewCell tables rows depth) (IsNew sheet tables row rows depth) (λ v h. inr ((omega arith), h)) (λ v h. elim h [ inl input ↦ absurd (is input.0) | inr cell ↦ cell.1 ]) a)

pub inputs_more : (sheet : SheetData) (row : ℕ) (inputs : List ℕ) (n c : ℕ) (t : List ℕ) (old mid new : List (List ℕ)) → slice_get inputs n ≡ Some c → c < 2 ^ 32 → cell_at sheet row c ≡ Some t
    → Gains old mid (InputsTo sheet row inputs n) → Gains mid new (λ v. v ≡ t) → Gains old new (InputsTo sheet row inputs (n + 1))
inputs_more sheet row inputs n c t old mid new at small cell a b = gains_then old mid new (InputsTo sheet row inputs n) (λ v. v ≡ t) (InputsTo sheet row inputs (n + 1)) a b
    (λ v (k, d, lt, there, fits, is). elim (last_of k n lt) [
      | inl less ↦ inl (k, d, less, there, fits, is)
      | inr same ↦
          let columns : c ≡ d = some_same c d (sym at ∙ subst (λ m. slice_get inputs m ≡ Some d) same there) in
          inr (some_same v t (sym is ∙ subst (λ m. cell_at sheet row m ≡ Some t) columns cell))
    ])
    (λ v (k, d, lt, there, fits, is). (k, d, (omega arith), there, fits, is))
    (λ v e. (n, c, (omega arith), at, small, cell ∙ ap Some (sym e)))

pub inputs_all : (sheet : SheetData) (row : ℕ) (inputs : List ℕ) (n : ℕ) (old new : List (List ℕ)) → inputs ≡ sheet.inputs → length inputs ≤ n → Gains old new (InputsTo sheet row inputs n)
    → Gains old new (IsInputCell sheet row)
inputs_all sheet row inputs n old new same le = gains_same old new (InputsTo sheet row inputs n) (IsInputCell sheet row)
    (λ v (k, c, lt, at, fits, is). (c, subst (λ cs. Contains cs c) same (at_contains inputs k c at), fits, is))
    (λ v (c, there, fits, is). let at = contains_at inputs c (subst (λ cs. Contains cs c) (sym same) there) in let less = at.1 in (at.0, c, (omega arith), at.2, fits, is))

pub free_skip : (tables : List TableData) (s : Spot) (n : ℕ) (old mid : List (List ℕ)) → ¬ (IsFree tables s.table s.key n) → Gains old mid (FreeTo tables s n) → Gains old mid (FreeTo tables s (n + 1))
free_skip tables s n old mid taken = gains_same old mid (FreeTo tables s n) (FreeTo tables s (n + 1))
    (λ v (c, lt, free, cell). (c, (omega arith), free, cell))
    (λ v (c, lt, free, cell). elim (last_of c n lt) [
      | inl less ↦ (c, less, free, cell)
      | inr same ↦ absurd (taken (subst (IsFree tables s.table s.key) same free))
    ])

pub free_more : (tables : List TableData) (s : Spot) (n : ℕ) (t : List ℕ) (old mid new : List (List ℕ)) → IsFree tables s.table s.key n → table_cell_at tables s.table s.row n ≡ Some t
    → Gains old mid (FreeTo tables s n) → Gains mid new (λ v. v ≡ t) → Gains old new (FreeTo tables s (n + 1))
free_more tables s n t old mid new free cell a b = gains_then old mid new (FreeTo tables s n) (λ v. v ≡ t) (FreeTo tables s (n + 1)) a b
    (λ v (c, lt, open', is). elim (last_of c n lt) [
      | inl less ↦ inl (c, less, open', is)
      | inr same ↦ inr (some_same v t (sym (subst (λ m. table_cell_at tables s.table s.row m ≡ Some v) same is) ∙ cell))
    ])
    (λ v (c, lt, open', is). (c, (omega arith), open', is))
    (λ v e. (n, (omega arith), free, cell ∙ ap Some (sym e)))

pub free_all : (tables : List TableData) (s : Spot) (n width : ℕ) (old new : List (List ℕ)) → width_at tables s.table ≡ Some width → width < n → Gains old new (FreeTo tables s n) → Gains old new (IsFreeCell tables s)
free_all tables s n width old new wide lt = gains_same old new (FreeTo tables s n) (IsFreeCell tables s)
    (λ v (c, less, free, cell). (c, free, cell))
    (λ v (c, free, cell).
    let same : free.1 ≡ width = some_same free.1 width (sym free.3 ∙ wide) in
    let last : c ≤ free.1 = free.5 in
    (c, (omega arith), free, cell))

pub cells_skip : (tables : List TableData) (rows : List ReachedRow) (mark n : ℕ) (d : ReachedRow) (old mid : List (List ℕ)) → (get_or rows n d).depth ≢ mark → Gains old mid (CellsTo tables rows mark n)
    → Gains old mid (CellsTo tables rows mark (n + 1))
cells_skip tables rows mark n d old mid other = gains_same old mid (CellsTo tables rows mark n) (CellsTo tables rows mark (n + 1))
    (λ v (k, r, lt, at, depth, cell). (k, r, (omega arith), at, depth, cell))
    (λ v (k, r, lt, at, depth, cell). elim (last_of k n lt) [
      | inl less ↦ (k, r, less, at, depth, cell)
      | inr same ↦
          let item : get_or rows n d ≡ r = get_or_from_slice_get rows n r d (subst (λ m. slice_get rows m ≡ Some r) same at) in
          absurd (other (ap (λ (z : ReachedRow). z.depth) item ∙ depth))
    ])

pub cells_more : (tables : List TableData) (rows : List ReachedRow) (mark n : ℕ) (d : ReachedRow) (old mid new : List (List ℕ)) → n < length rows → (get_or rows n d).depth ≡ mark
    → Gains old mid (CellsTo tables rows mark n) → Gains mid new (IsFreeCell tables (spot_of (get_or rows n d))) → Gains old new (CellsTo tables rows mark (n + 1))
cells_more tables rows mark n d old mid new within is a b =
    gains_then old mid new (CellsTo tables rows mark n) (IsFreeCell tables (spot_of (get_or rows n d))) (CellsTo tables rows mark (n + 1)) a b
    (λ v (k, r, lt, at, depth, cell). elim (last_of k n lt) [
      | inl less ↦ inl (k, r, less, at, depth, cell)
      | inr same ↦
          let item : get_or rows n d ≡ r = get_or_from_slice_get rows n r d (subst (λ m. slice_get rows m ≡ Some r) same at) in
          inr (subst (λ (z : ReachedRow). IsFreeCell tables (spot_of z) v) (sym item) cell)
    ])
    (λ v (k, r, lt, at, depth, cell). (k, r, (omega arith), at, depth, cell))
    (λ v cell. (n, get_or rows n d, (omega arith), slice_get-get_or rows n d within, is, cell))

pub cells_all : (tables : List TableData) (rows : List ReachedRow) (mark n : ℕ) (old new : List (List ℕ)) → length rows ≤ n → Gains old new (CellsTo tables rows mark n) → Gains old new (IsNewCell tables rows mark)
cells_all tables rows mark n old new le = gains_same old new (CellsTo tables rows mark n) (IsNewCell tables rows mark)
    (λ v (k, r, lt, at, depth, cell). (r, at_contains rows k r at, depth, cell))
    (λ v (r, there, depth, cell). let at = contains_at rows r there in let less = at.1 in (at.0, r, (omega arith), at.2, depth, cell))

-- rows that are put to others
nat_less : (m n : ℕ) → m < n → nat_cmp m n ≡ Less
nat_less m n h = sym (nat_cmp_is m n Less h)

nat_same : (m n : ℕ) → m ≡ n → nat_cmp m n ≡ Equal
nat_same m n h = sym (nat_cmp_is m n Equal h)

before_table : (a b : Spot) → a.table < b.table → spot_cmp a b ≡ Less
before_table a b lt = ap (λ o. ordering_then o (ordering_then (nat_cmp a.key b.key) (nat_cmp a.row b.row))) (nat_less a.table b.table lt)

before_key : (a b : Spot) → a.table ≡ b.table → a.key < b.key → spot_cmp a b ≡ Less
before_key a b same lt =
    ap (λ o. ordering_then o (ordering_then (nat_cmp a.key b.key) (nat_cmp a.row b.row))) (nat_same a.table b.table same)
    ∙ ap (λ o. ordering_then o (nat_cmp a.row b.row)) (nat_less a.key b.key lt)

before_row : (a b : Spot) → a.table ≡ b.table → a.key ≡ b.key → a.row < b.row → spot_cmp a b ≡ Less
before_row a b same keys lt =
    ap (λ o. ordering_then o (ordering_then (nat_cmp a.key b.key) (nat_cmp a.row b.row))) (nat_same a.table b.table same)
    ∙ ap (λ o. ordering_then o (nat_cmp a.row b.row)) (nat_same a.key b.key keys)
    ∙ nat_less a.row b.row lt

pub rows_same : (old new : List ReachedRow) (Q S : Spot → Type 0) → ((s : Spot) → Q s → S s) → ((s : Spot) → S s → Q s) → AddsRows old new Q → AddsRows old new S
rows_same old new Q S f g a = record { adds = adds_same spot_cmp Q S (map spot_of old) (map spot_of new) f g a.adds; unmarked = a.unmarked }

pub rows_then : (old mid new : List ReachedRow) (Q R S : Spot → Type 0) → AddsRows old mid Q → AddsRows mid new R → ((x y : Spot) → Q x → R y → spot_cmp x y ≡ Less)
    → ((s : Spot) → S s → Q s ⊎ R s) → ((s : Spot) → Q s → S s) → ((s : Spot) → R s → S s) → AddsRows old new S
rows_then old mid new Q R S a b less split left right = record {
  adds = adds_then spot_cmp Q R S (map spot_of old) (map spot_of mid) (map spot_of new) a.adds b.adds less split left right;
  unmarked = λ all. b.unmarked (a.unmarked all);
}

pub rows_none : (old : List ReachedRow) (Q : Spot → Type 0) → ((s : Spot) → ¬ (Q s)) → AddsRows old old Q
rows_none old Q none = record { adds = adds_none spot_cmp Q (map spot_of old) none; unmarked = λ all. all }

pub rows_one : (old new : List ReachedRow) (r : ReachedRow) → new ≡ old ++ r ∷ [] → r.depth ≡ 0 → AddsRows old new (λ s. s ≡ spot_of r)
rows_one old new r is none = record {
  adds = adds_one spot_cmp (λ s. s ≡ spot_of r) (map spot_of old) (map spot_of new) (spot_of r) (ap (map spot_of) is ∙ map-append spot_of old (r ∷ [])) refl (λ y e. e);
  unmarked = λ all. subst (All (λ z. z.depth ≡ 0)) (sym is) (All-append (λ z. z.depth ≡ 0) old (r ∷ []) all (All-cons (λ z. z.depth ≡ 0) r [] none (All-nil (λ z. z.depth ≡ 0))));
}

module _ (tables : List TableData) (table key : ℕ) where
  abbrev pub RowsTo : ℕ → Spot → Type 0
  RowsTo n s = (s.table ≡ table) × (s.key ≡ key) × (s.row < n) × IsSpot tables s

  abbrev pub KeysTo : ℕ → Spot → Type 0
  KeysTo n s = (s.table ≡ table) × (s.key < n) × IsSpot tables s

  abbrev pub TablesTo : ℕ → Spot → Type 0
  TablesTo n s = (s.table < n) × IsSpot tables s

  spot_at : ℕ → Spot
  spot_at n = record { table = table; key = key; row = n }

  same_spot : (s : Spot) (n : ℕ) → s.table ≡ table → s.key ≡ key → s.row ≡ n → s ≡ spot_at n
  unfolding spot_at
  same_spot s n a b c =
      ap (λ t. record { table = t; key = s.key; row = s.row }) a ∙ ap (λ k. record { table = table; key = k; row = s.row }) b ∙ ap (λ r. record { table = table; key = key; row = r }) c

  pub row_more : (n : ℕ) (old mid new : List ReachedRow) → IsKeyOf tables table key → HasFree tables table key → 1 ≤ n → n ≤ row_count tables table
      → new ≡ mid ++ record { table = table; key = key; row = n; depth = 0 } ∷ [] → AddsRows old mid (RowsTo n) → AddsRows old new (RowsTo (n + 1))
  unfolding spot_at
  row_more n old mid new keyed free first last is a =
      let r : ReachedRow = record { table = table; key = key; row = n; depth = 0 } in
      rows_then old mid new (RowsTo n) (λ s. s ≡ spot_at n) (RowsTo (n + 1)) a (rows_one mid new r is refl)
      (λ x y q e. subst (λ z. spot_cmp x z ≡ Less) (sym e) (before_row x (spot_at n) q.0 q.1 q.2))
      (λ s (t, k, lt, spot). elim (last_of s.row n lt) [ inl less ↦ inl (t, k, less, spot) | inr same ↦ inr (same_spot s n t k same) ])
      (λ s (t, k, lt, spot). (t, k, (omega arith), spot))
      (λ s e. subst (RowsTo (n + 1)) (sym e) (refl, refl, (omega arith), record { keyed = keyed; first = first; last = last; free = free }))

  pub row_all : (n : ℕ) (old new : List ReachedRow) → row_count tables table < n → AddsRows old new (RowsTo n) → AddsRows old new (λ s. (s.table ≡ table) × (s.key ≡ key) × IsSpot tables s)
  row_all n old new past = rows_same old new (RowsTo n) (λ s. (s.table ≡ table) × (s.key ≡ key) × IsSpot tables s)
      (λ s (t, k, lt, spot). (t, k, spot))
      (λ s (t, k, spot). let last : s.row ≤ row_count tables table = subst (λ m. s.row ≤ row_count tables m) t spot.last in (t, k, (omega arith), spot))

  pub row_none : (old : List ReachedRow) → ¬ (HasFree tables table key) → AddsRows old old (λ s. (s.table ≡ table) × (s.key ≡ key) × IsSpot tables s)
  row_none old none = rows_none old (λ s. (s.table ≡ table) × (s.key ≡ key) × IsSpot tables s)
      (λ s (t, k, spot). none (subst (λ m. HasFree tables m key) t (subst (λ m. HasFree tables s.table m) k spot.free)))

  pub key_more : (old mid new : List ReachedRow) → AddsRows old mid (KeysTo key) → AddsRows mid new (λ s. (s.table ≡ table) × (s.key ≡ key) × IsSpot tables s) → AddsRows old new (KeysTo (key + 1))
  key_more old mid new a b = rows_then old mid new (KeysTo key) (λ s. (s.table ≡ table) × (s.key ≡ key) × IsSpot tables s) (KeysTo (key + 1)) a b
      (λ x y (t, lt, spot) (u, k, other). before_key x y (t ∙ sym u) (omega arith))
      (λ s (t, lt, spot). elim (last_of s.key key lt) [ inl less ↦ inl (t, less, spot) | inr same ↦ inr (t, same, spot) ])
      (λ s (t, lt, spot). (t, (omega arith), spot))
      (λ s (t, k, spot). (t, (omega arith), spot))

  pub key_all : (n : ℕ) (old new : List ReachedRow) → key_count tables table < n → AddsRows old new (KeysTo n) → AddsRows old new (λ s. (s.table ≡ table) × IsSpot tables s)
  key_all n old new past = rows_same old new (KeysTo n) (λ s. (s.table ≡ table) × IsSpot tables s)
      (λ s (t, lt, spot). (t, spot))
      (λ s (t, spot). let last : s.key ≤ key_count tables table = subst (λ m. s.key ≤ key_count tables m) t spot.keyed.last_key in (t, (omega arith), spot))

  pub table_more : (old mid new : List ReachedRow) → AddsRows old mid (TablesTo table) → AddsRows mid new (λ s. (s.table ≡ table) × IsSpot tables s) → AddsRows old new (TablesTo (table + 1))
  table_more old mid new a b = rows_then old mid new (TablesTo table) (λ s. (s.table ≡ table) × IsSpot tables s) (TablesTo (table + 1)) a b
      (λ x y (lt, spot) (t, other). before_table x y (omega arith))
      (λ s (lt, spot). elim (last_of s.table table lt) [ inl less ↦ inl (less, spot) | inr same ↦ inr (same, spot) ])
      (λ s (lt, spot). ((omega arith), spot))
      (λ s (t, spot). ((omega arith), spot))

  pub table_all : (n : ℕ) (old new : List ReachedRow) → length tables < n → AddsRows old new (TablesTo n) → AddsRows old new (IsSpot tables)
  table_all n old new past = rows_same old new (TablesTo n) (IsSpot tables) (λ s (lt, spot). spot) (λ s spot. let last = spot.keyed.last in ((omega arith), spot))

pub all_spots : (tables : List TableData) (old new : List ReachedRow) → old ≡ [] → AddsRows old new (IsSpot tables) → Lists spot_cmp (IsSpot tables) (map spot_of new)
all_spots tables old new is a = adds_all spot_cmp (IsSpot tables) (map spot_of old) (map spot_of new) (ap (map spot_of) is) a.adds

pub all_unmarked : (old new : List ReachedRow) (Q : Spot → Type 0) → old ≡ [] → AddsRows old new Q → All (λ r. r.depth ≡ 0) new
all_unmarked old new Q is a = a.unmarked (subst (All (λ r. r.depth ≡ 0)) (sym is) (All-nil (λ r. r.depth ≡ 0)))

-- none of the first items, and none of them all
some_more : {A : Type 0} (f : A → List ℕ) (cell : List ℕ) (xs : List A) (n : ℕ) (d : A) → ¬ (IsPieceOf cell (f (get_or xs n d))) → n < length xs
    → ((k : ℕ) (u : List ℕ) → k < n → slice_get (map f xs) k ≡ Some u → ¬ (IsPieceOf cell u)) → (k : ℕ) (u : List ℕ) → k < n + 1 → slice_get (map f xs) k ≡ Some u → ¬ (IsPieceOf cell u)
some_more f cell xs n d none within before k u lt at = elim (last_of k n lt) [
  | inl less ↦ before k u less at
  | inr same ↦
      let here : slice_get (map f xs) n ≡ Some (f (get_or xs n d)) = slice_get-map f xs n ∙ ap (option_map f) (slice_get-get_or xs n d within) in
      let item : f (get_or xs n d) ≡ u = some_same (f (get_or xs n d)) u (sym here ∙ subst (λ m. slice_get (map f xs) m ≡ Some u) same at) in
      subst (λ v. ¬ (IsPieceOf cell v)) item none
]

pub some_more_by : {A : Type 0} (f : A → List ℕ) (cell same : List ℕ) (xs : List A) (n : ℕ) (d : A) (r : Bool) → (IsTrue r ↔ IsPieceOf same (f (get_or xs n d))) → r ≡ false → same ≡ cell → n < length xs
    → ((k : ℕ) (u : List ℕ) → k < n → slice_get (map f xs) k ≡ Some u → ¬ (IsPieceOf cell u)) → (k : ℕ) (u : List ℕ) → k < n + 1 → slice_get (map f xs) k ≡ Some u → ¬ (IsPieceOf cell u)
some_more_by f cell same xs n d r is none e = some_more f cell xs n d (λ piece. let holds = is.1 (subst (λ c. IsPieceOf c (f (get_or xs n d))) (sym e) piece) in cc)

pub some_none : {A : Type 0} (f : A → List ℕ) (cell : List ℕ) (xs : List A) (n : ℕ) → length xs ≤ n → ((k : ℕ) (u : List ℕ) → k < n → slice_get (map f xs) k ≡ Some u → ¬ (IsPieceOf cell u))
    → ¬ (IsPieceOfSome (Contains (map f xs)) cell)
some_none f cell xs n le none (u, there, piece) =
    let at = contains_at (map f xs) u there in
    let size = length-map xs f in
    let less = at.1 in
    none at.0 u (omega arith) at.2 piece

pub taken_more : (tables : List TableData) (table key n : ℕ) → ¬ (IsFree tables table key n) → ((c : ℕ) → 1 ≤ c → c < n → ¬ (IsFree tables table key c)) → (c : ℕ) → 1 ≤ c → c < n + 1 → ¬ (IsFree tables table key c)
taken_more tables table key n taken before c first lt = elim (last_of c n lt) [ inl less ↦ before c first less | inr same ↦ subst (λ m. ¬ (IsFree tables table key m)) (sym same) taken ]

pub taken_all : (tables : List TableData) (table key n width : ℕ) → width_at tables table ≡ Some width → width < n → ((c : ℕ) → 1 ≤ c → c < n → ¬ (IsFree tables table key c)) → ¬ (HasFree tables table key)
taken_all tables table key n width wide lt taken (c, free) =
    let same : free.1 ≡ width = some_same free.1 width (sym free.3 ∙ wide) in
    let last : c ≤ free.1 = free.5 in
    taken c free.4 (omega arith) free

-- a row that is written at its place
pub marked_more : (P : ReachedRow → ReachedRow → Type 0) (old rows : List ReachedRow) (n : ℕ) (d x : ReachedRow) → n < length old → length rows ≡ length old → P (get_or rows n d) x
    → ((k : ℕ) (r : ReachedRow) → k < n → P (get_or old k r) (get_or rows k r)) → ((k : ℕ) (r : ReachedRow) → n ≤ k → get_or rows k r ≡ get_or old k r)
    → (k : ℕ) (r : ReachedRow) → k < n + 1 → P (get_or old k r) (get_or (set rows n x) k r)
marked_more P old rows n d x within size here done left k r lt = elim (last_of k n lt) [
  | inl less ↦ subst (P (get_or old k r)) (sym (get_or-set_other rows n k x r (omega arith))) (done k r less)
  | inr same ↦
      let written : get_or (set rows n x) n r ≡ x = get_or-set_same rows n x r (omega arith) in
      let item : get_or rows n d ≡ get_or old n r = get_or_default rows n d r (omega arith) ∙ left n r (omega arith) in
      subst (λ m. P (get_or old m r) (get_or (set rows n x) m r)) (sym same) (subst (λ z. P z (get_or (set rows n x) n r)) item (subst (P (get_or rows n d)) (sym written) here))
]

pub left_more : (old rows : List ReachedRow) (n : ℕ) (x : ReachedRow) → ((k : ℕ) (r : ReachedRow) → n ≤ k → get_or rows k r ≡ get_or old k r)
    → (k : ℕ) (r : ReachedRow) → n + 1 ≤ k → get_or (set rows n x) k r ≡ get_or old k r
left_more old rows n x left k r le = get_or-set_other rows n k x r (omega arith) ∙ left k r (omega arith)

pub none_more : (text cell : List ℕ) (n : ℕ) → slice_range text n (n + length cell) ≢ cell → ((a : ℕ) → a < n → slice_range text a (a + length cell) ≢ cell)
    → (a : ℕ) → a < n + 1 → slice_range text a (a + length cell) ≢ cell
none_more text cell n here before a lt = elim (last_of a n lt) [ inl less ↦ before a less | inr same ↦ subst (λ m. slice_range text m (m + length cell) ≢ cell) (sym same) here ]

-- a text that is there already
pub gains_there : (old : List (List ℕ)) (t u : List ℕ) → u ≡ t → Contains old u → Gains old old (λ v. v ≡ t)
gains_there old t u e there = record {
  exact = λ v. ((λ c. inl c), (λ h. elim h [ inl o ↦ o | inr same ↦ subst (λ w. Contains old w) (e ∙ sym same) there ]));
  short = λ all. all;
}

-- an item that is read by its number, and stands for the text
pub stands_there : (xs : List (Bor (List ℕ))) (k : ℕ) (d : Bor (List ℕ)) (t : List ℕ) → k < length xs → (get_or xs k d).now ≡ t → Contains (map (λ x. x.now) xs) t
stands_there xs k d t lt e =
    let at = slice_get-get_or xs k d lt in
    at_contains (map (λ x. x.now) xs) k t (slice_get-map (λ x. x.now) xs k ∙ ap (option_map (λ (x : Bor (List ℕ)). x.now)) at ∙ ap Some e)
