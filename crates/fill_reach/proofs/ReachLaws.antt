-- Which rows are reached by a depth: those with a key cell that is a piece of a text known by a lesser one.
use Rattle.std.proofs.Common.{◌≡◌, ◌≢◌, ◌⊎◌, ℕ, zero, suc, ◌+◌, ◌-◌, ◌<◌, ◌≤◌, ◌^◌, max, List, [], ◌∷◌, length, map, get_or, pos, Some, All, Contains, inl, inr, refl, sym, ap, subst, ◌∙◌, arith}
use Rattle.std.specs.Char.{IsScalar}
use Rattle.std.proofs.lemmas.List.{take_all, get_or_default}
use Rattle.fill_text.specs.Data.{SheetData, TableData, nth, key_at, table_row_at}
use Rattle.fill_tables.specs.Keys.{IsKeyedRow}
use Rattle.fill_tables.specs.Tables.{AreTables, IsTable}
use Rattle.fill_tokens.specs.TokenSet.{IsPlaceOf}
use Rattle.fill_tokens.specs.declared.place.Place.TheVariants.{CPos}
use Rattle.fill_tokens.proofs.ValueLaws.{value_within}
use Rattle.fill_tree.specs.Tree.{SourceTree, AtomTree, Atoms, col, select, constant, whole, sub, end, more}
use Rattle.fill_tree.specs.Grammar.{AreConditions, AreNumbersOf, HasPart, IsCondition, IsPart, IsSource, atom_depth, greatest_depth, number_of_atoms, source_depth}
use Rattle.fill_tree.specs.Value.{ConditionIs, ConditionsAre, SourceIs}
use Rattle.fill_tree.specs.declared.user.Settings.{Settings}
use Rattle.fill_reach.specs.Marks.{IsKnownBy, IsReachedBy}
use Rattle.fill_reach.specs.Spots.{Spot, IsFree, IsFreeCell, IsInputCell, IsKeyCell, IsPieceOf, IsPieceOfSome, IsShort, IsSpot, KeepScalars, Touches}
use Rattle.fill_reach.proofs.CellLaws.{some_same, nth_at, nth_all, nth_within, keys_of, rows_of, width_of, row_read, key_table, row_table, cell_of, read_there, read_back, all_read, same_length, key_column, row_full}

-- a whole text that is not empty is a piece of itself
whole_piece : (v : List ℕ) → v ≢ [] → IsPieceOf v v
whole_piece v full =
    let some : 0 < length v = elim v as (λ u. u ≢ [] → 0 < length u) [ [] ↦ λ f. absurd (f refl) | x ∷ xs ↦ λ f. omega arith ] full in
    (0, length v, some, (omega arith), sym (take_all (length v - 0) v (omega arith)))

-- the numbers of a lookup leave its column free, and any free column can stand in its place
free_of : (tables : List TableData) (column table key size : ℕ) → AreNumbersOf tables column table key size → IsFree tables table key column
free_of tables column table key size h = (h.0, h.1, h.2, h.3, h.5, h.6, h.7)

numbers_from : (tables : List TableData) (column table key size : ℕ) (columns : List ℕ) → AreTables tables → key_at tables table key ≡ Some columns → length columns ≡ size
    → IsFree tables table key column → AreNumbersOf tables column table key size
numbers_from tables column table key size columns are is sized free =
    let same : columns ≡ free.0 = some_same columns free.0 (sym is ∙ free.2) in
    let found = key_table tables table key free.0 free.2 in
    let t : TableData = found.0 in
    let wide : free.1 ≡ t.width = some_same free.1 t.width (sym free.3 ∙ width_of tables table t found.1) in
    let proper : IsTable t = nth_all IsTable tables table t are.proper found.1 in
    let narrow : t.width ≤ 1000 = proper.narrow in
    let few : length t.keys ≤ 4 = proper.few in
    let tables_few : length tables ≤ 8 = are.few in
    let table_in = nth_within tables table t found.1 in
    let key_in = nth_within t.keys key free.0 found.2 in
    let table_last : table ≤ length tables = table_in.1 in
    let key_last : key ≤ length t.keys = key_in.1 in
    let last : column ≤ free.1 = free.5 in
    (free.0, free.1, free.2, free.3, subst (λ cs. length cs ≡ size) same sized, free.4, free.5, free.6, (omega arith), (omega arith), (omega arith))

-- an item is where it is read
refl_at : {A : Type 0} (xs : List A) (k : ℕ) (d : A) → k < length xs → get_or xs k (get_or xs k d) ≡ get_or xs k d
refl_at xs k d l = get_or_default xs k (get_or xs k d) d l

-- the texts of key cells are as the key cells
texts_scalars : (tables : List TableData) (s : Spot) (columns : List ℕ) (cells texts : List (List ℕ)) → key_at tables s.table s.key ≡ Some columns → table_row_at tables s.table s.row ≡ Some cells
    → map (nth cells) columns ≡ map Some texts → KeepScalars tables s → All (All IsScalar) texts
texts_scalars tables s columns cells texts key_is row_is same scalars k e l =
    let x = get_or texts k e in
    let at = read_back (nth cells) columns texts x same (k, l, refl_at texts k e l) in
    scalars x (columns, at.0, key_is, at.1, cell_of tables s.table s.row at.0 cells row_is ∙ at.2)

module _ (settings : Settings) (sheet : SheetData) (tables : List TableData) (row : ℕ) where
  pub reached_deeper : (d e : ℕ) (s : Spot) → d ≤ e → IsReachedBy settings sheet tables row d s → IsReachedBy settings sheet tables row e s
  reached_deeper d e s le h = record { column = h.column; conditions = h.conditions; source = h.source; shallow = (let f = h.shallow in omega arith); picks = h.picks }

  -- no lookup has the depth 0
  pub reached_not_zero : (s : Spot) → IsReachedBy settings sheet tables row 0 s → ⊥
  reached_not_zero s h = let f : 1 + greatest_depth h.conditions ≤ 0 = h.shallow in omega arith

  -- a text is known where it is an input's cell, or the cell of a row that is reached in a free column
  pub known_input : (d : ℕ) (v : List ℕ) → IsInputCell sheet row v → IsKnownBy settings sheet tables row d v
  known_input d v h = record { tree = col h.0; source = (h.1, h.2); shallow = omega arith; value = h.3 }

  pub known_cell : (d : ℕ) (s : Spot) (v : List ℕ) → AreTables tables → IsReachedBy settings sheet tables row d s → IsFreeCell tables s v → IsKnownBy settings sheet tables row d v
  known_cell d s v are h (column, free, cell) = record {
    tree = select column s.table s.key h.conditions;
    source = (numbers_from tables column s.table s.key (number_of_atoms h.conditions) h.source.0.0 are h.source.0.2 h.source.0.4 free, h.source.1, h.source.2);
    shallow = h.shallow;
    value = (h.picks.0, s.row, h.picks.1, h.picks.2, cell);
  }

  known_split : (d : ℕ) (v : List ℕ) (t : SourceTree) → IsSource settings sheet tables t → source_depth t ≤ d → SourceIs sheet tables row t v
      → IsInputCell sheet row v ⊎ ((s : Spot) × IsReachedBy settings sheet tables row d s × IsFreeCell tables s v)
  known_split d v (col c) is le value = inl (c, is.0, is.1, value)
  known_split d v (select column table key conditions) is le (texts, found, conditions_are, keyed, cell) = inr (
    record { table = table; key = key; row = found },
    record { column = column; conditions = conditions; source = is; shallow = le; picks = (texts, conditions_are, keyed) },
    (column, free_of tables column table key (number_of_atoms conditions) is.0, cell),
  )

  pub known_cases : (d : ℕ) (v : List ℕ) → IsKnownBy settings sheet tables row d v → IsInputCell sheet row v ⊎ ((s : Spot) × IsReachedBy settings sheet tables row d s × IsFreeCell tables s v)
  known_cases d v h = known_split d v h.tree h.source h.shallow h.value

  -- a condition that is no constant is a piece of a known text
  part_piece : (d : ℕ) (a : AtomTree) (v : List ℕ) → IsPart a → IsCondition settings sheet tables a → atom_depth a ≤ d → ConditionIs sheet tables row a v → IsPieceOfSome (IsKnownBy settings sheet tables row d) v
  part_piece d (constant t) v part is le value = absurd part
  part_piece d (whole s) v part is le value = (v, record { tree = s; source = is; shallow = le; value = value.0 }, whole_piece v value.1)
  part_piece d (sub s p q) v part is le (t, a, b, source, left, right, lt, same) = (
    t,
    record { tree = s; source = is.0; shallow = le; value = source },
    (a, b, lt, value_within q t b right, same),
  )

  parts_piece : (d : ℕ) (cs : Atoms) (texts : List (List ℕ)) → HasPart cs → AreConditions settings sheet tables cs → greatest_depth cs ≤ d → ConditionsAre sheet tables row cs texts
      → (v : List ℕ) × Contains texts v × IsPieceOfSome (IsKnownBy settings sheet tables row d) v
  parts_piece d end texts part is le value = absurd part
  parts_piece d (more a rest) [] part is le value = absurd value
  parts_piece d (more a rest) (v ∷ vs) part is le value =
      let deep : max (atom_depth a) (greatest_depth rest) ≤ d = le in
      elim part [
        | inl here ↦ (v, (zero, (omega arith), refl), part_piece d a v here is.0 (omega arith) value.0)
        | inr there ↦
            let found = parts_piece d rest vs there is.1 (omega arith) value.1 in
            let less = found.1.1 in
            (found.0, (suc found.1.0, (omega arith), found.1.2), found.2)
      ]

  -- what is reached has a key cell that is a piece of a known text
  pub reached_touches : (d : ℕ) (s : Spot) → IsReachedBy settings sheet tables row (suc d) s → Touches (IsKnownBy settings sheet tables row d) tables s
  reached_touches d s h =
      let deep : 1 + greatest_depth h.conditions ≤ suc d = h.shallow in
      let texts : List (List ℕ) = h.picks.0 in
      let keyed : IsKeyedRow tables s.table s.key texts s.row = h.picks.2 in
      let found = parts_piece d h.conditions texts h.source.1 h.source.2 (omega arith) h.picks.1 in
      let at = read_back (nth keyed.1) keyed.0 texts found.0 keyed.4 found.1 in
      (found.0, (keyed.0, at.0, keyed.2, at.1, cell_of tables s.table s.row at.0 keyed.1 keyed.3 ∙ at.2), found.2)

  pub reached_spot : (d : ℕ) (s : Spot) → IsReachedBy settings sheet tables row d s → IsSpot tables s
  reached_spot d s h =
      let texts : List (List ℕ) = h.picks.0 in
      let keyed : IsKeyedRow tables s.table s.key texts s.row = h.picks.2 in
      let k = key_table tables s.table s.key keyed.0 keyed.2 in
      let r = row_table tables s.table s.row keyed.1 keyed.3 in
      let table_in = nth_within tables s.table k.0 k.1 in
      let key_in = nth_within k.0.keys s.key keyed.0 k.2 in
      let row_in = nth_within r.0.rows s.row keyed.1 r.2 in
      let keys = keys_of tables s.table k.0 k.1 in
      let rows = rows_of tables s.table r.0 r.1 in
      record {
        keyed = record { first = table_in.0; last = table_in.1; first_key = key_in.0; last_key = (let le = key_in.1 in omega arith) };
        first = row_in.0;
        last = (let le = row_in.1 in omega arith);
        free = (h.column, free_of tables h.column s.table s.key (number_of_atoms h.conditions) h.source.0);
      }

  -- conditions of these texts: one that is no constant, and constants
  abbrev constants : List (List ℕ) → Atoms
  constants [] = end
  constants (t ∷ ts) = more (constant t) (constants ts)

  constants_are : (texts : List (List ℕ)) → All (All IsScalar) texts → AreConditions settings sheet tables (constants texts) × ConditionsAre sheet tables row (constants texts) texts
      × (number_of_atoms (constants texts) ≡ length texts) × (greatest_depth (constants texts) ≡ 0)
  constants_are [] all = (tt, refl, refl, refl)
  constants_are (t ∷ ts) all =
      let rest = constants_are ts (λ k d l. all (suc k) d (omega arith)) in
      let here : All IsScalar t = all zero t (omega arith) in
      let number : number_of_atoms (constants ts) ≡ length ts = rest.2 in
      let depth : greatest_depth (constants ts) ≡ 0 = rest.3 in
      ((here, rest.0), (refl, rest.1), ap suc number, (omega arith))

  record Conditions (d : ℕ) (texts : List (List ℕ)) : Type 0 where
    conditions : Atoms
    part : HasPart conditions
    proper : AreConditions settings sheet tables conditions
    values : ConditionsAre sheet tables row conditions texts
    number : number_of_atoms conditions ≡ length texts
    shallow : greatest_depth conditions ≤ d

  conditions_by : (d : ℕ) (a : AtomTree) (v : List ℕ) (texts : List (List ℕ)) → IsPart a → IsCondition settings sheet tables a → atom_depth a ≤ d → ConditionIs sheet tables row a v
      → All (All IsScalar) texts → Contains texts v → Conditions d texts
  conditions_by d a v [] part is le value all c = absurd (let lt = c.1 in omega arith)
  conditions_by d a v (t ∷ ts) part is le value all (zero, lt, e) =
      let rest = constants_are ts (λ k d l. all (suc k) d (omega arith)) in
      let here : v ≡ t = sym e in
      let depth : greatest_depth (constants ts) ≡ 0 = rest.3 in
      record {
        conditions = more a (constants ts);
        part = inl part;
        proper = (is, rest.0);
        values = (subst (ConditionIs sheet tables row a) here value, rest.1);
        number = ap suc rest.2;
        shallow = omega arith;
      }
  conditions_by d a v (t ∷ ts) part is le value all (suc i, lt, e) =
      let rest = conditions_by d a v ts part is le value (λ k d l. all (suc k) d (omega arith)) (i, (omega arith), e) in
      let here : All IsScalar t = all zero t (omega arith) in
      let deep = rest.shallow in
      record {
        conditions = more (constant t) rest.conditions;
        part = inr rest.part;
        proper = (here, rest.proper);
        values = (refl, rest.values);
        number = ap suc rest.number;
        shallow = omega arith;
      }

  -- the place of a position that has 32 bits
  place_is : (a : ℕ) → a < 2 ^ 31 → IsPlaceOf settings.profile.tokens (CPos (pos a))
  place_is a lt = (grind arith, tt)

  -- a lookup by these conditions picks the row that has their texts
  reached_from : (d : ℕ) (s : Spot) (columns : List ℕ) (cells texts : List (List ℕ)) → AreTables tables → IsSpot tables s → key_at tables s.table s.key ≡ Some columns
      → table_row_at tables s.table s.row ≡ Some cells → map (nth cells) columns ≡ map Some texts → Conditions d texts → IsReachedBy settings sheet tables row (suc d) s
  reached_from d s columns cells texts are spot key_is row_is same made =
      let size : length columns ≡ number_of_atoms made.conditions = same_length (nth cells) columns texts same ∙ sym made.number in
      let free = spot.free in
      let deep = made.shallow in
      record {
        column = free.0;
        conditions = made.conditions;
        source = (numbers_from tables free.0 s.table s.key (number_of_atoms made.conditions) columns are key_is size free.1, made.part, made.proper);
        shallow = omega arith;
        picks = (texts, made.values, (columns, cells, key_is, row_is, same));
      }

  -- a row of the tables with a key cell that is a piece of a known short text is reached
  pub touches_reached : (d : ℕ) (s : Spot) (v u : List ℕ) → AreTables tables → IsSpot tables s → KeepScalars tables s → IsKeyCell tables s v
      → IsKnownBy settings sheet tables row d u → IsShort u → IsPieceOf v u → IsReachedBy settings sheet tables row (suc d) s
  touches_reached d s v u are spot scalars (columns, column, key_is, there, cell) known short (a, b, lt, le, piece) =
      let t = nth_at tables s.table spot.keyed.first spot.keyed.last in
      let rows = rows_of tables s.table t.0 t.1 in
      let last = spot.last in
      let r = nth_at t.0.rows s.row spot.first (omega arith) in
      let cells : List (List ℕ) = r.0 in
      let row_is : table_row_at tables s.table s.row ≡ Some cells = row_read tables s.table s.row t.0 cells t.1 r.1 in
      let full : length cells ≡ t.0.width = row_full tables s.table s.row t.0 cells are t.1 r.1 in
      let each : All (λ c. (y : List ℕ) × (nth cells c ≡ Some y)) columns = λ k e l.
      let c = get_or columns k e in
      let at = key_column tables s.table s.key c columns are key_is (k, l, refl_at columns k e l) in
      let same : at.0 ≡ t.0 = some_same at.0 t.0 (sym at.1 ∙ t.1) in
      let wide : c ≤ t.0.width = subst (λ (x : TableData). c ≤ x.width) same at.3 in
      nth_at cells c at.2 (omega arith)
      in
      let texts = all_read (nth cells) columns each in
      let has : Contains texts.0 v = read_there (nth cells) columns texts.0 column v texts.1 there (sym (cell_of tables s.table s.row column cells row_is) ∙ cell) in
      let all : All (All IsScalar) texts.0 = texts_scalars tables s columns cells texts.0 key_is row_is texts.1 scalars in
      let made = conditions_by d (sub known.tree (CPos (pos a)) (CPos (pos b))) v texts.0 tt
      (known.source, place_is a (omega arith), place_is b (omega arith)) known.shallow
      (u, a, b, known.value, ((omega arith), refl), (le, refl), lt, piece) all has
      in
      reached_from d s columns cells texts.0 are spot key_is row_is texts.1 made
