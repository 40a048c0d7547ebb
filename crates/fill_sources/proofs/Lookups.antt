-- The sources that read a row of a table, and the items that stand for them.
use Rattle.std.proofs.Common.{◌≡◌, ◌↔◌, ℕ, zero, suc, ◌+◌, ◌<◌, ◌≤◌, max, List, [], ◌∷◌, ◌++◌, length, map, All, Option, None, Some, IfSome, refl, sym, ap, ◌∙◌, subst, arith}
use Rattle.std.specs.Char.{IsScalar}
use Rattle.fill_text.specs.Data.{SheetData, TableData, nth, key_at, table_cell_at}
use Rattle.fill_tables.specs.Keys.{AreKeyColumns, IsKey, IsKeyedRow}
use Rattle.fill_tables.specs.Tables.{AreTables, IsTable}
use Rattle.fill_tokens.specs.TokenSet.{IsPlaceOf}
use Rattle.fill_tree.specs.Tree.{SourceTree, AtomTree, Atoms, col, select, constant, whole, sub, end, more}
use Rattle.fill_tree.specs.Grammar as grammar
use Rattle.fill_tree.specs.Grammar.{AreNumbersOf, AreSettings, HasPart, IsSource, atom_depth, greatest_depth, number_of_atoms, source_depth}
use Rattle.fill_tree.specs.Value.{ConditionIs, ConditionsAre}
use Rattle.fill_tree.specs.declared.user.Settings.{Settings}
use Rattle.fill_arena.specs.Contents.{EachIn, Extends}
use Rattle.fill_arena.specs.Stands.{AtomFits, AtomStands, ConditionFits, ConditionsFit, SourceFits}
use Rattle.fill_arena.specs.WellMade.{IsConditionItem, IsSourceItem, OlderAtoms}
use Rattle.fill_arena.specs.declared.entry.ConditionItem.{ConditionItem}
use Rattle.fill_arena.specs.declared.entry.Entry.{Entry}
use Rattle.fill_arena.specs.declared.entry.Entry.TheVariants as kind
use Rattle.fill_arena.proofs.Lists.{extends_on}
use Rattle.std.proofs.lemmas.Option.{slice_get_within}
use Rattle.fill_arena.specs.declared.entry.SelectItem.{SelectItem}
use Rattle.fill_arena.specs.declared.entry.SourceItem.TheVariants as item
use Rattle.fill_reach.specs.Reach.{IsReached, IsReachedAt, Picks}
use Rattle.fill_reach.specs.Spots.{IsFree}
use Rattle.fill_reach.specs.declared.rows.ReachedRow.{ReachedRow}
use Rattle.fill_reach.proofs.CellLaws.{some_same, nth_all, nth_within, width_of, key_table, same_length}
use Rattle.fill_sources.specs.Gives.{ArePartsIn, Gives, PartGives, at_depth}
use Rattle.fill_sources.specs.Sets.{AreConditions, AreKeyCells, IsCondition, Reads}
use Rattle.fill_sources.specs.declared.texts.Origin.TheVariants.{Cell}
use Rattle.fill_sources.specs.declared.row.OnRow.{OnRow}

-- the grammar of sources asks nothing of settings but their profile
module _ (settings other : Settings) (same : other.profile.tokens ≡ settings.profile.tokens) (sheet : SheetData) (tables : List TableData) where
  mutual
    pub source_under : (x : SourceTree) → IsSource settings sheet tables x → IsSource other sheet tables x
    source_under (col c) h = h
    source_under (select column table key conditions) h = (h.0, h.1, conditions_under conditions h.2)

    pub condition_under : (a : AtomTree) → grammar.IsCondition settings sheet tables a → grammar.IsCondition other sheet tables a
    condition_under (constant t) h = h
    condition_under (whole x) h = source_under x h
    condition_under (sub x p q) h =
        (source_under x h.0, subst (λ n. IsPlaceOf n p) (sym same) h.1, subst (λ n. IsPlaceOf n q) (sym same) h.2)

    pub conditions_under : (cs : Atoms) → grammar.AreConditions settings sheet tables cs → grammar.AreConditions other sheet tables cs
    conditions_under end h = h
    conditions_under (more a rest) h = (condition_under a h.0, conditions_under rest h.1)

-- the numbers of a lookup leave its column free, and any free column can stand in its place
pub free_of : (tables : List TableData) (column table key size : ℕ) → AreNumbersOf tables column table key size → IsFree tables table key column
free_of tables column table key size h = (h.0, h.1, h.2, h.3, h.5, h.6, h.7)

pub numbers_from : (tables : List TableData) (column table key size : ℕ) (columns : List ℕ) → AreTables tables → key_at tables table key ≡ Some columns → length columns ≡ size
    → IsFree tables table key column → AreNumbersOf tables column table key size
numbers_from tables column table key size columns are is sized free =
    let same : columns ≡ free.0 = some_same columns free.0 (sym is ∙ free.2) in
    let found = key_table tables table key free.0 free.2 in
    let t : TableData = found.0 in
    let wide : free.1 ≡ t.width = some_same free.1 t.width (sym free.3 ∙ width_of tables table t found.1) in
    let proper : IsTable t = nth_all IsTable tables table t are.proper found.1 in
    let narrow : t.width ≤ 1000 = proper.narrow in
    let few : length t.keys ≤ 4 = proper.few in
    let tables_few : length tables ≤ 8 = are.few in
    let table_in = nth_within tables table t found.1 in
    let key_in = nth_within t.keys key free.0 found.2 in
    let table_last : table ≤ length tables = table_in.1 in
    let key_last : key ≤ length t.keys = key_in.1 in
    let last : column ≤ free.1 = free.5 in
    (free.0, free.1, free.2, free.3, subst (λ cs. length cs ≡ size) same sized, free.4, free.5, free.6, (omega arith), (omega arith), (omega arith))

-- a key has one to three columns
pub key_columns : (tables : List TableData) (table key : ℕ) (columns : List ℕ) → AreTables tables → key_at tables table key ≡ Some columns → AreKeyColumns columns
key_columns tables table key columns are is =
    let found = key_table tables table key columns is in
    let t : TableData = found.0 in
    let proper : IsTable t = nth_all IsTable tables table t are.proper found.1 in
    (nth_all (IsKey t.width t.rows) t.keys key columns proper.keyed found.2).are

-- a condition that is no constant stands in its item where it is a part that gives the cell
part_of : (on : OnRow) (d : List Entry) (cell : List ℕ) (o : Option ℕ) → ArePartsIn on d cell o → (a : AtomTree) → ((s : ℕ) × (o ≡ Some s) × AtomStands d s a) ↔ PartGives on cell a
part_of on d cell None h a = (λ f. absurd (let e = f.1 in cc), λ g. absurd (h a g))
part_of on d cell (Some s) h a = (
  λ f. let e : s ≡ f.0 = some_same s f.0 f.1 in (h.1 a).0 (subst (λ n. AtomStands d n a) (sym e) f.2),
  λ g. (s, refl, (h.1 a).1 g),
)

-- the condition gives the cell, and is one of the grammar
abbrev pub ConditionGives : OnRow → List ℕ → AtomTree → Type 0
ConditionGives on cell a = grammar.IsCondition on.settings on.sheet.now on.tables.now a × (atom_depth a ≤ on.settings.depth) × ConditionIs on.sheet.now on.tables.now on.row a cell

module _ (on : OnRow) (c d : List Entry) (o : Extends c d) where
  fits_one : (a : AtomTree) (cell : List ℕ) (i : ConditionItem) → IsCondition on c cell i → ConditionFits a d i (AtomFits a d) ↔ ConditionGives on cell a
  fits_one (constant t) cell i h = (
    λ f. let e : cell ≡ t = some_same cell t (sym h.constant ∙ f) in (subst (All IsScalar) e h.scalars, omega arith, e),
    λ g. h.constant ∙ ap Some g.2,
  )
  fits_one (whole x) cell i h =
      let both = part_of on d cell i.atoms (h.parts d o) (whole x) in (
        λ f. let g = both.0 f in (g.condition, g.shallow, g.value),
        λ g. both.1 (record { part = tt; condition = g.0; shallow = g.1; value = g.2 }),
      )
  fits_one (sub x p q) cell i h =
      let both = part_of on d cell i.atoms (h.parts d o) (sub x p q) in (
        λ f. let g = both.0 f in (g.condition, g.shallow, g.value),
        λ g. both.1 (record { part = tt; condition = g.0; shallow = g.1; value = g.2 }),
      )

  -- the conditions give the cells, and are of the grammar
  pub fits_all : (cs : Atoms) (cells : List (List ℕ)) (items : List ConditionItem) → AreConditions on c cells items →
      ConditionsFit cs d items ↔ (grammar.AreConditions on.settings on.sheet.now on.tables.now cs × (greatest_depth cs ≤ on.settings.depth) × ConditionsAre on.sheet.now on.tables.now on.row cs cells)
  fits_all end [] [] h = (λ f. (tt, omega arith, refl), λ g. tt)
  fits_all end [] (i ∷ is) h = absurd h
  fits_all end (cell ∷ cells) [] h = absurd h
  fits_all end (cell ∷ cells) (i ∷ is) h = (λ f. absurd f, λ g. absurd (let e = g.2 in cc))
  fits_all (more a rest) [] [] h = (λ f. absurd f, λ g. absurd g.2)
  fits_all (more a rest) [] (i ∷ is) h = absurd h
  fits_all (more a rest) (cell ∷ cells) [] h = absurd h
  fits_all (more a rest) (cell ∷ cells) (i ∷ is) h =
      let one = fits_one a cell i h.0 in
      let others = fits_all rest cells is h.1 in (
        λ f.
            let p = one.0 f.0 in
            let q = others.0 f.1 in
            let ps = p.1 in
            let qs = q.1 in
            ((p.0, q.0), omega arith, (p.2, q.2)),
        λ g.
            let deep : max (atom_depth a) (greatest_depth rest) ≤ on.settings.depth = g.1 in
            (one.1 (g.0.0, omega arith, g.2.0), others.1 (g.0.1, omega arith, g.2.1)),
      )

-- as many conditions as cells
pub conditions_count : (on : OnRow) (cs : Atoms) (cells : List (List ℕ)) → ConditionsAre on.sheet.now on.tables.now on.row cs cells → number_of_atoms cs ≡ length cells
conditions_count on end cells h = ap length (sym h)
conditions_count on (more a rest) [] h = absurd h
conditions_count on (more a rest) (cell ∷ cells) h = let e = conditions_count on rest cells h.1 in omega arith

pub items_count : (on : OnRow) (c : List Entry) (cells : List (List ℕ)) (items : List ConditionItem) → AreConditions on c cells items → length items ≡ length cells
items_count on c [] [] h = refl
items_count on c [] (i ∷ is) h = absurd h
items_count on c (cell ∷ cells) [] h = absurd h
items_count on c (cell ∷ cells) (i ∷ is) h = let e = items_count on c cells is h.1 in omega arith

item_older : (on : OnRow) (c : List Entry) (cell : List ℕ) (i : ConditionItem) → IsCondition on c cell i → (d : List Entry) → Extends c d → IsConditionItem d (length d) i
item_older on c cell i h d o = older i.atoms (h.parts d o) where
  older : (atoms : Option ℕ) → ArePartsIn on d cell atoms → IfSome atoms (OlderAtoms d (length d))
  older None parts = tt
  older (Some s) parts = (parts.0, slice_get_within d s (kind.Atoms parts.0.0) parts.0.1)

pub items_older : (on : OnRow) (c : List Entry) (cells : List (List ℕ)) (items : List ConditionItem) → AreConditions on c cells items → (d : List Entry) → Extends c d → EachIn (IsConditionItem d (length d)) items
items_older on c [] [] h d o k x e = absurd cc
items_older on c [] (i ∷ is) h d o k x e = absurd h
items_older on c (cell ∷ cells) [] h d o k x e = absurd h
items_older on c (cell ∷ cells) (i ∷ is) h d o zero x e = let same : i ≡ x = some_same i x e in subst (λ (z : ConditionItem). IsConditionItem d (length d) z) same (item_older on c cell i h.0 d o)
items_older on c (cell ∷ cells) (i ∷ is) h d o (suc k) x e = items_older on c cells is h.1 d o k x e

-- conditions stay so as the arena grows
pub conditions_stay : (on : OnRow) (c d : List Entry) → Extends c d → (cells : List (List ℕ)) (items : List ConditionItem) → AreConditions on c cells items → AreConditions on d cells items
conditions_stay on c d o [] [] h = tt
conditions_stay on c d o [] (i ∷ is) h = absurd h
conditions_stay on c d o (cell ∷ cells) [] h = absurd h
conditions_stay on c d o (cell ∷ cells) (i ∷ is) h = (
  record { constant = h.0.constant; scalars = h.0.scalars; parts = λ e x. h.0.parts e (extends_on c d e o x) },
  conditions_stay on c d o cells is h.1,
)

-- one condition more
pub conditions_more : (on : OnRow) (c : List Entry) (cells : List (List ℕ)) (items : List ConditionItem) (cell : List ℕ) (i : ConditionItem) →
    AreConditions on c cells items → IsCondition on c cell i → AreConditions on c (cells ++ cell ∷ []) (items ++ i ∷ [])
conditions_more on c [] [] cell i h is = (is, tt)
conditions_more on c [] (j ∷ js) cell i h is = absurd h
conditions_more on c (x ∷ xs) [] cell i h is = absurd h
conditions_more on c (x ∷ xs) (j ∷ js) cell i h is = (h.0, conditions_more on c xs js cell i h.1 is)

-- the texts of the same key cells are the same
some_texts : {A : Type 0} (xs ys : List A) → map Some xs ≡ map Some ys → xs ≡ ys
some_texts [] [] e = refl
some_texts [] (y ∷ ys) e = absurd cc
some_texts (x ∷ xs) [] e = absurd cc
some_texts (x ∷ xs) (y ∷ ys) e =
    let head : Some x ≡ Some y = cc in
    let tail : map Some xs ≡ map Some ys = cc in
    let one : x ≡ y = cc in
    let rest : xs ≡ ys = some_texts xs ys tail in
    cc

pub one_keyed : (tables : List TableData) (table key row : ℕ) (xs ys : List (List ℕ)) → IsKeyedRow tables table key xs row → IsKeyedRow tables table key ys row → xs ≡ ys
one_keyed tables table key row xs ys f g =
    let columns : f.0 ≡ g.0 = some_same f.0 g.0 (sym f.2 ∙ g.2) in
    let cells : f.1 ≡ g.1 = some_same f.1 g.1 (sym f.3 ∙ g.3) in
    let there : map (nth g.1) g.0 ≡ map Some xs = subst (λ cs. map (nth cs) g.0 ≡ map Some xs) cells (subst (λ ks. map (nth f.1) ks ≡ map Some xs) columns f.4) in
    some_texts xs ys (sym there ∙ g.4)

-- a row of a table whose free cell is the text, and the item of its lookups no deeper than this
module _ (on : OnRow) (are : AreTables on.tables.now) (r : ReachedRow) (column : ℕ) (v : List ℕ) (free : IsFree on.tables.now r.table r.key column)
    (cell : table_cell_at on.tables.now r.table r.row column ≡ Some v) (d e : ℕ) (one_more : d ≡ e + 1) (c : List Entry)
    (cells : List (List ℕ)) (keyed : AreKeyCells on.tables.now r cells) (items : List ConditionItem) (conditions : AreConditions (at_depth on e) c cells items) where
  -- the item
  abbrev pub lookups : SelectItem
  lookups = record { column = column; table = r.table; key = r.key; conditions = items }

  gives_there : (later : List Entry) → Extends c later → (cs : Atoms) → HasPart cs → ConditionsFit cs later items → Reads on (Cell r column) (select column r.table r.key cs) × Gives (at_depth on d) v (select column r.table r.key cs)
  gives_there later o cs part fits =
      let all = (fits_all (at_depth on e) c later o cs cells items conditions).0 fits in
      let count : number_of_atoms cs ≡ length cells = conditions_count on cs cells all.2 in
      let sized : length keyed.0 ≡ length cells = same_length (nth keyed.1) keyed.0 cells keyed.4 in
      let deep = all.1 in
      let numbers = numbers_from on.tables.now column r.table r.key (number_of_atoms cs) keyed.0 are keyed.2 (sized ∙ sym count) free in
      let source : IsSource on.settings on.sheet.now on.tables.now (select column r.table r.key cs) =
      (numbers, part, conditions_under (at_depth on e).settings on.settings refl on.sheet.now on.tables.now cs all.0) in (
        (refl, refl, refl, (cells, all.2, keyed)),
        record {
          source = source_under on.settings (at_depth on d).settings refl on.sheet.now on.tables.now (select column r.table r.key cs) source;
          shallow = omega arith;
          value = (cells, r.row, all.2, keyed, cell);
        },
      )

  fits_there : (later : List Entry) → Extends c later → (cs : Atoms) → Reads on (Cell r column) (select column r.table r.key cs) → Gives (at_depth on d) v (select column r.table r.key cs) → HasPart cs × ConditionsFit cs later items
  fits_there later o cs reads gives =
      let picks : Picks on.sheet.now on.tables.now on.row r.table r.key cs r.row = reads.3 in
      let same : picks.0 ≡ cells = one_keyed on.tables.now r.table r.key r.row picks.0 cells picks.2 keyed in
      let deep : 1 + greatest_depth cs ≤ d = gives.shallow in
      let under = conditions_under (at_depth on d).settings (at_depth on e).settings refl on.sheet.now on.tables.now cs gives.source.2 in
      (gives.source.1, (fits_all (at_depth on e) c later o cs cells items conditions).1 (under, omega arith, subst (λ ts. ConditionsAre on.sheet.now on.tables.now on.row cs ts) same picks.1))

  pub lookups_fit : (later : List Entry) → Extends c later → (x : SourceTree) → SourceFits x later (item.Select lookups) ↔ (Reads on (Cell r column) x × Gives (at_depth on d) v x)
  lookups_fit later o (col n) = (λ f. absurd f, λ g. absurd g.0)
  lookups_fit later o (select n table key cs) = (
    λ f.
        let there = gives_there later o cs f.3 f.4 in
        subst (λ k. Reads on (Cell r column) (select n table k cs) × Gives (at_depth on d) v (select n table k cs)) f.2
        (subst (λ t. Reads on (Cell r column) (select n t r.key cs) × Gives (at_depth on d) v (select n t r.key cs)) f.1
        (subst (λ m. Reads on (Cell r column) (select m r.table r.key cs) × Gives (at_depth on d) v (select m r.table r.key cs)) f.0 there)),
    λ g.
        let both : Reads on (Cell r column) (select column r.table r.key cs) × Gives (at_depth on d) v (select column r.table r.key cs) =
        subst (λ k. Reads on (Cell r column) (select column r.table k cs) × Gives (at_depth on d) v (select column r.table k cs)) g.0.2
        (subst (λ t. Reads on (Cell r column) (select column t key cs) × Gives (at_depth on d) v (select column t key cs)) g.0.1
        (subst (λ m. Reads on (Cell r column) (select m table key cs) × Gives (at_depth on d) v (select m table key cs)) g.0.0 g)) in
        let fits = fits_there later o cs both.0 both.1 in
        (sym g.0.0, sym g.0.1, sym g.0.2, fits.0, fits.1),
  )

  -- some lookup reads the row, so the item is one that an arena takes
  pub lookups_are : (reached : IsReached on.settings on.sheet.now on.tables.now on.row r) → r.depth ≤ d → d ≤ 3 → (later : List Entry) → Extends c later → IsSourceItem later (length later) (item.Select lookups)
  lookups_are reached shallow few later o =
      let at = reached.reached in
      let cs : Atoms = at.1 in
      let deep : source_depth (select at.0 r.table r.key cs) ≡ r.depth = at.3 in
      let picks : Picks on.sheet.now on.tables.now on.row r.table r.key cs r.row = at.5 in
      let texts : picks.0 ≡ cells = one_keyed on.tables.now r.table r.key r.row picks.0 cells picks.2 keyed in
      let sized : length keyed.0 ≡ length cells = same_length (nth keyed.1) keyed.0 cells keyed.4 in
      let counted : length items ≡ length cells = items_count (at_depth on e) c cells items conditions in
      let columns : AreKeyColumns keyed.0 = key_columns on.tables.now r.table r.key keyed.0 are keyed.2 in
      let some = columns.some in
      let most = columns.few in
      let count : number_of_atoms cs ≡ length cells = conditions_count on cs cells (subst (λ ts. ConditionsAre on.sheet.now on.tables.now on.row cs ts) texts picks.1) in
      let numbers = numbers_from on.tables.now column r.table r.key (number_of_atoms cs) keyed.0 are keyed.2 (sized ∙ sym count) free in
      let x : SourceTree = select column r.table r.key cs in
      let source : IsSource on.settings on.sheet.now on.tables.now x = (numbers, at.2.1, at.2.2) in
      let gives : Gives (at_depth on d) v x = record {
        source = source_under on.settings (at_depth on d).settings refl on.sheet.now on.tables.now x source;
        shallow = omega arith;
        value = (cells, r.row, subst (λ ts. ConditionsAre on.sheet.now on.tables.now on.row cs ts) texts picks.1, keyed, cell);
      } in
      record {
        some = omega arith;
        few = omega arith;
        older = items_older (at_depth on e) c cells items conditions later o;
        filled = (x, (lookups_fit later o x).1 ((refl, refl, refl, picks), gives));
        shallow = λ y fits. let deeper = ((lookups_fit later o y).0 fits).1.shallow in omega arith;
      }

-- where the row is reached no sooner, no lookup reads it
pub none_so_shallow : (on : OnRow) (r : ReachedRow) (column d : ℕ) (v : List ℕ) → IsReached on.settings on.sheet.now on.tables.now on.row r → d ≤ on.settings.depth → d < r.depth
    → (x : SourceTree) → Reads on (Cell r column) x → Gives (at_depth on d) v x → ⊥
none_so_shallow on r column d v reached le less (col n) reads gives = absurd reads
none_so_shallow on r column d v reached le less (select n table key cs) reads gives =
    let deep : source_depth (select n table key cs) ≤ d = gives.shallow in
    let source : IsSource on.settings on.sheet.now on.tables.now (select n table key cs) = source_under (at_depth on d).settings on.settings refl on.sheet.now on.tables.now (select n table key cs) gives.source in
    let here : IsReachedAt on.settings on.sheet.now on.tables.now on.row table key r.row (source_depth (select n table key cs)) = (n, cs, source, refl, omega arith, reads.3) in
    let there : IsReachedAt on.settings on.sheet.now on.tables.now on.row r.table r.key r.row (source_depth (select n table key cs)) =
    subst (λ k. IsReachedAt on.settings on.sheet.now on.tables.now on.row r.table k r.row (source_depth (select n table key cs))) reads.2
    (subst (λ t. IsReachedAt on.settings on.sheet.now on.tables.now on.row t key r.row (source_depth (select n table key cs))) reads.1 here) in
    let least = reached.least (source_depth (select n table key cs)) there in
    absurd (omega arith)

-- a reached row's depth is at least 1
pub reached_some : (on : OnRow) (r : ReachedRow) → IsReached on.settings on.sheet.now on.tables.now on.row r → 1 ≤ r.depth
reached_some on r h = let deep : 1 + greatest_depth h.reached.1 ≡ r.depth = h.reached.3 in omega arith

-- no settings allow a depth above 3
pub depth_few : (settings : Settings) → AreSettings settings → settings.depth ≤ 3
depth_few settings h =
    let deep = h.0 in
    let most = h.1 in
    omega arith
