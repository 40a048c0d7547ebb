-- Which rows of tables are reached and which texts are known by a depth, and marks that say it.
use Rattle.std.specs.Prelude.{◌≡◌, ◌≢◌, ◌⊎◌, ℕ, suc, ◌<◌, ◌≤◌, ◌↔◌, List, All, Contains, length, map, get_or}
use Rattle.fill_text.specs.Data.{SheetData, TableData}
use Rattle.fill_tree.specs.Tree.{SourceTree, Atoms, select}
use Rattle.fill_tree.specs.Grammar.{IsSource, source_depth}
use Rattle.fill_tree.specs.Value.{SourceIs}
use Rattle.fill_tree.specs.declared.user.Settings.{Settings}
use Rattle.fill_text.specs.Lists.{Lists}
use Rattle.fill_reach.specs.Reach.{Picks}
use Rattle.fill_reach.specs.Spots.{Spot, IsFreeCell, IsInputCell, IsShort, IsSpot, KeepScalars, Touches, spot_of, spot_cmp}
use Rattle.fill_reach.specs.declared.rows.ReachedRow.{ReachedRow}

-- some source under the settings' profile, no deeper than this, has the value
pub record IsKnownBy (settings : Settings) (sheet : SheetData) (tables : List TableData) (row depth : ℕ) (v : List ℕ) : Type 0 where
  pub tree : SourceTree
  pub source : IsSource settings sheet tables tree
  pub shallow : source_depth tree ≤ depth
  pub value : SourceIs sheet tables row tree v

-- some lookup, no deeper than this, picks the row by the key
pub record IsReachedBy (settings : Settings) (sheet : SheetData) (tables : List TableData) (row depth : ℕ) (s : Spot) : Type 0 where
  pub column : ℕ
  pub conditions : Atoms
  pub source : IsSource settings sheet tables (select column s.table s.key conditions)
  pub shallow : source_depth (select column s.table s.key conditions) ≤ depth
  pub picks : Picks sheet tables row s.table s.key conditions s.row

-- the row's mark is right at a depth: one that is reached by it has the least depth that reaches it, another one has 0
pub record IsMark (settings : Settings) (sheet : SheetData) (tables : List TableData) (row depth : ℕ) (r : ReachedRow) : Type 0 where
  pub unmarked : r.depth ≡ 0 → (before : ℕ) → depth ≡ suc before → ¬ (Touches (IsKnownBy settings sheet tables row before) tables (spot_of r))
  pub marked : (before : ℕ) → r.depth ≡ suc before → (suc before ≤ depth) × IsReachedBy settings sheet tables row (suc before) (spot_of r)
      × ¬ (IsReachedBy settings sheet tables row before (spot_of r))

-- all rows by all keys that leave a column free, with their marks at a depth
pub record AreMarked (settings : Settings) (sheet : SheetData) (tables : List TableData) (row depth : ℕ) (rows : List ReachedRow) : Type 0 where
  pub spots : Lists spot_cmp (IsSpot tables) (map spot_of rows)
  pub marks : All (IsMark settings sheet tables row depth) rows

-- the text stands in a cell of a row that has this mark
abbrev pub IsNewCell : List TableData → List ReachedRow → ℕ → List ℕ → Type 0
IsNewCell tables rows depth v = (r : ReachedRow) × Contains rows r × (r.depth ≡ depth) × IsFreeCell tables (spot_of r) v

-- the text can be known by the depth and by no lesser one: an input's cell, or a cell of a row that has this mark
abbrev pub IsNew : SheetData → List TableData → ℕ → List ReachedRow → ℕ → List ℕ → Type 0
IsNew sheet tables row rows depth v = ((depth ≡ 0) × IsInputCell sheet row v) ⊎ ((1 ≤ depth) × IsNewCell tables rows depth v)

-- exactly the texts of the property, all short
pub record AreTexts (Q : List ℕ → Type 0) (texts : List (List ℕ)) : Type 0 where
  pub exact : (v : List ℕ) → Contains texts v ↔ Q v
  pub short : All IsShort texts

-- the row after a round: one without a mark gets this one where a key cell is a piece of a text of the property
abbrev pub IsMarkedAs : List TableData → (List ℕ → Type 0) → ℕ → ReachedRow → ReachedRow → Type 0
IsMarkedAs tables P mark old new =
    ((old.depth ≢ 0) × (new ≡ old))
    ⊎ ((old.depth ≡ 0) × ¬ (Touches P tables (spot_of old)) × (new ≡ old))
    ⊎ ((old.depth ≡ 0) × Touches P tables (spot_of old) × KeepScalars tables (spot_of old) × (new ≡ record old { depth = mark }))

abbrev pub AreMarkedAs : List TableData → (List ℕ → Type 0) → ℕ → List ReachedRow → List ReachedRow → Type 0
AreMarkedAs tables P mark old new = (length new ≡ length old)
    × ((i : ℕ) (r : ReachedRow) → i < length old → IsMarkedAs tables P mark (get_or old i r) (get_or new i r))
