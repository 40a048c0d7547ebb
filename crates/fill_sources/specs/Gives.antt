-- What sources of the grammar give on a row.
use Rattle.std.specs.Prelude.{◌↔◌, ℕ, ◌≤◌, List, length, Option, None, Some}
use Rattle.fill_tables.specs.Keys.{KeysDistinguish}
use Rattle.fill_tokens.specs.Value.{HasValue}
use Rattle.fill_tokens.specs.TokenSet.{IsPlaceOf}
use Rattle.fill_tokens.specs.declared.token_set.TokenSet.{TokenSet}
use Rattle.fill_tokens.specs.declared.place.Place.{Place}
use Rattle.fill_tree.specs.Tree.{SourceTree, AtomTree}
use Rattle.fill_tree.specs.Grammar.{AreSettings, IsSource, IsPart, IsCondition, atom_depth, source_depth}
use Rattle.fill_tree.specs.Value.{SourceIs, ConditionIs}
use Rattle.fill_arena.specs.Contents.{IsPlaceSet, IsSourceSet, IsAtomSet}
use Rattle.fill_arena.specs.Stands.{PlaceStands, SourceStands, AtomStands}
use Rattle.fill_arena.specs.declared.entry.Entry.{Entry}
use Rattle.fill_sources.specs.declared.row.OnRow.{OnRow}

-- the row that is looked at: the sheet has it, the settings are such, and keys tell rows apart
pub record IsOnRow (on : OnRow) : Type 0 where
  pub first : 1 ≤ on.row
  pub last : on.row ≤ length on.sheet.now.rows
  pub settings : AreSettings on.settings
  pub distinguish : KeysDistinguish on.tables.now

-- the same row under settings of another depth
abbrev pub at_depth : OnRow → ℕ → OnRow
at_depth on d = record on { settings = record on.settings { depth = d } }

-- the source is one of the grammar, no deeper than the settings allow, and its text on the row is v
pub record Gives (on : OnRow) (v : List ℕ) (x : SourceTree) : Type 0 where
  pub source : IsSource on.settings on.sheet.now on.tables.now x
  pub shallow : source_depth x ≤ on.settings.depth
  pub value : SourceIs on.sheet.now on.tables.now on.row x v

-- a part of the grammar, no deeper than the settings allow, whose text on the row is v
pub record PartGives (on : OnRow) (v : List ℕ) (a : AtomTree) : Type 0 where
  pub part : IsPart a
  pub condition : IsCondition on.settings on.sheet.now on.tables.now a
  pub shallow : atom_depth a ≤ on.settings.depth
  pub value : ConditionIs on.sheet.now on.tables.now on.row a v

-- exactly the sources that give the text stand in the set
abbrev pub AreSourcesOf : OnRow → List Entry → List ℕ → ℕ → Type 0
AreSourcesOf on c v s = IsSourceSet c s × ((x : SourceTree) → SourceStands c s x ↔ Gives on v x)

-- the same where there may be none, and then there is no set
abbrev pub AreSourcesIn : OnRow → List Entry → List ℕ → Option ℕ → Type 0
AreSourcesIn on c v None = (x : SourceTree) → ¬ (Gives on v x)
AreSourcesIn on c v (Some s) = AreSourcesOf on c v s

-- exactly the parts that give the text stand in the set; without a set there is none
abbrev pub ArePartsIn : OnRow → List Entry → List ℕ → Option ℕ → Type 0
ArePartsIn on c v None = (a : AtomTree) → ¬ (PartGives on v a)
ArePartsIn on c v (Some s) = IsAtomSet c s × ((a : AtomTree) → AtomStands c s a ↔ PartGives on v a)

-- exactly the places of the set whose value in the text is k stand in the set; without a set there is none
abbrev pub ArePlacesOf : TokenSet → List Entry → List ℕ → ℕ → Option ℕ → Type 0
ArePlacesOf token_set c v k None = (p : Place) → ¬ (IsPlaceOf token_set p × HasValue p v k)
ArePlacesOf token_set c v k (Some s) = IsPlaceSet c s × ((p : Place) → PlaceStands c s p ↔ (IsPlaceOf token_set p × HasValue p v k))

-- .. of the settings' profile
abbrev pub ArePlacesAt : OnRow → List Entry → List ℕ → ℕ → Option ℕ → Type 0
ArePlacesAt on c v k made = ArePlacesOf on.settings.profile.tokens c v k made
