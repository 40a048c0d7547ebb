-- What reads characters in the known texts.
use Rattle.std.specs.Prelude.{◌≡◌, ◌↔◌, ◌⊎◌, ℕ, ◌+◌, ◌<◌, ◌≤◌, List, length, Option, Some, slice_get, slice_range}
use Rattle.fill_tokens.specs.TokenSet.{IsPlaceOf}
use Rattle.fill_tokens.specs.Value.{HasValue}
use Rattle.fill_tree.specs.Tree.{SourceTree, AtomTree, constant, whole, sub}
use Rattle.fill_arena.specs.Contents.{In, SomeIn, Extends}
use Rattle.fill_arena.specs.Stands.{AtomFits, SourceFits}
use Rattle.fill_arena.specs.WellMade.{IsAtomItem, IsSourceItem}
use Rattle.fill_arena.specs.declared.entry.AtomItem.{AtomItem}
use Rattle.fill_arena.specs.declared.entry.SourceItem.{SourceItem}
use Rattle.fill_arena.specs.declared.entry.Entry.{Entry}
use Rattle.fill_sources.specs.Gives.{ArePartsIn, AreSourcesIn, Gives, PartGives}
use Rattle.fill_sources.specs.declared.row.OnRow.{OnRow}
use Rattle.fill_sources.specs.declared.spots.Spot.{Spot}

-- n characters of the spot's text follow from its place on
abbrev pub IsReadable : List (List ℕ) → Spot → ℕ → Type 0
IsReadable texts h width = (t : List ℕ) × (slice_get texts h.text ≡ Some t) × (h.at + width ≤ length t)

-- the characters stand there in the text
abbrev pub StandsIn : List ℕ → ℕ → List ℕ → Spot → Type 0
StandsIn t k w h = (h.text ≡ k) × (h.at + length w ≤ length t) × (slice_range t h.at (h.at + length w) ≡ w)

-- the characters stand at the spot
abbrev pub StandsAt : List (List ℕ) → List ℕ → Spot → Type 0
StandsAt texts w h = (t : List ℕ) × (slice_get texts h.text ≡ Some t) × (h.at + length w ≤ length t) × (slice_range t h.at (h.at + length w) ≡ w)

-- exactly the spots of the property were put to the others
abbrev pub GainsSpots : List Spot → List Spot → (Spot → Type 0) → Type 0
GainsSpots old new Q = (h : Spot) → In h new ↔ (In h old ⊎ Q h)

-- the whole text of a source, which has exactly n characters
abbrev pub ReadsWhole : OnRow → List (List ℕ) → Spot → ℕ → AtomTree → Type 0
ReadsWhole on texts h width (constant u) = ⊥
ReadsWhole on texts h width (whole x) = (t : List ℕ) × (slice_get texts h.text ≡ Some t) × Gives on t x × (width ≡ length t)
ReadsWhole on texts h width (sub x p q) = ⊥

-- the piece of a source's text between a place at the spot and one n characters after it
abbrev pub ReadsBetween : OnRow → List (List ℕ) → Spot → ℕ → AtomTree → Type 0
ReadsBetween on texts h width (constant u) = ⊥
ReadsBetween on texts h width (whole x) = ⊥
ReadsBetween on texts h width (sub x p q) = (t : List ℕ) × (slice_get texts h.text ≡ Some t) × Gives on t x
    × (IsPlaceOf on.settings.profile.tokens p × HasValue p t h.at) × (IsPlaceOf on.settings.profile.tokens q × HasValue q t (h.at + width))

abbrev pub ReadsSpot : OnRow → List (List ℕ) → Spot → ℕ → AtomTree → Type 0
ReadsSpot on texts h width a = ReadsWhole on texts h width a ⊎ ReadsBetween on texts h width a

-- what reads n characters at one of the first of the spots
abbrev pub ReadsFirst : OnRow → List (List ℕ) → List Spot → ℕ → ℕ → AtomTree → Type 0
ReadsFirst on texts spots n width a = (i : ℕ) × (h : Spot) × (i < n) × (slice_get spots i ≡ Some h) × ReadsSpot on texts h width a

-- what reads the characters at a spot where they stand
abbrev pub ReadsAny : OnRow → List (List ℕ) → List ℕ → AtomTree → Type 0
ReadsAny on texts w a = (h : Spot) × StandsAt texts w h × ReadsSpot on texts h (length w) a

-- items were put to others that stand, in this arena and each that extends it, for exactly what has the property
pub record Puts {I T : Type 0} (Is : List Entry → I → Type 0) (Fits : T → List Entry → I → Type 0) (c : List Entry) (old new : List I) (Q : T → Type 0) : Type 0 where
  pub each : (i : I) → In i new → In i old ⊎ ((d : List Entry) → Extends c d → Is d i)
  pub adds : (d : List Entry) → Extends c d → (x : T) → SomeIn (Fits x d) new ↔ (SomeIn (Fits x d) old ⊎ Q x)

abbrev pub IsOldAtom : List Entry → AtomItem → Type 0
IsOldAtom c i = IsAtomItem c (length c) i

abbrev pub IsOldSource : List Entry → SourceItem → Type 0
IsOldSource c i = IsSourceItem c (length c) i

-- items of atoms, and of sources
abbrev pub AddsAtoms : List Entry → List AtomItem → List AtomItem → (AtomTree → Type 0) → Type 0
AddsAtoms c old new Q = Puts IsOldAtom AtomFits c old new Q

abbrev pub AddsSources : List Entry → List SourceItem → List SourceItem → (SourceTree → Type 0) → Type 0
AddsSources c old new Q = Puts IsOldSource SourceFits c old new Q

-- a set was made of the items, or there are none: whatever parts they stand for, exactly these are in it from now on
abbrev pub AreAtomsOf : List Entry → List Entry → List AtomItem → Option ℕ → Type 0
AreAtomsOf b c items made = (on : OnRow) (w : List ℕ) →
    ((d : List Entry) → Extends b d → (a : AtomTree) → SomeIn (AtomFits a d) items ↔ PartGives on w a) →
    (d : List Entry) → Extends c d → ArePartsIn on d w made

-- the same of sources
abbrev pub AreSourceItemsOf : List Entry → List Entry → List SourceItem → Option ℕ → Type 0
AreSourceItemsOf b c items made = (on : OnRow) (v : List ℕ) →
    ((d : List Entry) → Extends b d → (x : SourceTree) → SomeIn (SourceFits x d) items ↔ Gives on v x) →
    (d : List Entry) → Extends c d → AreSourcesIn on d v made
