-- The answers on a row of what stands in sets and graphs: a value, or none where there is none.
use Rattle.std.specs.Prelude.{◌≡◌, ◌≢◌, ℕ, List, Option, None, Some}
use Rattle.fill_text.specs.Data.{SheetData, TableData}
use Rattle.fill_tokens.specs.Value.{HasValue}
use Rattle.fill_tokens.specs.declared.place.Place.{Place}
use Rattle.fill_tree.specs.Tree.{SourceTree, AtomTree, Atoms}
use Rattle.fill_tree.specs.Value.{IsValue, IsFilled, IsPieceBetween, SourceIs, AtomIs, ProgramIs}
use Rattle.fill_arena.specs.Stands.{PlaceStands, SourceStands, AtomStands, ProgramStands}
use Rattle.fill_arena.specs.declared.entry.Entry.{Entry}

-- a place that stands in the set has this value in the text, or has none
abbrev pub PlaceGives : List Entry → ℕ → List ℕ → Option ℕ → Type 0
PlaceGives c s t o = (p : Place) × PlaceStands c s p × IsValue (HasValue p t) o

-- the same of the sources, the atoms and the programs that stand in a set or a graph, on a row
abbrev pub SourceGives : List Entry → SheetData → List TableData → ℕ → ℕ → Option (List ℕ) → Type 0
SourceGives c sheet tables row s o = (x : SourceTree) × SourceStands c s x × IsValue (SourceIs sheet tables row x) o

abbrev pub AtomGives : List Entry → SheetData → List TableData → ℕ → ℕ → Option (List ℕ) → Type 0
AtomGives c sheet tables row s o = (a : AtomTree) × AtomStands c s a × IsValue (AtomIs sheet tables row a) o

abbrev pub ProgramGives : List Entry → SheetData → List TableData → ℕ → ℕ → Option (List ℕ) → Type 0
ProgramGives c sheet tables row g o = (p : Atoms) × ProgramStands c g p × IsValue (ProgramIs sheet tables row p) o

-- two programs that stand in the graph answer differently on the row
abbrev pub Differ : List Entry → SheetData → List TableData → ℕ → ℕ → Type 0
Differ c sheet tables row g = (a : Option (List ℕ)) × (b : Option (List ℕ))
    × ProgramGives c sheet tables row g a × ProgramGives c sheet tables row g b × (a ≢ b)

-- the answers of the pieces of one text between places of two sets
abbrev pub SubGives : List Entry → ℕ → ℕ → List ℕ → Option (List ℕ) → Type 0
SubGives c lefts rights t o = (p : Place) × (q : Place) × PlaceStands c lefts p × PlaceStands c rights q × IsValue (IsPieceBetween (λ u. u ≡ t) p q) o

-- what answers become where a text is taken whole, if it is not empty, or between places of two sets
abbrev pub WholeOf : Option (List ℕ) → Option (List ℕ) → Type 0
WholeOf None o = o ≡ None
WholeOf (Some t) o = IsValue (IsFilled (λ u. u ≡ t)) o

abbrev pub AreWholes : (Option (List ℕ) → Type 0) → Option (List ℕ) → Type 0
AreWholes T o = (t : Option (List ℕ)) × T t × WholeOf t o

abbrev pub PieceOf : List Entry → ℕ → ℕ → Option (List ℕ) → Option (List ℕ) → Type 0
PieceOf c lefts rights None o = o ≡ None
PieceOf c lefts rights (Some t) o = SubGives c lefts rights t o

abbrev pub ArePiecesOf : List Entry → ℕ → ℕ → (Option (List ℕ) → Type 0) → Option (List ℕ) → Type 0
ArePiecesOf c lefts rights T o = (t : Option (List ℕ)) × T t × PieceOf c lefts rights t o
