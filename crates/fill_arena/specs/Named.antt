-- What the sets and graphs of an arena name, and what is named by some of them, directly or through others.
use Rattle.std.specs.Prelude.{◌≡◌, ℕ, List, [], ◌∷◌, flat_map, Option, Some, None, slice_get}
use Rattle.fill_arena.specs.Contents.{In}
use Rattle.fill_arena.specs.declared.entry.Entry.{Entry}
use Rattle.fill_arena.specs.declared.entry.Entry.TheVariants.{Places, Sources, Atoms, Graph}
use Rattle.fill_arena.specs.declared.entry.SourceItem.{SourceItem}
use Rattle.fill_arena.specs.declared.entry.SourceItem.TheVariants.{Col, Select}
use Rattle.fill_arena.specs.declared.entry.AtomItem.{AtomItem}
use Rattle.fill_arena.specs.declared.entry.AtomItem.TheVariants.{Const, Whole, Sub}
use Rattle.fill_arena.specs.declared.entry.ConditionItem.{ConditionItem}
use Rattle.fill_arena.specs.declared.entry.Edge.{Edge}

-- the numbers that a condition, a source, an atom, an edge and an entry name
abbrev pub option_names : Option ℕ → List ℕ
option_names None = []
option_names (Some s) = s ∷ []

abbrev pub condition_names : ConditionItem → List ℕ
condition_names i = option_names i.atoms

abbrev pub source_names : SourceItem → List ℕ
source_names (Col m) = []
source_names (Select i) = flat_map condition_names i.conditions

abbrev pub atom_names : AtomItem → List ℕ
atom_names (Const t) = []
atom_names (Whole s) = s ∷ []
atom_names (Sub s p q) = s ∷ p ∷ q ∷ []

abbrev pub edge_names : Edge → List ℕ
edge_names e = e.atoms ∷ []

abbrev pub entry_names : Entry → List ℕ
entry_names (Places places) = []
entry_names (Sources items) = flat_map source_names items
entry_names (Atoms items) = flat_map atom_names items
entry_names (Graph nodes edges) = flat_map edge_names edges

-- what stands under the first number names the second
abbrev pub Names : List Entry → ℕ → ℕ → Type 0
Names c m n = (e : Entry) × (slice_get c m ≡ Some e) × In n (entry_names e)

-- a chain of numbers, each of which the one before it names, leads from the first to the last
abbrev pub Leads : List Entry → ℕ → List ℕ → ℕ → Type 0
Leads c m [] n = m ≡ n
Leads c m (k ∷ rest) n = Names c m k × Leads c k rest n

-- the number is listed, or a listed one names it, directly or through others
abbrev pub IsNamed : List Entry → List ℕ → ℕ → Type 0
IsNamed c listed n = (m : ℕ) × (chain : List ℕ) × In m listed × Leads c m chain n
