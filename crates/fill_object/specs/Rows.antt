-- Rows of conditions with one more at the front.
use Rattle.std.specs.Prelude.{◌≡◌, ◌⊎◌, ℕ, List, Option, Some}
use Rattle.fill_tree.specs.Grammar.{HasPart, IsPart}
use Rattle.fill_tree.specs.Meaning.{atom_tree, program_tree}
use Rattle.fill_tree.specs.Tree.{SourceTree, AtomTree, Atoms, select, constant, more}
use Rattle.fill_tree.specs.declared.tree.Program.{Program}
use Rattle.fill_arena.specs.Contents.{SomeIn}
use Rattle.fill_arena.specs.Stands.{AtomFits, ConditionFits, ConditionsFit}
use Rattle.fill_arena.specs.declared.entry.ConditionItem.{ConditionItem}
use Rattle.fill_arena.specs.declared.entry.SelectItem.{SelectItem}
use Rattle.fill_object.specs.Kinds.{atoms_on, rows_on}
use Rattle.fill_object.specs.Leasts.{AreLeasts}
use Rattle.fill_object.specs.declared.row.OnRow.{OnRow}
use Rattle.fill_object.specs.declared.valued.ValuedAtom.{ValuedAtom}

-- the condition and then one of the rows
abbrev pub IsFront : AtomTree → List Program → Atoms → Type 0
IsFront a rests y = SomeIn (λ q. y ≡ more a (program_tree q)) rests

-- the constant, if there is one, and then one of the rows
abbrev pub IsFixed : Option (List ℕ) → List Program → Atoms → Type 0
IsFixed fixed rests y = (t : List ℕ) × (fixed ≡ Some t) × IsFront (constant t) rests y

-- the constant, or one of the parts, and then one of the rows
abbrev pub IsLonger : Option (List ℕ) → List ValuedAtom → List Program → Atoms → Type 0
IsLonger fixed parts rests y = IsFixed fixed rests y ⊎ SomeIn (λ x. IsFront (atom_tree x.atom) rests y) parts

-- the rows serve for all rows of conditions of the items
abbrev pub AreRows : OnRow → List ConditionItem → List Program → Type 0
AreRows on items rows = AreLeasts (rows_on on) (λ y. ConditionsFit y on.arena.now items) rows

-- the lookup by this row of conditions, if one of them is no constant
abbrev pub IsSelectBy : SelectItem → Program → SourceTree → Type 0
IsSelectBy i row x = HasPart (program_tree row) × (x ≡ select i.column i.table i.key (program_tree row))

-- the conditions of the item that are no constants
abbrev pub AreParts : OnRow → ConditionItem → List ValuedAtom → Type 0
AreParts on i parts = AreLeasts (atoms_on on) (λ a. IsPart a × ConditionFits a on.arena.now i (AtomFits a on.arena.now)) parts
