-- The plain trees that the code's trees stand for.
use Rattle.std.specs.Prelude.{map}
use Rattle.fill_tree.specs.Tree.{SourceTree, AtomTree, Atoms, col, select, constant, whole, sub, atoms_of}
use Rattle.fill_tree.specs.declared.tree.Source.{Source, Source-F, fold-Source}
use Rattle.fill_tree.specs.declared.tree.Select.{Select, Select-F, fold-Select}
use Rattle.fill_tree.specs.declared.tree.Atom.{Atom, Atom-F, fold-Atom}
use Rattle.fill_tree.specs.declared.tree.Program.{Program}

-- one level, with what stands for each child in its place; a lookup stands for a source
abbrev pub source_step : Source-F AtomTree SourceTree SourceTree → SourceTree
source_step (Source-F.Col c) = col c
source_step (Source-F.Select boxed) = boxed.value

abbrev pub select_step : Select-F AtomTree SourceTree SourceTree → SourceTree
select_step s = select s.column s.table s.key (atoms_of s.conditions)

abbrev pub atom_step : Atom-F AtomTree SourceTree SourceTree → AtomTree
atom_step (Atom-F.Const t) = constant t
atom_step (Atom-F.Whole s) = whole s
atom_step (Atom-F.Sub s p q) = sub s p q

abbrev pub source_tree : Source → SourceTree
source_tree = fold-Source AtomTree SourceTree SourceTree atom_step source_step select_step

abbrev pub select_tree : Select → SourceTree
select_tree = fold-Select AtomTree SourceTree SourceTree atom_step source_step select_step

abbrev pub atom_tree : Atom → AtomTree
atom_tree = fold-Atom AtomTree SourceTree SourceTree atom_step source_step select_step

abbrev pub program_tree : Program → Atoms
program_tree p = atoms_of (map atom_tree p.atoms)
