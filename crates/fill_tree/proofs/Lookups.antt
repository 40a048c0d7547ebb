-- A lookup of the grammar, by the list of its conditions.
use Rattle.std.proofs.Common.{◌↔◌, ℕ, List, map, length, sym, subst}
use Rattle.fill_text.specs.Data.{SheetData, TableData}
use Rattle.fill_tree.specs.Grammar.{AreConditions, AreNumbersOf, HasPart, IsSource}
use Rattle.fill_tree.specs.Meaning.{atom_tree}
use Rattle.fill_tree.specs.Tree.{atoms_of, select}
use Rattle.fill_tree.specs.declared.tree.Atom.{Atom}
use Rattle.fill_tree.specs.declared.user.Settings.{Settings}
use Rattle.fill_tree.proofs.AtomLists.{as_many_atoms}

module _ (settings : Settings) (sheet : SheetData) (tables : List TableData) (column table key : ℕ) (l : List Atom) where
  pub numbers_from_lookup : IsSource settings sheet tables (select column table key (atoms_of (map atom_tree l))) →
      AreNumbersOf tables column table key (length l)
  numbers_from_lookup h = subst (AreNumbersOf tables column table key) (as_many_atoms l) h.0

  -- its numbers and that it has a part are known
  pub lookup_by_conditions : AreNumbersOf tables column table key (length l) → HasPart (atoms_of (map atom_tree l)) →
      IsSource settings sheet tables (select column table key (atoms_of (map atom_tree l)))
      ↔ AreConditions settings sheet tables (atoms_of (map atom_tree l))
  lookup_by_conditions numbers part =
      (λ h. h.2, λ h. (subst (AreNumbersOf tables column table key) (sym (as_many_atoms l)) numbers, part, h))
