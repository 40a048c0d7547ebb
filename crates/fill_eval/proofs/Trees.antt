-- The plain trees of the code's trees, one level at a time.
use Rattle.std.proofs.Common.{◌≡◌, map, rules}
use Rattle.fill_tokens.specs.declared.place.Place.{Place}
use Rattle.fill_tree.specs.Tree.{select, whole, sub, atoms_of}
use Rattle.fill_tree.specs.Meaning.{source_tree, select_tree, atom_tree}
use Rattle.fill_tree.specs.declared.tree.Source.{Source}
use Rattle.fill_tree.specs.declared.tree.Select.{Select}
use Rattle.fill_tree.specs.declared.tree.Atom.TheVariants.{Whole, Sub}
use Rattle.fill_tree.specs.declared.tree.Atom.TheFolds.{the_lemmas}

pub whole_tree : (s : Source) → atom_tree (Whole s) ≡ whole (source_tree s)
whole_tree s = search (rules, the_lemmas)

pub sub_tree : (s : Source) (p q : Place) → atom_tree (Sub s p q) ≡ sub (source_tree s) p q
sub_tree s p q = search (rules, the_lemmas)

pub lookup_tree : (s : Select) → select_tree s ≡ select s.column s.table s.key (atoms_of (map atom_tree s.conditions))
lookup_tree s = search (rules, the_lemmas)
