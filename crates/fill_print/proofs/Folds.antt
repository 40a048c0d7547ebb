-- The trees that one level of the code's trees stands for.
use Rattle.std.proofs.Common.{◌≡◌, ℕ, List, rules, map, Box, Global}
use Rattle.fill_tokens.specs.declared.place.Place.{Place}
use Rattle.fill_tree.specs.Meaning.{source_tree, atom_tree}
use Rattle.fill_tree.specs.Tree.{col, select, constant, whole, sub, atoms_of}
use Rattle.fill_tree.specs.declared.tree.Source.{Source}
use Rattle.fill_tree.specs.declared.tree.Source.TheVariants.{Col, Select}
use Rattle.fill_tree.specs.declared.tree.Select.{Select as Lookup}
use Rattle.fill_tree.specs.declared.tree.Atom.TheVariants.{Const, Whole, Sub}
use Rattle.fill_tree.specs.declared.tree.Atom.TheFolds.{the_lemmas}

pub column_tree : (n : ℕ) → source_tree (Col n) ≡ col n
column_tree n = search (rules, the_lemmas)

pub constant_tree : (t : List ℕ) → atom_tree (Const t) ≡ constant t
constant_tree t = search (rules, the_lemmas)

pub whole_tree : (s : Source) → atom_tree (Whole s) ≡ whole (source_tree s)
whole_tree s = search (rules, the_lemmas)

pub sub_tree : (s : Source) (p q : Place) → atom_tree (Sub s p q) ≡ sub (source_tree s) p q
sub_tree s p q = search (rules, the_lemmas)

pub lookup_tree : (s : Box Lookup Global) → source_tree (Select s) ≡ select s.value.column s.value.table s.value.key (atoms_of (map atom_tree s.value.conditions))
lookup_tree s = search (rules, the_lemmas)
