-- The plain trees of the code's trees, one level at a time.
use Rattle.std.proofs.Common.{rules, ◌≡◌, ℕ, List}
use Rattle.fill_tokens.specs.declared.place.Place.{Place}
use Rattle.fill_tree.specs.Meaning.{atom_tree, source_tree}
use Rattle.fill_tree.specs.Tree.{col, constant, whole, sub}
use Rattle.fill_tree.specs.declared.tree.Source.{Source}
use Rattle.fill_tree.specs.declared.tree.Source.TheVariants.{Col}
use Rattle.fill_tree.specs.declared.tree.Atom.TheVariants.{Const, Whole, Sub}
use Rattle.fill_tree.specs.declared.tree.Atom.TheFolds.{the_lemmas}

pub constant_tree : (t : List ℕ) → atom_tree (Const t) ≡ constant t
constant_tree t = search (rules, the_lemmas)

pub whole_tree : (x : Source) → atom_tree (Whole x) ≡ whole (source_tree x)
whole_tree x = search (rules, the_lemmas)

pub sub_tree : (x : Source) (p q : Place) → atom_tree (Sub x p q) ≡ sub (source_tree x) p q
sub_tree x p q = search (rules, the_lemmas)

pub col_tree : (n : ℕ) → source_tree (Col n) ≡ col n
col_tree n = search (rules, the_lemmas)
