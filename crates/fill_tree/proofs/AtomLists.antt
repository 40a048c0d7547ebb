-- How many atoms a list has, and two lists of atoms, compared item by item up to where one of them ends.
use Rattle.std.proofs.Common.{◌≡◌, ℕ, suc, ◌+◌, List, [], ◌∷◌, map, length, drop, min, refl, ap, arith, length-drop}
use Rattle.std.specs.Ordering.{nat_cmp}
use Rattle.std.proofs.lemmas.Bool.Decides.{nat_tests}
use Rattle.fill_tree.specs.Grammar.{number_of_atoms}
use Rattle.fill_tree.specs.Meaning.{atom_tree}
use Rattle.fill_tree.specs.Order.{atoms_cmp}
use Rattle.fill_tree.specs.Tree.{atoms_of}
use Rattle.fill_tree.specs.declared.tree.Atom.{Atom}

pub as_many_atoms : (l : List Atom) → number_of_atoms (atoms_of (map atom_tree l)) ≡ length l
as_many_atoms [] = refl
as_many_atoms (x ∷ xs) = ap suc (as_many_atoms xs)

nat_cmp-shift : (i m n : ℕ) → nat_cmp (i + m) (i + n) ≡ nat_cmp m n
nat_cmp-shift i m n = grind (arith, nat_tests)

-- where one of the two is empty, the lengths decide
atoms_cmp-empty : (l m : List Atom) → min (length l) (length m) ≡ 0 →
    nat_cmp (length l) (length m) ≡ atoms_cmp (atoms_of (map atom_tree l)) (atoms_of (map atom_tree m))
atoms_cmp-empty [] [] h = refl
atoms_cmp-empty [] (y ∷ ys) h = grind (arith, nat_tests)
atoms_cmp-empty (x ∷ xs) [] h = grind (arith, nat_tests)
atoms_cmp-empty (x ∷ xs) (y ∷ ys) h = absurd (omega arith)

-- the same of what is left of two lists after as many items as the shorter one has
pub atoms_cmp-drop : (a b : List Atom) (i : ℕ) → i ≡ min (length a) (length b) →
    nat_cmp (length a) (length b) ≡ atoms_cmp (atoms_of (map atom_tree (drop i a))) (atoms_of (map atom_tree (drop i b)))
atoms_cmp-drop a b i e =
    let left : length a ≡ i + length (drop i a) = omega (arith, length-drop i a) in
    let right : length b ≡ i + length (drop i b) = omega (arith, length-drop i b) in
    let ended : min (length (drop i a)) (length (drop i b)) ≡ 0 = omega (arith, left, right) in
    rw (left, right, nat_cmp-shift i (length (drop i a)) (length (drop i b))) (atoms_cmp-empty (drop i a) (drop i b) ended)
