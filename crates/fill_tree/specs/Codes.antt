-- How plain trees are stored, so that the model of a type may hold them: each tree as a ghost value, and no two alike.
use base.Stored.{Gv, gnil, gnum, gcons, num}
use Rattle.std.specs.Prelude.{◌≡◌, ℕ, List, refl}
use Rattle.std.proofs.Common.{ap, subst}
use Rattle.std.specs.Coded.{Coded, code_by, coded×, coded_ℕ, coded_list}
use Rattle.fill_tokens.specs.contracts.place.Place as place
use Rattle.fill_tree.specs.Tree.{SourceTree, AtomTree, Atoms, col, select, constant, whole, sub, end, more}
use Rattle.fill_tree.specs.Switch.{CaseTree, SwitchTree}
use Rattle.fill_tree.specs.contracts.guard.Guard as guard
use Rattle.fill_tree.specs.declared.guard.Guard.{Guard}

abbrev head : Gv → Gv
head gnil = gnil
head (gnum n) = gnil
head (gcons a b) = a

abbrev tail : Gv → Gv
tail gnil = gnil
tail (gnum n) = gnil
tail (gcons a b) = b

abbrev IsNil : Gv → Type 0
IsNil gnil = Unit {0}
IsNil (gnum n) = ⊥
IsNil (gcons a b) = ⊥

abbrev IsNumber : Gv → Type 0
IsNumber gnil = ⊥
IsNumber (gnum n) = Unit {0}
IsNumber (gcons a b) = ⊥

abbrev IsPair : Gv → Type 0
IsPair gnil = ⊥
IsPair (gnum n) = ⊥
IsPair (gcons a b) = Unit {0}

abbrev coded_text : Coded (List ℕ)
coded_text = coded_list coded_ℕ

abbrev mutual
  pub source_code : SourceTree → Gv
  source_code (col c) = gnum c
  source_code (select column table key conditions) = gcons (gnum column) (gcons (gnum table) (gcons (gnum key) (atoms_code conditions)))

  pub atom_code : AtomTree → Gv
  atom_code (constant t) = gcons gnil (coded_text.code t)
  atom_code (whole s) = gcons (gnum 0) (source_code s)
  atom_code (sub s p q) = gcons (gcons (place.the_row.coded.code p) (place.the_row.coded.code q)) (source_code s)

  pub atoms_code : Atoms → Gv
  atoms_code end = gnil
  atoms_code (more a rest) = gcons (atom_code a) (atoms_code rest)

mutual
  pub source_code_apart : (x y : SourceTree) → source_code x ≡ source_code y → x ≡ y
  source_code_apart (col a) (col b) e = ap col (ap num e)
  source_code_apart (col a) (select b0 b1 b2 bs) e = absurd (subst IsNumber e tt)
  source_code_apart (select a0 a1 a2 cs) (col b) e = absurd (subst IsPair e tt)
  source_code_apart (select a0 a1 a2 cs) (select b0 b1 b2 bs) e =
      λ i. select (ap (λ g. num (head g)) e i) (ap (λ g. num (head (tail g))) e i) (ap (λ g. num (head (tail (tail g)))) e i)
      (atoms_code_apart cs bs (ap (λ g. tail (tail (tail g))) e) i)

  pub atom_code_apart : (x y : AtomTree) → atom_code x ≡ atom_code y → x ≡ y
  atom_code_apart (constant s) (constant t) e = ap constant (coded_text.inj s t (ap tail e))
  atom_code_apart (constant s) (whole b) e = absurd (subst (λ g. IsNil (head g)) e tt)
  atom_code_apart (constant s) (sub b q0 q1) e = absurd (subst (λ g. IsNil (head g)) e tt)
  atom_code_apart (whole a) (constant t) e = absurd (subst (λ g. IsNumber (head g)) e tt)
  atom_code_apart (whole a) (whole b) e = ap whole (source_code_apart a b (ap tail e))
  atom_code_apart (whole a) (sub b q0 q1) e = absurd (subst (λ g. IsNumber (head g)) e tt)
  atom_code_apart (sub a p0 p1) (constant t) e = absurd (subst (λ g. IsPair (head g)) e tt)
  atom_code_apart (sub a p0 p1) (whole b) e = absurd (subst (λ g. IsPair (head g)) e tt)
  atom_code_apart (sub a p0 p1) (sub b q0 q1) e =
      λ i. sub (source_code_apart a b (ap tail e) i) (place.the_row.coded.inj p0 q0 (ap (λ g. head (head g)) e) i)
      (place.the_row.coded.inj p1 q1 (ap (λ g. tail (head g)) e) i)

  pub atoms_code_apart : (x y : Atoms) → atoms_code x ≡ atoms_code y → x ≡ y
  atoms_code_apart end end e = refl
  atoms_code_apart end (more b bs) e = absurd (subst IsNil e tt)
  atoms_code_apart (more a cs) end e = absurd (subst IsPair e tt)
  atoms_code_apart (more a cs) (more b bs) e =
      λ i. more (atom_code_apart a b (ap head e) i) (atoms_code_apart cs bs (ap tail e) i)

abbrev pub coded_source : Coded SourceTree
coded_source = record { code = source_code; inj = source_code_apart }

abbrev pub coded_atom : Coded AtomTree
coded_atom = record { code = atom_code; inj = atom_code_apart }

abbrev pub coded_atoms : Coded Atoms
coded_atoms = record { code = atoms_code; inj = atoms_code_apart }

abbrev pub coded_case : Coded CaseTree
coded_case =
    code_by (Guard × Atoms) (coded× guard.the_row.coded coded_atoms) (λ c. (c.guard, c.program)) (λ p. record { guard = p.0; program = p.1 }) (λ _. refl)

abbrev pub coded_switch : Coded SwitchTree
coded_switch =
    code_by (List CaseTree × Atoms) (coded× (coded_list coded_case) coded_atoms) (λ s. (s.cases, s.last)) (λ p. record { cases = p.0; last = p.1 })
    (λ _. refl)
