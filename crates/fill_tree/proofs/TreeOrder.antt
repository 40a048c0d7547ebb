-- The order of trees is total, and only equal trees are alike in it.
use Rattle.std.proofs.Common.{◌≡◌, refl, ap}
use Rattle.std.specs.declared.cmp.Ordering.TheVariants.{Less, Equal}
use Rattle.std.specs.Ordering.{nat_cmp, ordering_reverse}
use Rattle.std.specs.Cmp.{IsTotalOrder}
use Rattle.std.proofs.lemmas.Cmp.{nat_cmp_total, nat_list_cmp_total}
use Rattle.std.proofs.lemmas.Map.Lookups.{exact_unsigned, exact_bytes}
use Rattle.fill_tokens.specs.Place.{place_cmp}
use Rattle.fill_tokens.proofs.OrderingLemmas.{then_first, then_second, then_reverse, then_chain, alike_left, alike_right}
use Rattle.fill_tokens.proofs.PlaceLaws.{place_antisymm, place_trans, exact_places}
use Rattle.fill_tree.specs.Tree.{SourceTree, AtomTree, Atoms, col, select, constant, whole, sub, end, more}
use Rattle.fill_tree.specs.Order.{source_cmp, atom_cmp, atoms_cmp}

mutual
  pub source_antisymm : (a b : SourceTree) → source_cmp a b ≡ ordering_reverse (source_cmp b a)
  source_antisymm (col a) (col b) = nat_cmp_total.antisymm a b
  source_antisymm (col a) (select b0 b1 b2 bs) = refl
  source_antisymm (select a0 a1 a2 cs) (col b) = refl
  source_antisymm (select a0 a1 a2 cs) (select b0 b1 b2 bs) =
      then_reverse _ _ _ _ (nat_cmp_total.antisymm a0 b0) (then_reverse _ _ _ _ (nat_cmp_total.antisymm a1 b1)
      (then_reverse _ _ _ _ (nat_cmp_total.antisymm a2 b2) (atoms_antisymm cs bs)))

  pub atom_antisymm : (a b : AtomTree) → atom_cmp a b ≡ ordering_reverse (atom_cmp b a)
  atom_antisymm (constant s) (constant t) = nat_list_cmp_total.antisymm s t
  atom_antisymm (constant s) (whole b) = refl
  atom_antisymm (constant s) (sub b q0 q1) = refl
  atom_antisymm (whole a) (constant t) = refl
  atom_antisymm (whole a) (whole b) = source_antisymm a b
  atom_antisymm (whole a) (sub b q0 q1) = refl
  atom_antisymm (sub a p0 p1) (constant t) = refl
  atom_antisymm (sub a p0 p1) (whole b) = refl
  atom_antisymm (sub a p0 p1) (sub b q0 q1) =
      then_reverse _ _ _ _ (source_antisymm a b) (then_reverse _ _ _ _ (place_antisymm p0 q0) (place_antisymm p1 q1))

  pub atoms_antisymm : (a b : Atoms) → atoms_cmp a b ≡ ordering_reverse (atoms_cmp b a)
  atoms_antisymm end end = refl
  atoms_antisymm end (more b bs) = refl
  atoms_antisymm (more a cs) end = refl
  atoms_antisymm (more a cs) (more b bs) = then_reverse _ _ _ _ (atom_antisymm a b) (atoms_antisymm cs bs)

mutual
  pub exact_sources : (a b : SourceTree) → source_cmp a b ≡ Equal → a ≡ b
  exact_sources (col a) (col b) h = ap col (exact_unsigned a b h)
  exact_sources (col a) (select b0 b1 b2 bs) h = cc
  exact_sources (select a0 a1 a2 cs) (col b) h = cc
  exact_sources (select a0 a1 a2 cs) (select b0 b1 b2 bs) h =
      let columns = exact_unsigned a0 b0 (then_first _ _ h) in
      let after_column = then_second (nat_cmp a0 b0) _ h in
      let tables = exact_unsigned a1 b1 (then_first _ _ after_column) in
      let after_table = then_second (nat_cmp a1 b1) _ after_column in
      let keys = exact_unsigned a2 b2 (then_first _ _ after_table) in
      let conditions = exact_atom_lists cs bs (then_second (nat_cmp a2 b2) _ after_table) in
      cc

  pub exact_atoms : (a b : AtomTree) → atom_cmp a b ≡ Equal → a ≡ b
  exact_atoms (constant s) (constant t) h = ap constant (exact_bytes s t h)
  exact_atoms (constant s) (whole b) h = cc
  exact_atoms (constant s) (sub b q0 q1) h = cc
  exact_atoms (whole a) (constant t) h = cc
  exact_atoms (whole a) (whole b) h = ap whole (exact_sources a b h)
  exact_atoms (whole a) (sub b q0 q1) h = cc
  exact_atoms (sub a p0 p1) (constant t) h = cc
  exact_atoms (sub a p0 p1) (whole b) h = cc
  exact_atoms (sub a p0 p1) (sub b q0 q1) h =
      let sources = exact_sources a b (then_first _ _ h) in
      let after_source = then_second (source_cmp a b) _ h in
      let lefts = exact_places p0 q0 (then_first _ _ after_source) in
      let rights = exact_places p1 q1 (then_second (place_cmp p0 q0) _ after_source) in
      cc

  pub exact_atom_lists : (a b : Atoms) → atoms_cmp a b ≡ Equal → a ≡ b
  exact_atom_lists end end h = refl
  exact_atom_lists end (more b bs) h = cc
  exact_atom_lists (more a cs) end h = cc
  exact_atom_lists (more a cs) (more b bs) h =
      let heads = exact_atoms a b (then_first _ _ h) in
      let tails = exact_atom_lists cs bs (then_second (atom_cmp a b) _ h) in
      cc

mutual
  pub source_trans : (a b c : SourceTree) → source_cmp a b ≡ Less → source_cmp b c ≡ Less → source_cmp a c ≡ Less
  source_trans (col a) (col b) (col c) p q = nat_cmp_total.trans a b c p q
  source_trans (col a) (col b) (select c0 c1 c2 cs) p q = refl
  source_trans (col a) (select b0 b1 b2 bs) (col c) p q = cc
  source_trans (col a) (select b0 b1 b2 bs) (select c0 c1 c2 cs) p q = refl
  source_trans (select a0 a1 a2 xs) (col b) c p q = cc
  source_trans (select a0 a1 a2 xs) (select b0 b1 b2 bs) (col c) p q = cc
  source_trans (select a0 a1 a2 xs) (select b0 b1 b2 bs) (select c0 c1 c2 cs) p q =
      then_chain _ _ _ _ _ _ (nat_cmp_total.trans a0 b0 c0) (alike_left nat_cmp exact_unsigned a0 b0 c0) (alike_right nat_cmp exact_unsigned a0 b0 c0)
      (then_chain _ _ _ _ _ _ (nat_cmp_total.trans a1 b1 c1) (alike_left nat_cmp exact_unsigned a1 b1 c1) (alike_right nat_cmp exact_unsigned a1 b1 c1)
      (then_chain _ _ _ _ _ _ (nat_cmp_total.trans a2 b2 c2) (alike_left nat_cmp exact_unsigned a2 b2 c2) (alike_right nat_cmp exact_unsigned a2 b2 c2)
      (atoms_trans xs bs cs))) p q

  pub atom_trans : (a b c : AtomTree) → atom_cmp a b ≡ Less → atom_cmp b c ≡ Less → atom_cmp a c ≡ Less
  atom_trans (constant s) (constant t) (constant u) p q = nat_list_cmp_total.trans s t u p q
  atom_trans (constant s) b (whole c) p q = refl
  atom_trans (constant s) b (sub c r0 r1) p q = refl
  atom_trans (constant s) (whole b) (constant u) p q = cc
  atom_trans (constant s) (sub b q0 q1) (constant u) p q = cc
  atom_trans (whole a) (constant t) c p q = cc
  atom_trans (whole a) (whole b) (constant u) p q = cc
  atom_trans (whole a) (whole b) (whole c) p q = source_trans a b c p q
  atom_trans (whole a) b (sub c r0 r1) p q = refl
  atom_trans (whole a) (sub b q0 q1) (constant u) p q = cc
  atom_trans (whole a) (sub b q0 q1) (whole c) p q = cc
  atom_trans (sub a p0 p1) (constant t) c p q = cc
  atom_trans (sub a p0 p1) (whole b) c p q = cc
  atom_trans (sub a p0 p1) (sub b q0 q1) (constant u) p q = cc
  atom_trans (sub a p0 p1) (sub b q0 q1) (whole c) p q = cc
  atom_trans (sub a p0 p1) (sub b q0 q1) (sub c r0 r1) p q =
      then_chain _ _ _ _ _ _ (source_trans a b c) (alike_left source_cmp exact_sources a b c) (alike_right source_cmp exact_sources a b c)
      (then_chain _ _ _ _ _ _ (place_trans p0 q0 r0) (alike_left place_cmp exact_places p0 q0 r0) (alike_right place_cmp exact_places p0 q0 r0)
      (place_trans p1 q1 r1)) p q

  pub atoms_trans : (a b c : Atoms) → atoms_cmp a b ≡ Less → atoms_cmp b c ≡ Less → atoms_cmp a c ≡ Less
  atoms_trans end end c p q = cc
  atoms_trans end (more b bs) end p q = cc
  atoms_trans end (more b bs) (more c cs) p q = refl
  atoms_trans (more a xs) end c p q = cc
  atoms_trans (more a xs) (more b bs) end p q = cc
  atoms_trans (more a xs) (more b bs) (more c cs) p q =
      then_chain _ _ _ _ _ _ (atom_trans a b c) (alike_left atom_cmp exact_atoms a b c) (alike_right atom_cmp exact_atoms a b c)
      (atoms_trans xs bs cs) p q

pub source_total : IsTotalOrder source_cmp
source_total = record {
  antisymm = source_antisymm;
  trans = source_trans;
  congr = λ a b c e. ap (λ x. source_cmp x c) (exact_sources a b e);
}

pub atom_total : IsTotalOrder atom_cmp
atom_total = record {
  antisymm = atom_antisymm;
  trans = atom_trans;
  congr = λ a b c e. ap (λ x. atom_cmp x c) (exact_atoms a b e);
}

pub atoms_total : IsTotalOrder atoms_cmp
atoms_total = record {
  antisymm = atoms_antisymm;
  trans = atoms_trans;
  congr = λ a b c e. ap (λ x. atoms_cmp x c) (exact_atom_lists a b e);
}
