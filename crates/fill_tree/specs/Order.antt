-- The order of trees, and which of two programs is before the other.
use Rattle.std.specs.Prelude.{◌≡◌, ◌⊎◌, ℕ, List}
use Rattle.std.specs.declared.cmp.Ordering.{Ordering}
use Rattle.std.specs.declared.cmp.Ordering.TheVariants.{Less, Equal, Greater}
use Rattle.std.specs.Ordering.{nat_cmp, ordering_then}
use Rattle.std.specs.Cmp.Lexicographic.{slice_cmp}
use Rattle.fill_tokens.specs.Place.{place_cmp}
use Rattle.fill_tokens.specs.Prices.{place_cost}
use Rattle.fill_tokens.specs.declared.place.Place.{Place}
use Rattle.fill_tokens.specs.declared.prices.Prices.{Prices}
use Rattle.fill_tree.specs.Cost.{source_cost, atom_cost, conditions_cost, program_cost}
use Rattle.fill_tree.specs.Meaning.{program_tree}
use Rattle.fill_tree.specs.Tree.{SourceTree, AtomTree, Atoms, col, select, constant, whole, sub, end, more}
use Rattle.fill_tree.specs.declared.chain.Chain.{Chain}

-- by character numbers from the left, a proper prefix first
abbrev pub text_cmp : List ℕ → List ℕ → Ordering
text_cmp = slice_cmp nat_cmp

abbrev mutual
  pub source_cmp : SourceTree → SourceTree → Ordering
  source_cmp (col a) (col b) = nat_cmp a b
  source_cmp (col a) (select b0 b1 b2 bs) = Less
  source_cmp (select a0 a1 a2 cs) (col b) = Greater
  source_cmp (select a0 a1 a2 cs) (select b0 b1 b2 bs) =
      ordering_then (nat_cmp a0 b0) (ordering_then (nat_cmp a1 b1) (ordering_then (nat_cmp a2 b2) (atoms_cmp cs bs)))

  -- constants, then whole sources, then pieces
  pub atom_cmp : AtomTree → AtomTree → Ordering
  atom_cmp (constant s) (constant t) = text_cmp s t
  atom_cmp (constant s) (whole b) = Less
  atom_cmp (constant s) (sub b q0 q1) = Less
  atom_cmp (whole a) (constant t) = Greater
  atom_cmp (whole a) (whole b) = source_cmp a b
  atom_cmp (whole a) (sub b q0 q1) = Less
  atom_cmp (sub a p0 p1) (constant t) = Greater
  atom_cmp (sub a p0 p1) (whole b) = Greater
  atom_cmp (sub a p0 p1) (sub b q0 q1) = ordering_then (source_cmp a b) (ordering_then (place_cmp p0 q0) (place_cmp p1 q1))

  -- in order from the left, a proper prefix first
  pub atoms_cmp : Atoms → Atoms → Ordering
  atoms_cmp end end = Equal
  atoms_cmp end (more b bs) = Less
  atoms_cmp (more a cs) end = Greater
  atoms_cmp (more a cs) (more b bs) = ordering_then (atom_cmp a b) (atoms_cmp cs bs)

-- by the cost, and then by the order of what costs the same
abbrev pub rank : {A : Type 0} → (A → ℕ) → (A → A → Ordering) → A → A → Ordering
rank cost cmp x y = ordering_then (nat_cmp (cost x) (cost y)) (cmp x y)

abbrev pub place_rank : Prices → Place → Place → Ordering
place_rank prices = rank (place_cost prices) place_cmp

abbrev pub source_rank : Prices → SourceTree → SourceTree → Ordering
source_rank prices = rank (source_cost prices) source_cmp

-- as atoms of a program; atoms that are no constants are in the same order as conditions
abbrev pub atom_rank : Prices → AtomTree → AtomTree → Ordering
atom_rank prices = rank (atom_cost prices) atom_cmp

-- rows of conditions of a lookup
abbrev pub row_rank : Prices → Atoms → Atoms → Ordering
row_rank prices = rank (conditions_cost prices) atoms_cmp

-- chains by the costs that they carry
abbrev pub chain_rank : Chain → Chain → Ordering
chain_rank x y = ordering_then (nat_cmp x.cost y.cost) (atoms_cmp (program_tree x.atoms) (program_tree y.atoms))

-- programs by cost, by a table of prices, and then by their atoms
abbrev pub program_cmp : Prices → Atoms → Atoms → Ordering
program_cmp prices p q = ordering_then (nat_cmp (program_cost prices p) (program_cost prices q)) (atoms_cmp p q)

-- the first program costs less, or as much and comes earlier
abbrev pub Before : Prices → Atoms → Atoms → Type 0
Before prices p q = program_cmp prices p q ≡ Less

-- the first program is the second or before it
abbrev pub NotAfter : Prices → Atoms → Atoms → Type 0
NotAfter prices p q = ¬ Before prices q p

-- one of the two is before the other, and not both
abbrev pub OneIsBefore : Prices → Atoms → Atoms → Type 0
OneIsBefore prices p q = (Before prices p q × ¬ Before prices q p) ⊎ (Before prices q p × ¬ Before prices p q)
