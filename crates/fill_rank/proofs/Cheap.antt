-- What is compared and added up costs less than 2^64.
use Rattle.std.proofs.Common.{◌≡◌, ℕ, ◌+◌, ◌<◌, ◌≤◌, ◌^◌, List, ◌∷◌, length, Option, Some, None, refl, sym, subst}
use Rattle.std.specs.Option.{IfSome}
use Rattle.fill_tokens.specs.declared.prices.Prices.{Prices}
use Rattle.fill_tokens.specs.Prices.{ArePrices}
use Rattle.fill_tree.specs.Cost.{source_cost, atom_cost, condition_cost, conditions_cost, program_cost}
use Rattle.fill_tree.specs.Meaning.{atom_tree, source_tree, program_tree}
use Rattle.fill_tree.specs.Tree.{AtomTree, Atoms, constant, more}
use Rattle.fill_tree.specs.declared.tree.Atom.{Atom}
use Rattle.fill_tree.specs.declared.tree.Source.{Source}
use Rattle.fill_arena.specs.Contents.{EachIn}
use Rattle.fill_arena.specs.Stands.{AtomFits, AtomStands, ConditionFits, ConditionsFit, SourceFits, Walks, PartFits, PartStands, ConstantFits, ConstantStands, WalksAreCheap}
use Rattle.fill_arena.specs.WellMade.{IsWellMade, IsAtomItem, IsConditionItem, IsSourceItem}
use Rattle.fill_arena.specs.declared.entry.AtomItem.{AtomItem}
use Rattle.fill_arena.specs.declared.entry.ConditionItem.{ConditionItem}
use Rattle.fill_arena.specs.declared.entry.Edge.{Edge}
use Rattle.fill_arena.specs.declared.entry.Entry.{Entry}
use Rattle.fill_arena.specs.declared.entry.SourceItem.{SourceItem}
use Rattle.fill_arena.proofs.Edges.{walks_more}
use Rattle.fill_arena.proofs.Costs.{source_item_present, atom_item_present, atom_present, row_present}
use Rattle.fill_arena.specs.Best.{IsBest, IsBestOf}
use Rattle.fill_tree.specs.Order.{source_rank, atom_rank}
use Rattle.fill_arena.specs.Contents.{SomeBelow}
use Rattle.fill_rank.specs.Sets.{AreBestRows, IsBestChain, IsBestPart, IsCheap, IsConstantOf, link_cost}
use Rattle.fill_tree.specs.declared.chain.Chain.{Chain}
use Rattle.fill_rank.specs.declared.rows.Rows.{Rows}

module _ (prices : Prices) (small : ArePrices prices) (c : List Entry) (made : IsWellMade c) (n : ℕ) where
  pub source_cheap : (i : SourceItem) → IsSourceItem c n i → (x : Source) → IsBest (source_rank prices) (λ y. SourceFits y c i) (source_tree x) → source_cost prices (source_tree x) < 2 ^ 64
  source_cheap i is x best = source_item_present prices small c made (source_tree x) n i is best.has

  pub sources_cheap : (items : List SourceItem) → EachIn (IsSourceItem c n) items → (k : ℕ) (o : Option Source) → IsBestOf source_tree (source_rank prices) (λ x. SomeBelow k items (λ y. SourceFits x c y)) o →
      IfSome o (λ x. source_cost prices (source_tree x) < 2 ^ 64)
  sources_cheap items each k None best = tt
  sources_cheap items each k (Some x) best =
      let h = best.has in
      source_item_present prices small c made (source_tree x) n h.1 (each h.0 h.1 h.3) h.4

  -- atoms of a property that makes them fit their item
  module _ (Fits : AtomItem → AtomTree → Type 0) (fits : (i : AtomItem) (a : AtomTree) → Fits i a → AtomFits a c i) where
    pub atom_cheap : (i : AtomItem) → IsAtomItem c n i → (o : Option Atom) → IsBestOf atom_tree (atom_rank prices) (Fits i) o → IfSome o (λ x. atom_cost prices (atom_tree x) < 2 ^ 64)
    atom_cheap i is None best = tt
    atom_cheap i is (Some x) best = atom_item_present prices small c made (atom_tree x) n i is (fits i (atom_tree x) best.has)

    pub atoms_cheap : (items : List AtomItem) → EachIn (IsAtomItem c n) items → (k : ℕ) (o : Option Atom) → IsBestOf atom_tree (atom_rank prices) (λ a. SomeBelow k items (λ y. Fits y a)) o →
        IfSome o (λ x. atom_cost prices (atom_tree x) < 2 ^ 64)
    atoms_cheap items each k None best = tt
    atoms_cheap items each k (Some x) best =
        let h = best.has in
        atom_item_present prices small c made (atom_tree x) n h.1 (each h.0 h.1 h.3) (fits h.1 (atom_tree x) h.4)

pub part_fits : (c : List Entry) (i : AtomItem) (a : AtomTree) → PartFits c i a → AtomFits a c i
part_fits c i a h = h.1

pub constant_fits : (c : List Entry) (i : AtomItem) (a : AtomTree) → ConstantFits c i a → AtomFits a c i
constant_fits c i a h = h.1

module _ (prices : Prices) (small : ArePrices prices) (c : List Entry) (made : IsWellMade c) (s : ℕ) where
  pub part_cheap : (o : Option Atom) → IsBestOf atom_tree (atom_rank prices) (PartStands c s) o → IfSome o (λ x. atom_cost prices (atom_tree x) < 2 ^ 64)
  part_cheap None best = tt
  part_cheap (Some x) best = atom_present prices small c made s (atom_tree x) best.has.1

  pub constant_cheap : (o : Option Atom) → IsBestOf atom_tree (atom_rank prices) (ConstantStands c s) o → IfSome o (λ x. atom_cost prices (atom_tree x) < 2 ^ 64)
  constant_cheap None best = tt
  constant_cheap (Some x) best = atom_present prices small c made s (atom_tree x) best.has.1

-- a condition before a row
module _ (prices : Prices) (small : ArePrices prices) (c : List Entry) (made : IsWellMade c) (n : ℕ) (i : ConditionItem) (is : List ConditionItem) (older : EachIn (IsConditionItem c n) (i ∷ is)) (short : length (i ∷ is) ≤ 3) where
  row_cheap : (o : Option Atom) (r : Option Chain) → ((a : Atom) → o ≡ Some a → ConditionFits (atom_tree a) c i (AtomFits (atom_tree a) c)) →
      ((x : Chain) → r ≡ Some x → (x.cost ≡ conditions_cost prices (program_tree x.atoms)) × ConditionsFit (program_tree x.atoms) c is) → IsCheap (condition_cost prices) o r
  row_cheap None r first rest = tt
  row_cheap (Some a) None first rest = tt
  row_cheap (Some a) (Some x) first rest =
      let row = rest x refl in
      let whole = row_present prices small c made n (i ∷ is) (more (atom_tree a) (program_tree x.atoms)) older short (first a refl, row.1) in
      subst (λ m. condition_cost prices (atom_tree a) + m < 2 ^ 64) (sym row.0) whole

  constant_of : (a : AtomTree) (t : List ℕ) → i.constant ≡ Some t → a ≡ constant t → ConditionFits a c i (AtomFits a c)
  constant_of a t h e = subst (λ b. ConditionFits b c i (AtomFits b c)) (sym e) h

  from_constant : (o : Option Atom) → IsConstantOf i o → (a : Atom) → o ≡ Some a → ConditionFits (atom_tree a) c i (AtomFits (atom_tree a) c)
  from_constant None k a e = absurd cc
  from_constant (Some b) k a e = let same : b ≡ a = cc in subst (λ x. ConditionFits (atom_tree x) c i (AtomFits (atom_tree x) c)) same (constant_of (atom_tree b) k.0 k.1 k.2)

  from_part : (o : Option Atom) → IsBestPart prices c i o → (a : Atom) → o ≡ Some a → ConditionFits (atom_tree a) c i (AtomFits (atom_tree a) c)
  from_part None k a e = absurd cc
  from_part (Some b) k a e = let same : b ≡ a = cc in subst (λ x. ConditionFits (atom_tree x) c i (AtomFits (atom_tree x) c)) same k.has.1

  from_row : (P : Atoms → Type 0) → ((p : Atoms) → P p → ConditionsFit p c is) → (r : Option Chain) → IsBestChain (conditions_cost prices) P r →
      (x : Chain) → r ≡ Some x → (x.cost ≡ conditions_cost prices (program_tree x.atoms)) × ConditionsFit (program_tree x.atoms) c is
  from_row P fits None k x e = absurd cc
  from_row P fits (Some y) k x e =
      let same : y ≡ x = cc in
      subst (λ (z : Chain). (z.cost ≡ conditions_cost prices (program_tree z.atoms)) × ConditionsFit (program_tree z.atoms) c is) same (k.0, fits (program_tree y.atoms) k.1.has)

  pub rows_cheap : (fixed part : Option Atom) (rows : Rows) → IsConstantOf i fixed → IsBestPart prices c i part → AreBestRows prices c is rows →
      IsCheap (condition_cost prices) fixed rows.any × IsCheap (condition_cost prices) part rows.any × IsCheap (condition_cost prices) fixed rows.mixed
  rows_cheap fixed part rows k b are =
      let any = from_row (λ p. ConditionsFit p c is) (λ p h. h) rows.any are.any in
      let mixed = from_row _ (λ p h. h.1) rows.mixed are.mixed in
      (row_cheap fixed rows.any (from_constant fixed k) any, row_cheap part rows.any (from_part part b) any, row_cheap fixed rows.mixed (from_constant fixed k) mixed)

-- an atom before the rest of a program
pub link_cheap : (prices : Prices) (c : List Entry) (e : Edge) (others : List Edge) (last : ℕ) → WalksAreCheap prices c (e ∷ others) last → (a : Atom) → AtomStands c e.atoms (atom_tree a) →
    (o : Option Chain) → IsBestChain (program_cost prices) (λ p. Walks p c others last e.to) o → IsCheap (link_cost prices) (Some a) o
link_cheap prices c e others last cheap a stands None best = tt
link_cheap prices c e others last cheap a stands (Some x) best =
    let tail = walks_more c e others last (program_tree x.atoms) e.to best.1.has in
    let whole = cheap (more (atom_tree a) (program_tree x.atoms)) e.from (e, (0, refl), (refl, stands, tail)) in
    subst (λ m. link_cost prices (atom_tree a) + m < 2 ^ 64) (sym best.0) whole
