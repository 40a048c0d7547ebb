-- What stands in a part of a set, a lookup or a graph.
use Rattle.std.specs.Prelude.{◌≡◌, ℕ, ◌+◌, ◌<◌, ◌^◌, List, Option, Some, None, slice_get}
use Rattle.fill_tokens.specs.declared.prices.Prices.{Prices}
use Rattle.fill_tree.specs.Cost.{conditions_cost, program_cost, atom_cost}
use Rattle.fill_tree.specs.Grammar.{HasPart, IsPart}
use Rattle.fill_tree.specs.Meaning.{atom_tree, program_tree}
use Rattle.fill_tree.specs.Order.{atoms_cmp, rank, atom_rank}
use Rattle.fill_tree.specs.Tree.{AtomTree, Atoms, constant, more}
use Rattle.fill_tree.specs.declared.tree.Atom.{Atom}
use Rattle.fill_arena.specs.Stands.{AtomFits, ConditionFits, ConditionsFit, Walks}
use Rattle.fill_arena.specs.declared.entry.ConditionItem.{ConditionItem}
use Rattle.fill_arena.specs.declared.entry.Edge.{Edge}
use Rattle.fill_arena.specs.declared.entry.Entry.{Entry}
use Rattle.fill_arena.specs.Best.{IsBest, IsBestOf}
use Rattle.fill_tree.specs.declared.chain.Chain.{Chain}
use Rattle.fill_rank.specs.declared.rows.Rows.{Rows}

-- the best condition of the item that is no constant is kept, and the item's constant
abbrev pub IsBestPart : Prices → List Entry → ConditionItem → Option Atom → Type 0
IsBestPart prices c i kept = IsBestOf atom_tree (atom_rank prices) (λ a. IsPart a × ConditionFits a c i (AtomFits a c)) kept

abbrev pub IsConstantOf : ConditionItem → Option Atom → Type 0
IsConstantOf i None = i.constant ≡ None
IsConstantOf i (Some a) = (t : List ℕ) × (i.constant ≡ Some t) × (atom_tree a ≡ constant t)

-- the chain is the best of a property by the cost that it carries; none is kept where nothing has it
abbrev pub IsBestChain : (Atoms → ℕ) → (Atoms → Type 0) → Option Chain → Type 0
IsBestChain cost P None = (p : Atoms) → ¬ (P p)
IsBestChain cost P (Some x) = (x.cost ≡ cost (program_tree x.atoms)) × IsBest (rank cost atoms_cmp) P (program_tree x.atoms)

-- the best rows of conditions, and the best of those that are not constants alone
pub record AreBestRows (prices : Prices) (c : List Entry) (items : List ConditionItem) (rows : Rows) : Type 0 where
  pub any : IsBestChain (conditions_cost prices) (λ p. ConditionsFit p c items) rows.any
  pub mixed : IsBestChain (conditions_cost prices) (λ p. HasPart p × ConditionsFit p c items) rows.mixed

-- a chain of a first atom and the rest, at the cost that the atom has and the rest carries; none where either is absent
abbrev pub IsPut : (AtomTree → ℕ) → Option Atom → Option Chain → Option Chain → Type 0
IsPut cost None rest made = made ≡ None
IsPut cost (Some a) None made = made ≡ None
IsPut cost (Some a) (Some x) made =
    (y : Chain) × (made ≡ Some y) × (program_tree y.atoms ≡ more (atom_tree a) (program_tree x.atoms)) × (y.cost ≡ cost (atom_tree a) + x.cost)

-- what the atom and the rest cost together is one of the machine's numbers
abbrev pub IsCheap : (AtomTree → ℕ) → Option Atom → Option Chain → Type 0
IsCheap cost None rest = Unit {0}
IsCheap cost (Some a) None = Unit {0}
IsCheap cost (Some a) (Some x) = cost (atom_tree a) + x.cost < 2 ^ 64

-- an atom of a program, with what the program costs for each of them
abbrev pub link_cost : Prices → AtomTree → ℕ
link_cost prices a = prices.atom + atom_cost prices a

-- for each node the best program that a walk over the edges from it to the last node has
pub record AreBestRests (prices : Prices) (c : List Entry) (edges : List Edge) (last : ℕ) (table : List (Option Chain)) : Type 0 where
  pub each : (n : ℕ) (o : Option Chain) → slice_get table n ≡ Some o → IsBestChain (program_cost prices) (λ p. Walks p c edges last n) o
