-- The first rows of conditions of a lookup.
use Rattle.std.specs.Prelude.{◌≡◌, ℕ, List, Some}
use Rattle.fill_tokens.specs.declared.prices.Prices.{Prices}
use Rattle.fill_tree.specs.Cost.{atom_cost, conditions_cost}
use Rattle.fill_tree.specs.Grammar.{HasPart, IsPart}
use Rattle.fill_tree.specs.Order.{atom_cmp, atoms_cmp}
use Rattle.fill_tree.specs.Tree.{AtomTree, constant}
use Rattle.fill_arena.specs.Stands.{AtomFits, ConditionFits, ConditionsFit}
use Rattle.fill_arena.specs.declared.entry.ConditionItem.{ConditionItem}
use Rattle.fill_arena.specs.declared.entry.Entry.{Entry}
use Rattle.fill_best.specs.Cheapest.{AreCheapest}
use Rattle.fill_best.specs.declared.costed.Costed.{Costed}
use Rattle.fill_best.specs.declared.rows.Rows.{Rows}

-- the first rows, and the first of those that are not constants alone
pub record AreFirstRows (prices : Prices) (c : List Entry) (items : List ConditionItem) (k : ℕ) (rows : Rows) : Type 0 where
  pub any : AreCheapest (conditions_cost prices) atoms_cmp (λ p. ConditionsFit p c items) k rows.any.items
  pub mixed : AreCheapest (conditions_cost prices) atoms_cmp (λ p. HasPart p × ConditionsFit p c items) k rows.mixed.items

-- the condition that is the item's constant, and those that are none
abbrev pub IsConstantOf : ConditionItem → AtomTree → Type 0
IsConstantOf i a = (t : List ℕ) × (i.constant ≡ Some t) × (a ≡ constant t)

abbrev pub IsPartOf : List Entry → ConditionItem → AtomTree → Type 0
IsPartOf c i a = IsPart a × ConditionFits a c i (AtomFits a c)

-- what a constant costs as a condition
abbrev pub fixed_cost : Prices → AtomTree → ℕ
fixed_cost prices a = prices.constant_condition

-- the item's constant, at the cost of a condition; the first of the other conditions, at the costs of atoms
abbrev pub AreConstantsOf : Prices → ConditionItem → ℕ → List (Costed AtomTree) → Type 0
AreConstantsOf prices i k xs = AreCheapest (fixed_cost prices) atom_cmp (IsConstantOf i) k xs

abbrev pub AreFirstParts : Prices → List Entry → ConditionItem → ℕ → List (Costed AtomTree) → Type 0
AreFirstParts prices c i k xs = AreCheapest (atom_cost prices) atom_cmp (IsPartOf c i) k xs
