-- why a change of a list of items is refused
use Rattle.std.specs.Prelude.{◌≡◌, ℕ, ◌<◌, ◌≤◌, ◌⊎◌, List, [], ◌∷◌, Some, slice_get, take}
use Rattle.fill_split.specs.declared.rule.Placing.{Placing}
use Rattle.fill_split.specs.declared.change.FoldError.{FoldError}
use Rattle.fill_split.specs.declared.change.FoldError.TheVariants.{Alone, Ninth, NoMemory}
use Rattle.fill_split.specs.Placement.{OpensNinth}

-- the item at that place does not fit alone
abbrev pub NotAlone : {I : Type 0} → (List I → Type 0) → List I → ℕ → Type 0
NotAlone {I} fits items i = (x : I) × (slice_get items i ≡ Some x) × (fits (x ∷ []) → ⊥)

-- the item at that place would open a ninth branch beside those of the items before it
abbrev pub NinthAt : {I : Type 0} → Placing → (List I → Type 0) → (List I → ℕ → Type 0) → List I → ℕ → Type 0
NinthAt {I} rule fits weight items i = (x : I) × (slice_get items i ≡ Some x) × OpensNinth rule fits weight (take i items) x

-- the item at that place can't be placed
abbrev pub Unplaceable : {I : Type 0} → Placing → (List I → Type 0) → (List I → ℕ → Type 0) → List I → ℕ → Type 0
Unplaceable rule fits weight items i = NotAlone fits items i ⊎ NinthAt rule fits weight items i

-- each item from the first place on and before the second can be placed
pub record IsFirstFrom {I : Type 0} (rule : Placing) (fits : List I → Type 0) (weight : List I → ℕ → Type 0) (items : List I) (at i : ℕ) : Type 0 where
  pub from : at ≤ i
  pub earlier : (j : ℕ) → at ≤ j → j < i → Unplaceable rule fits weight items j → ⊥

-- the first item, in order from the place, that can't be placed, and why
abbrev pub Refuses : {I : Type 0} → Placing → (List I → Type 0) → (List I → ℕ → Type 0) → List I → ℕ → FoldError → Type 0
Refuses rule fits weight items at (Alone i) = IsFirstFrom rule fits weight items at i × NotAlone fits items i
Refuses rule fits weight items at (Ninth i) = IsFirstFrom rule fits weight items at i × (NotAlone fits items i → ⊥) × NinthAt rule fits weight items i
Refuses rule fits weight items at NoMemory = Unit {0}

-- the one item that is put in does not fit alone
abbrev pub IsAlone : {I : Type 0} → (List I → Type 0) → List I → ℕ → FoldError → Type 0
IsAlone {I} fits put at (Alone i) = (i ≡ at) × ((x : I) × (put ≡ x ∷ []) × (fits (x ∷ []) → ⊥))
IsAlone fits put at (Ninth i) = ⊥
IsAlone fits put at NoMemory = Unit {0}
