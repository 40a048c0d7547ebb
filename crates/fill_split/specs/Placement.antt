-- the branches of a list of items under a rule
use Rattle.std.specs.Prelude.{◌≡◌, ◌≢◌, ℕ, ◌<◌, ◌≤◌, ◌⊎◌, List, [], ◌∷◌, ◌++◌, Some, slice_get, slice_set, length}
use Rattle.fill_split.specs.declared.place.TheConstants.{MOST_BRANCHES}
use Rattle.fill_split.specs.declared.rule.Placing.{Placing}
use Rattle.fill_split.specs.declared.rule.Placing.TheVariants.{First, Lightest}

-- of the branches that fit together with the item, the rule takes b at place k: the first of them, or of those whose weight together with the item is least the first. Where no other one fits, nothing is said of weights
abbrev pub Prefers : {I : Type 0} → Placing → (List I → Type 0) → (List I → ℕ → Type 0) → List (List I) → I → ℕ → List I → Type 0
Prefers {I} First fits weight bs x k b = (j : ℕ) (c : List I) → j < k → slice_get bs j ≡ Some c → fits (c ++ x ∷ []) → ⊥
Prefers {I} Lightest fits weight bs x k b =
    (j : ℕ) (c : List I) → j ≢ k → slice_get bs j ≡ Some c → fits (c ++ x ∷ []) →
    (w : ℕ) × (v : ℕ) × weight (b ++ x ∷ []) w × weight (c ++ x ∷ []) v × ((u : ℕ) → weight (c ++ x ∷ []) u → (w ≤ u) × (j < k → w < u))

-- the item goes to the branch b at place k
pub record GoesTo {I : Type 0} (rule : Placing) (fits : List I → Type 0) (weight : List I → ℕ → Type 0) (bs : List (List I)) (x : I) (k : ℕ) (b : List I) : Type 0 where
  pub here : slice_get bs k ≡ Some b
  pub fitting : fits (b ++ x ∷ [])
  pub preferred : Prefers rule fits weight bs x k b

-- no branch fits together with the item
abbrev pub NoneFits : {I : Type 0} → (List I → Type 0) → List (List I) → I → Type 0
NoneFits {I} fits bs x = (j : ℕ) (b : List I) → slice_get bs j ≡ Some b → fits (b ++ x ∷ []) → ⊥

-- the branches after one more item: it stands at the end of the branch that it goes to, and is a new last branch where none fits together with it
abbrev pub Follows : {I : Type 0} → Placing → (List I → Type 0) → (List I → ℕ → Type 0) → List (List I) → I → List (List I) → Type 0
Follows {I} rule fits weight bs x after =
    ((k : ℕ) × (b : List I) × GoesTo rule fits weight bs x k b × (after ≡ slice_set bs k (b ++ x ∷ [])))
    ⊎ (NoneFits fits bs x × (after ≡ bs ++ (x ∷ []) ∷ []))

-- the items are placed one after the other, beside the branches so far
abbrev pub PlacedFrom : {I : Type 0} → Placing → (List I → Type 0) → (List I → ℕ → Type 0) → List (List I) → List I → List (List I) → Type 0
PlacedFrom rule fits weight so_far [] all = all ≡ so_far
PlacedFrom {I} rule fits weight so_far (x ∷ xs) all =
    (next : List (List I)) × Follows rule fits weight so_far x next × PlacedFrom rule fits weight next xs all

abbrev pub Placed : {I : Type 0} → Placing → (List I → Type 0) → (List I → ℕ → Type 0) → List I → List (List I) → Type 0
Placed rule fits weight items all = PlacedFrom rule fits weight [] items all

-- the items have as many branches as there may be, and one more item fits together with none of them
pub record OpensNinth {I : Type 0} (rule : Placing) (fits : List I → Type 0) (weight : List I → ℕ → Type 0) (items : List I) (x : I) : Type 0 where
  pub branches : List (List I)
  pub placed : Placed rule fits weight items branches
  pub eight : length branches ≡ MOST_BRANCHES
  pub none : NoneFits fits branches x
