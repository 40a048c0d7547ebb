-- folds that are kept for a list of items
use Rattle.std.specs.Prelude.{◌≡◌, ℕ, ◌*◌, ◌≤◌, ◌⊎◌, List, [], ◌∷◌, ◌++◌, Some, slice_get, slice_set, length}
use Rattle.std.specs.List.{AllZip}
use Rattle.fill_split.specs.declared.folds.Fold.{Fold}
use Rattle.fill_split.specs.declared.folds.Folds.{Folds}
use Rattle.fill_split.specs.declared.maker.Maker.{Ghosts}
use Rattle.fill_split.specs.declared.place.TheConstants.{MOST_BRANCHES}
use Rattle.fill_split.specs.declared.rule.Placing.{Placing}
use Rattle.fill_split.specs.Placement.{GoesTo, NoneFits, Placed}

-- each kept value stands for the item alone
abbrev pub SinglesStand : {K I : Type 0} → (K → List I → Type 0) → List K → List I → Type 0
SinglesStand stands ks items = AllZip (λ k x. stands k (x ∷ [])) ks items

-- each branch's kept value stands for the branch
abbrev pub KeptStand : {K I : Type 0} → (K → List I → Type 0) → List (Fold K) → List (List I) → Type 0
KeptStand stands folds bs = AllZip (λ f b. stands f.kept b) folds bs

-- how an item came to its branch: what stands for it alone, the place of the branch, and what stands for the branch as it was then
pub record Spot (K : Type 0) : Type 0 where
  pub one : K
  pub branch : ℕ
  pub kept : K

-- two kept values and a place for each item
abbrev pub spots : {K : Type 0} → List K → List ℕ → List (Spot K)
spots [] places = []
spots (one ∷ []) places = []
spots (one ∷ kept ∷ ks) [] = []
spots (one ∷ kept ∷ ks) (branch ∷ places) = (record { one = one; branch = branch; kept = kept }) ∷ spots ks places

-- of the two values of each item those that stand for the item alone
abbrev pub ones : {K : Type 0} → List K → List K
ones [] = []
ones (one ∷ []) = []
ones (one ∷ kept ∷ ks) = one ∷ ones ks

-- the branch's items are those at its places, and its kept value stands for them, as does the one at its place in the list of kept values
pub record BranchStands {K I : Type 0} (stands : K → List I → Type 0) (items : List I) (ks : List K) (f : Fold K) (b : List I) : Type 0 where
  pub kept : stands f.kept b
  pub picked : AllZip (λ i x. slice_get items i ≡ Some x) f.items b
  pub listed : (k : K) × (slice_get ks f.place ≡ Some k) × stands k b

abbrev pub AllStand : {K I : Type 0} → (K → List I → Type 0) → List I → List K → List (Fold K) → List (List I) → Type 0
AllStand stands items ks folds bs = AllZip (BranchStands stands items ks) folds bs

-- the item opened that branch or joined it, as the rule places it, and the spot's values stand for the item and for the branch with it
pub record ComesTo {K I : Type 0} (stands : K → List I → Type 0) (rule : Placing) (fits : List I → Type 0) (weight : List I → ℕ → Type 0) (bs : List (List I)) (x : I) (spot : Spot K) (next : List (List I)) : Type 0 where
  pub one : stands spot.one (x ∷ [])
  pub list : List I
  pub kept : stands spot.kept list
  pub how : ((spot.branch ≡ length bs) × (list ≡ x ∷ []) × (next ≡ bs ++ list ∷ []) × NoneFits fits bs x)
      ⊎ ((b : List I) × GoesTo rule fits weight bs x spot.branch b × (list ≡ b ++ x ∷ []) × (next ≡ slice_set bs spot.branch list))

-- the items came to their spots one after the other
abbrev pub Came : {K I : Type 0} → (K → List I → Type 0) → Placing → (List I → Type 0) → (List I → ℕ → Type 0) → List (List I) → List I → List (Spot K) → List (List I) → Type 0
Came stands rule fits weight so_far [] [] end = end ≡ so_far
Came stands rule fits weight so_far [] (spot ∷ spots) end = ⊥
Came stands rule fits weight so_far (x ∷ xs) [] end = ⊥
Came {K} {I} stands rule fits weight so_far (x ∷ xs) (spot ∷ spots) end =
    (next : List (List I)) × ComesTo stands rule fits weight so_far x spot next × Came stands rule fits weight next xs spots end

-- the kept values and the places tell how the items came to no more branches than there may be
pub record Traced {K I : Type 0} (stands : K → List I → Type 0) (rule : Placing) (fits : List I → Type 0) (weight : List I → ℕ → Type 0) (items : List I) (ks : List K) (places : List ℕ) : Type 0 where
  pub branches : List (List I)
  pub came : Came stands rule fits weight [] items (spots ks places) branches
  pub few : length branches ≤ MOST_BRANCHES
  pub paired : length ks ≡ 2 * length places

-- what is kept stands for the items: the folds are their branches under the rule, no more than there may be, each with a value that stands for it, and the kept values tell how the items came there
pub record Stand {K I : Type 0} (stands : K → List I → Type 0) (rule : Placing) (fits : List I → Type 0) (weight : List I → ℕ → Type 0) (items : List I) (ks : List K) (places : List ℕ) (folds : List (Fold K)) : Type 0 where
  pub branches : List (List I)
  pub placed : Placed rule fits weight items branches
  pub few : length branches ≤ MOST_BRANCHES
  pub each : AllStand stands items ks folds branches
  pub came : Came stands rule fits weight [] items (spots ks places) branches
  pub paired : length ks ≡ 2 * length places

module _ {S I K T B : Type 0} where
  -- the rule by which the folds place items
  abbrev pub rule_of : Folds S I K T B → Placing
  rule_of folds = folds.rule

  -- the branches with what stands for them
  abbrev pub branches_of : Folds S I K T B → List (Fold K)
  branches_of folds = folds.branches.items

  -- all kept values
  abbrev pub kept_of : Folds S I K T B → List K
  kept_of folds = folds.kept.items

  -- what is kept for items whose standing, fitting and weight are these
  abbrev pub StandsBy : (K → List I → Type 0) → (List I → Type 0) → (List I → ℕ → Type 0) → List I → Folds S I K T B → Type 0
  StandsBy stands fits weight items folds = Stand stands folds.rule fits weight items folds.kept.items folds.places folds.branches.items

  abbrev pub TracedBy : (K → List I → Type 0) → (List I → Type 0) → (List I → ℕ → Type 0) → List I → Folds S I K T B → Type 0
  TracedBy stands fits weight items folds = Traced stands folds.rule fits weight items folds.kept.items folds.places

  -- the folds stand in this maker for the items
  abbrev pub FoldsStand : Ghosts S I K T B → S → List I → Folds S I K T B → Type 0
  FoldsStand m maker items folds = StandsBy (m.stands maker) (m.fits (m.base maker)) (m.weight (m.base maker)) items folds

  -- all folds that stood in one maker stand in the other
  abbrev pub AllStay : Ghosts S I K T B → S → S → Type 0
  AllStay m a b = (items : List I) (folds : Folds S I K T B) → FoldsStand m a items folds → FoldsStand m b items folds
