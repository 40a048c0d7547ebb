-- What the folds of a session tell of their lists: where their examples stand, how many rows they have, and which branches are made of them.
use Rattle.std.proofs.Common.{◌≡◌, ℕ, zero, suc, ◌+◌, ◌≤◌, List, [], ◌∷◌, ◌++◌, length, set, Some, refl, sym, ap, ◌∙◌, subst, ⊎_elim, length-append, arith}
use Rattle.std.specs.Prelude.{slice_get, All}
use Rattle.std.proofs.lemmas.List.Elements.{All-nil, All-cons, All-append}
use Rattle.fill_guard.specs.Read.{IsRowOf}
use Rattle.fill_split.specs.Placement.{PlacedFrom, Placed}
use Rattle.fill_split.specs.Standing.{BranchStands, branches_of, rule_of}
use Rattle.fill_split.specs.declared.folds.Fold.{Fold}
use Rattle.fill_split.specs.declared.rule.Placing.{Placing}
use Rattle.fill_split.proofs.Zips.{zip_lengths, zip_weaker}
use Rattle.fill_tree.specs.declared.user.Example.{Example}
use Rattle.fill_space.specs.declared.ground.Ground.{Ground}
use Rattle.fill_space.specs.Ground.{FitsOn, WeighsOn, MayStand}
use Rattle.fill_space.specs.Spaces.{SpacesData, SpaceStands}
use Rattle.fill_session.specs.Branches.{ArePlaced, BranchData, all_rows, lists_of, rule_of_profile}
use Rattle.fill_session.specs.Edits.{rows_of}
use Rattle.fill_session.specs.Fate.{EachHasProgram, FateIs}
use Rattle.fill_session.specs.Folded.{ArePicked, ArePickedAll, AreKept, AreBranchesOf, KeptFor, LacksGuard}
use Rattle.fill_session.specs.State.{AreShown, SpacesStand}
use Rattle.fill_session.specs.declared.branch.Branch.{Branch}
use Rattle.fill_session.specs.declared.error.EditError.{EditError}
use Rattle.fill_session.proofs.Held.{SpaceFolds}
use Rattle.fill_session.proofs.Picked.{below, read, flat_push}

-- as many rows as examples
rows_long : (list : List Example) → length (rows_of list) ≡ length list
rows_long [] = refl
rows_long (e ∷ list) = ap suc (rows_long list)

one_more_row : (bs : List (List Example)) (k : ℕ) (b : List Example) (x : Example) → slice_get bs k ≡ Some b → length (all_rows (set bs k (b ++ x ∷ []))) ≡ length (all_rows bs) + 1
one_more_row [] k b x h = absurd cc
one_more_row (a ∷ bs) zero b x h =
    let same : a ≡ b = cc in
    let one = length-append (rows_of (b ++ x ∷ [])) (all_rows bs) in
    let two = length-append (rows_of a) (all_rows bs) in
    let three = rows_long (b ++ x ∷ []) in
    let four = rows_long a in
    let five = length-append b (x ∷ []) in
    let six : length a ≡ length b = ap length same in
    omega arith
one_more_row (a ∷ bs) (suc k) b x h =
    let rest = one_more_row bs k b x h in
    let one = length-append (rows_of a) (all_rows (set bs k (b ++ x ∷ []))) in
    let two = length-append (rows_of a) (all_rows bs) in
    omega arith

-- placed examples are all there
module _ (rule : Placing) (fits : List Example → Type 0) (weight : List Example → ℕ → Type 0) where
  placed_rows : (so_far : List (List Example)) (xs : List Example) (all : List (List Example)) → PlacedFrom rule fits weight so_far xs all → length (all_rows all) ≡ length (all_rows so_far) + length xs
  placed_rows so_far [] all h = let same : length (all_rows all) ≡ length (all_rows so_far) = ap (λ (v : List (List Example)). length (all_rows v)) h in omega arith
  placed_rows so_far (x ∷ xs) all h =
      let rest = placed_rows h.0 xs all h.2 in
      let step : length (all_rows h.0) ≡ length (all_rows so_far) + 1 = ⊎_elim
      (λ j. ap (λ (v : List (List Example)). length (all_rows v)) j.3 ∙ one_more_row so_far j.0 j.1 x (j.2).here)
      (λ n. ap (λ (v : List (List Example)). length (all_rows v)) n.1 ∙ ap length (flat_push rows_of so_far (x ∷ [])) ∙ length-append (all_rows so_far) (rows_of (x ∷ [])))
      h.1 in
      omega arith

list_rows : (g : Ground) (xs : List Example) (places : List ℕ) (list : List Example) → ArePicked xs places list → All (MayStand g) xs → All (IsRowOf g.sheet) (rows_of list)
list_rows g xs [] [] z each = All-nil (IsRowOf g.sheet)
list_rows g xs [] (e ∷ list) z each = absurd z
list_rows g xs (i ∷ places) [] z each = absurd z
list_rows g xs (i ∷ places) (e ∷ list) z each =
    let may : MayStand g e = subst (λ v. MayStand g v) (read xs i e e z.0) (each i e (below xs i e z.0)) in
    All-cons (IsRowOf g.sheet) e.row (rows_of list) (may.first, may.last) (list_rows g xs places list z.1 each)

lists_rows : (g : Ground) (xs : List Example) (fs : List (Fold ℕ)) (lists : List (List Example)) → ArePickedAll xs fs lists → All (MayStand g) xs → All (IsRowOf g.sheet) (all_rows lists)
lists_rows g xs [] [] z each = All-nil (IsRowOf g.sheet)
lists_rows g xs [] (l ∷ lists) z each = absurd z
lists_rows g xs (f ∷ fs) [] z each = absurd z
lists_rows g xs (f ∷ fs) (l ∷ lists) z each = All-append (IsRowOf g.sheet) (rows_of l) (all_rows lists) (list_rows g xs f.items l z.0 each) (lists_rows g xs fs lists z.1 each)

module _ {T : Type 0} (s : SpacesData) (xs : List Example) (folds : SpaceFolds T) (fs : List (Fold ℕ)) (stand : SpacesStand s xs folds) (all : fs ≡ branches_of folds) where
  pub picked_all : ArePickedAll xs fs stand.branches
  picked_all = subst (λ v. ArePickedAll xs v stand.branches) (sym all)
      (zip_weaker (BranchStands (SpaceStands s) xs folds.kept.items) (λ (f : Fold ℕ) (l : List Example). ArePicked xs f.items l) (λ f l b. b.picked) folds.branches.items stand.branches stand.each)

  pub kept_all : AreKept s fs stand.branches
  kept_all = subst (λ v. AreKept s v stand.branches) (sym all)
      (zip_weaker (BranchStands (SpaceStands s) xs folds.kept.items) (KeptFor s)
      (λ f l b. record { stands = b.kept; size = sym (zip_lengths (λ i x. slice_get xs i ≡ Some x) f.items l b.picked) }) folds.branches.items stand.branches stand.each)

  pub short_all : length fs ≤ 8
  short_all =
      let few = stand.few in
      let size = zip_lengths (BranchStands (SpaceStands s) xs folds.kept.items) folds.branches.items stand.branches stand.each in
      let same : length fs ≡ length folds.branches.items = ap length all in
      omega arith

  pub few_rows : (rows : List ℕ) → length xs ≤ 64 → rows ≡ all_rows stand.branches → length rows ≤ 64
  few_rows rows few is =
      let count = placed_rows folds.rule (FitsOn s.ground) (WeighsOn s.ground) [] xs stand.branches stand.placed in
      let same : length rows ≡ length (all_rows stand.branches) = ap length is in
      omega arith

  pub each_row : (rows : List ℕ) → All (MayStand s.ground) xs → rows ≡ all_rows stand.branches → All (IsRowOf s.ground.sheet) rows
  each_row rows each is = subst (λ v. All (IsRowOf s.ground.sheet) v) (sym is) (lists_rows s.ground xs fs stand.branches picked_all each)

  module _ (rule : rule_of folds ≡ rule_of_profile s.ground.settings.profile) where
    are_placed : ArePlaced s.ground xs stand.branches
    are_placed = subst (λ (r : Placing). Placed r (FitsOn s.ground) (WeighsOn s.ground) xs stand.branches) rule stand.placed

    pub made_shown : (made : List Branch) → AreBranchesOf s.ground stand.branches made → AreShown s.ground xs made
    made_shown made h =
        let few : length h.0 ≤ 8 = (let size = lists_long h.0 in let same : length (lists_of h.0) ≡ length stand.branches = ap length h.1 in let limit = stand.few in omega arith) in
        (h.0, record { placed = subst (λ v. ArePlaced s.ground xs v) (sym h.1) are_placed; few = few; guarded = h.2 }, h.3)
      where
        lists_long : (bs : List BranchData) → length (lists_of bs) ≡ length bs
        lists_long [] = refl
        lists_long (b ∷ bs) = ap suc (lists_long bs)

    pub lacks_fate : (reason : EditError) → LacksGuard s.ground stand.branches reason → EachHasProgram s.ground xs → FateIs s.ground xs (Some reason)
    lacks_fate reason h each =
        subst (λ (r : EditError). FateIs s.ground xs (Some r)) (sym h.2) (each, (stand.branches, h.0, are_placed, stand.few, h.1, refl))
