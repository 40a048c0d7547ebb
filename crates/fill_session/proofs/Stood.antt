-- What is held tells of its branches.
use Rattle.std.proofs.Common.{◌≡◌, ℕ, List, [], ◌∷◌, ◌++◌, Option, refl, sym, ap, ◌∙◌, subst}
use Rattle.std.specs.Prelude.{IfSome}
use Rattle.std.specs.List.{AllZip}
use Rattle.fill_split.specs.Standing.{BranchStands, branches_of}
use Rattle.fill_split.specs.declared.folds.Fold.{Fold}
use Rattle.fill_tree.specs.Separate.{IsLeastGuard}
use Rattle.fill_tree.specs.Tree.{Atoms}
use Rattle.fill_tree.specs.declared.guard.Guard.{Guard}
use Rattle.fill_tree.specs.declared.user.Example.{Example}
use Rattle.fill_space.specs.declared.ground.Ground.{Ground}
use Rattle.fill_space.specs.Ground.{ChosenOn}
use Rattle.fill_space.specs.Spaces.{SpacesData, SpaceStands}
use Rattle.fill_session.specs.Before.{AreTold, HaveChosen, IsTold, shown_rows}
use Rattle.fill_session.specs.Branches.{AreGuarded, BranchData, IsGuardBefore, all_rows, lists_of}
use Rattle.fill_session.specs.Edits.{rows_of}
use Rattle.fill_session.specs.State.{IsHeld, Shows}
use Rattle.fill_session.specs.declared.branch.Branch.{Branch}
use Rattle.fill_session.proofs.Held.{SpaceFolds, matched}

zip_rows : (shown : List Branch) (bs : List BranchData) → AllZip Shows shown bs → shown_rows shown ≡ all_rows (lists_of bs)
zip_rows [] [] z = refl
zip_rows [] (b ∷ bs) z = absurd z
zip_rows (x ∷ shown) [] z = absurd z
zip_rows (x ∷ shown) (b ∷ bs) z =
    ap (λ (v : List ℕ). v ++ shown_rows shown) (z.0).rows ∙ ap (λ (v : List ℕ). rows_of b.examples ++ v) (zip_rows shown bs z.1)

told_one : (g : Ground) (x : Branch) (b : BranchData) (shown : List Branch) (bs : List BranchData) → Shows x b → AllZip Shows shown bs → IsGuardBefore g (rows_of b.examples) (lists_of bs) b.guard → IsTold g x shown
told_one g x b shown [] shows z h =
    subst (λ (o : Option Guard). IfSome o (IsLeastGuard g.settings g.sheet x.rows (shown_rows shown))) (sym (shows.guard ∙ h)) tt
told_one g x b shown (c ∷ bs) shows z h =
    let rows = zip_rows shown (c ∷ bs) z in
    subst (λ (o : Option Guard). IfSome o (IsLeastGuard g.settings g.sheet x.rows (shown_rows shown))) (sym (shows.guard ∙ h.1))
    (subst (λ (v : List ℕ). IsLeastGuard g.settings g.sheet v (shown_rows shown) h.0) (sym shows.rows)
    (subst (λ (v : List ℕ). IsLeastGuard g.settings g.sheet (rows_of b.examples) v h.0) (sym rows) h.2))

told_all : (g : Ground) (shown : List Branch) (bs : List BranchData) → AllZip Shows shown bs → AreGuarded g bs → AreTold g shown
told_all g [] [] z h = tt
told_all g [] (b ∷ bs) z h = absurd z
told_all g (x ∷ shown) [] z h = absurd z
told_all g (x ∷ shown) (b ∷ bs) z h = (told_one g x b shown bs z.0 z.1 h.0, told_all g shown bs z.1 h.2)

chosen_all : (s : SpacesData) (xs : List Example) (ks : List ℕ) (fs : List (Fold ℕ)) (shown : List Branch) (bs : List BranchData) → AllZip (BranchStands (SpaceStands s) xs ks) fs (lists_of bs)
    → AllZip Shows shown bs → AreGuarded s.ground bs → HaveChosen s fs shown
chosen_all s xs ks [] [] [] f z h = tt
chosen_all s xs ks [] (x ∷ shown) [] f z h = absurd z
chosen_all s xs ks (y ∷ fs) shown [] f z h = absurd f
chosen_all s xs ks [] shown (b ∷ bs) f z h = absurd f
chosen_all s xs ks (y ∷ fs) [] (b ∷ bs) f z h = absurd z
chosen_all s xs ks (y ∷ fs) (x ∷ shown) (b ∷ bs) f z h =
    ((b.examples, (f.0).kept, subst (λ (p : Atoms). ChosenOn s.ground b.examples p) (sym (z.0).program) h.1), chosen_all s xs ks fs shown bs f.1 z.1 h.2)

module _ {T : Type 0} (s : SpacesData) (xs : List Example) (folds : SpaceFolds T) (shown : List Branch) (h : IsHeld s xs folds shown) where
  pub held_told : (stood : List Branch) → stood ≡ shown → AreTold s.ground stood
  held_told stood same =
      let are = (h.session).shown in
      subst (λ (v : List Branch). AreTold s.ground v) (sym same) (told_all s.ground shown are.0 are.2 (are.1).guarded)

  pub held_chosen : (fs : List (Fold ℕ)) (stood : List Branch) → fs ≡ branches_of folds → stood ≡ shown → HaveChosen s fs stood
  held_chosen fs stood all same =
      let are = (h.session).shown in
      let m = matched s xs folds h.stand h.rule (lists_of are.0) (are.1).placed in
      subst (λ (v : List Branch). HaveChosen s fs v) (sym same)
      (subst (λ (v : List (Fold ℕ)). HaveChosen s v shown) (sym all) (chosen_all s xs folds.kept.items folds.branches.items shown are.0 m.each are.2 (are.1).guarded))
