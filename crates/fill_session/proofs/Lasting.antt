-- What of branches that stood before an edit holds after it.
use Rattle.std.proofs.Common.{◌≡◌, ℕ, zero, suc, ◌+◌, List, [], ◌∷◌, drop, Some, sym, ap, ◌∙◌, subst, arith}
use Rattle.std.specs.Prelude.{slice_get, All, Contains}
use Rattle.std.proofs.lemmas.List.Elements.{All-nil, All-append, All-contains, All-head, All-tail, All-weaker}
use Rattle.fill_text.specs.Data.{SheetData}
use Rattle.fill_split.specs.declared.folds.Fold.{Fold}
use Rattle.fill_split.proofs.Zips.{zip_some}
use Rattle.fill_tree.specs.Guard.{GuardHolds}
use Rattle.fill_tree.specs.Meaning.{program_tree}
use Rattle.fill_tree.specs.Separate.{IsLeastGuard}
use Rattle.fill_tree.specs.Tree.{Atoms}
use Rattle.fill_tree.specs.declared.guard.Guard.{Guard}
use Rattle.fill_tree.specs.declared.tree.Program.{Program}
use Rattle.fill_tree.specs.declared.user.Example.{Example}
use Rattle.fill_tree.specs.declared.user.Settings.{Settings}
use Rattle.fill_space.specs.declared.ground.Ground.{Ground}
use Rattle.fill_space.specs.Ground.{ChosenOn}
use Rattle.fill_space.specs.Spaces.{SpacesData, SpaceStands}
use Rattle.fill_session.specs.Before.{AreTold, HasChosen, HaveChosen, IsTold, shown_rows}
use Rattle.fill_session.specs.declared.branch.Branch.{Branch}

-- lists that one space stands for have the same chosen program
alike : (s : SpacesData) (k : ℕ) (l m : List Example) (p : Atoms) → SpaceStands s k l → SpaceStands s k m → ChosenOn s.ground l p → ChosenOn s.ground m p
alike s k l m p a b chosen = record {
  has = (b.exact p).0 ((a.exact p).1 chosen.has);
  least = λ q e. chosen.least q ((a.exact q).0 ((b.exact q).1 e));
}

-- the program of a branch with the same space
pub kept_chosen : (s : SpacesData) (folds : List (Fold ℕ)) (stood : List Branch) (k space : ℕ) (f : Fold ℕ) (x : Branch) (p : Program) → HaveChosen s folds stood
    → slice_get folds k ≡ Some f → slice_get stood k ≡ Some x → f.kept ≡ space → program_tree p ≡ program_tree x.program
    → (list : List Example) → SpaceStands s space list → ChosenOn s.ground list (program_tree p)
kept_chosen s folds stood k space f x p have at there same copied list stands =
    let found = zip_some (HasChosen s) folds stood k f have at in
    let one : found.0 ≡ x = (let e = found.1 in let d = there in cc) in
    let old : HasChosen s f x = subst (λ y. HasChosen s f y) one found.2 in
    let first : SpaceStands s space old.0 = subst (λ n. SpaceStands s n old.0) same old.1 in
    subst (λ (v : Atoms). ChosenOn s.ground list v) (sym copied) (alike s space old.0 list (program_tree x.program) first stands old.2)

-- the least guard of fewer rows that tells more rows apart is their least one
pub least_more : (settings : Settings) (sheet : SheetData) (few some inside outside : List ℕ) (h : Guard) → IsLeastGuard settings sheet few some h → All (Contains inside) few → All (Contains outside) some
    → All (λ row. GuardHolds sheet row h) inside → All (λ row. ¬ (GuardHolds sheet row h)) outside → IsLeastGuard settings sheet inside outside h
least_more settings sheet few some inside outside h least within without holds fails = record {
  separates = record { is = (least.separates).is; holds = holds; fails = fails };
  least = λ k tells. least.least k (record {
    is = tells.is;
    holds = All-weaker (Contains inside) (λ row. GuardHolds sheet row k) (λ row c. All-contains (λ row. GuardHolds sheet row k) inside row tells.holds c) few within;
    fails = All-weaker (Contains outside) (λ row. ¬ (GuardHolds sheet row k)) (λ row c. All-contains (λ row. ¬ (GuardHolds sheet row k)) outside row tells.fails c) some without;
  });
}

pub rows_among : (rows : List ℕ) (shown : List Branch) → All (λ x. All (Contains rows) x.rows) shown → All (Contains rows) (shown_rows shown)
rows_among rows [] h = All-nil (Contains rows)
rows_among rows (x ∷ shown) h =
    All-append (Contains rows) x.rows (shown_rows shown) (All-head (λ (x : Branch). All (Contains rows) x.rows) x shown h)
    (rows_among rows shown (All-tail (λ (x : Branch). All (Contains rows) x.rows) x shown h))

-- the branch at a place
pub told_at : (g : Ground) (shown : List Branch) (k : ℕ) (x : Branch) → AreTold g shown → slice_get shown k ≡ Some x → IsTold g x (drop (suc k) shown)
told_at g [] k x h at = absurd cc
told_at g (a ∷ shown) zero x h at = let same : a ≡ x = cc in subst (λ (y : Branch). IsTold g y shown) same h.0
told_at g (a ∷ shown) (suc k) x h at = told_at g shown k x h.1 at

pub is_told : (g : Ground) (shown later : List Branch) (k : ℕ) (x : Branch) → AreTold g shown → slice_get shown k ≡ Some x → later ≡ drop (k + 1) shown → IsTold g x later
is_told g shown later k x h at is =
    let step : k + 1 ≡ suc k = omega arith in
    subst (λ (v : List Branch). IsTold g x v) (sym (is ∙ ap (λ (n : ℕ). drop n shown) step)) (told_at g shown k x h at)
