-- other kept values in place of those that folds hold
use Rattle.std.specs.Prelude.{◌≡◌, ◌↔◌, ℕ, List, Some, slice_get}
use Rattle.std.specs.List.{AllZip}
use Rattle.fill_split.specs.declared.folds.Fold.{Fold}
use Rattle.fill_split.specs.declared.folds.Folds.{Folds}
use Rattle.fill_split.specs.declared.maker.Maker.{Ghosts}
use Rattle.fill_split.specs.Standing.{rule_of, branches_of, kept_of}

-- a branch of the same items, with the value at its place in the list
pub record IsRenewedBranch {K : Type 0} (ks : List K) (before after : Fold K) : Type 0 where
  pub items : after.items ≡ before.items
  pub place : after.place ≡ before.place
  pub kept : (k : K) → slice_get ks before.place ≡ Some k → after.kept ≡ k

-- folds of the same items and branches, which hold the given values
pub record IsRenewed {S I K T B : Type 0} (before : Folds S I K T B) (ks : List K) (after : Folds S I K T B) : Type 0 where
  pub rule : rule_of after ≡ rule_of before
  pub kept : kept_of after ≡ ks
  pub places : after.places ≡ before.places
  pub branches : AllZip (IsRenewedBranch ks) (branches_of before) (branches_of after)

-- the same lists fit in both makers, and they weigh the same
pub record MeanTheSame {S I K T B : Type 0} (m : Ghosts S I K T B) (a b : S) : Type 0 where
  pub fits : (l : List I) → m.fits (m.base a) l ↔ m.fits (m.base b) l
  pub weight : (l : List I) (n : ℕ) → m.weight (m.base a) l n ↔ m.weight (m.base b) l n

-- what the first value stands for in the first maker, the second value stands for in the second
abbrev pub StandsToo : {S I K T B : Type 0} → Ghosts S I K T B → S → S → K → K → Type 0
StandsToo {S} {I} m a b k v = (l : List I) → m.stands a k l → m.stands b v l
