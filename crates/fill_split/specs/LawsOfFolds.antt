-- laws of folds and of placing
use Rattle.std.specs.Prelude.{◌≡◌, List}
use Rattle.std.specs.List.{AllZip}
use Rattle.fill_split.specs.declared.folds.Folds.{Folds}
use Rattle.fill_split.specs.declared.maker.Maker.{Ghosts}
use Rattle.fill_split.specs.declared.rule.Placing.{Placing}
use Rattle.fill_split.specs.Keeping.{Keeps}
use Rattle.fill_split.specs.Placement.{Placed}
use Rattle.fill_split.specs.Standing.{FoldsStand, AllStay, kept_of}
use Rattle.fill_split.specs.Renewal.{IsRenewed, MeanTheSame, StandsToo}

module _ {S I K T B : Type 0} where
  -- where a maker's base is the same and what stood in it stands, folds stay
  abbrev pub FoldsStay : Ghosts S I K T B → Type 0
  FoldsStay m = (a b : S) → m.base b ≡ m.base a → Keeps (m.stands a) (m.stands b) → AllStay m a b

  -- folds whose values are replaced, place by place, by values that stand in another maker for what they stood for in the first, stand there
  abbrev pub RenewedStand : Ghosts S I K T B → Type 0
  RenewedStand m =
      (a b : S) (items : List I) (ks : List K) (before after : Folds S I K T B) → MeanTheSame m a b → AllZip (StandsToo m a b) (kept_of before) ks →
      IsRenewed before ks after → FoldsStand m a items before → FoldsStand m b items after

  -- a list of items has at most one list of branches
  abbrev pub PlacedOnce : Ghosts S I K T B → Type 0
  PlacedOnce m = (b : B) (rule : Placing) (items : List I) (n o : List (List I)) → Placed rule (m.fits b) (m.weight b) items n → Placed rule (m.fits b) (m.weight b) items o → n ≡ o
