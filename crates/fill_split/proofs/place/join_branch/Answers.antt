use Rattle.std.proofs.Common.{refl, ◌∙◌, ap, ◌++◌, ◌∷◌, []}
use Rattle.std.proofs.lemmas.Option.{slice_get-get_or}
use Rattle.fill_split.specs.declared.folds.Fold.{Fold}
use Rattle.fill_split.proofs.place.join_branch.Goals as goal

pub returns : goal.returns
returns g c = (
  _,
  _,
  slice_get-get_or c.args.branches.now.items c.args.branch c.index_mut-fold.result.now c.requires,
  refl,
  refl,
  c.in_ok-push.ensures.ok ∙ ap (λ (f : Fold _). f.items ++ c.args.item ∷ []) c.index_mut-fold.ensures.value,
  refl,
)
