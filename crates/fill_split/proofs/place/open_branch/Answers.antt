use Rattle.std.proofs.Common.{refl, ◌++◌, ◌∷◌, [], ap, ◌∙◌}
use Rattle.fill_split.proofs.place.open_branch.Goals as goal

pub returns-in-Ok : goal.returns-in-Ok
returns-in-Ok g c = (_, c.in-Ok.ensures.items, refl, c.in_ok-push.ensures.ok ∙ ap (λ l. l ++ c.args.item ∷ []) c.new-items.ensures, refl)
