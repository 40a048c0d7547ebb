use Rattle.std.proofs.Common.{◌++◌, ◌∷◌, [], List, map, ap, ◌∙◌}
use Rattle.fill_doubt.proofs.Appended.{map_append}
use Rattle.fill_doubt.proofs.rows.with_last.Goals as goal

pub returns : goal.returns
returns c =
    ap (λ (xs : List _). map (λ cell. cell.now) xs) (c.in_ok-push.ensures.items ∙ ap (λ xs. xs ++ c.args.next ∷ []) (c.in_ok-extend_from_slice.ensures.items ∙ ap (λ xs. xs ++ c.args.cells.now) c.in_ok-made.ensures.items))
    ∙ map_append (λ cell. cell.now) c.args.cells.now (c.args.next ∷ [])
