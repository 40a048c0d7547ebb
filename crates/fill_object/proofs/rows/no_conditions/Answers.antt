use Rattle.std.proofs.Common.{[], ◌∷◌, ◌++◌, sym, ap, subst, ◌∙◌}
use Rattle.fill_object.specs.Rows.{AreRows}
use Rattle.fill_object.proofs.RowLaws.{no_rows}
use Rattle.fill_object.proofs.rows.no_conditions.Goals as goal

pub returns : goal.returns
returns c on =
    subst (AreRows on []) (sym (c.in_ok-push.ensures.items ∙ ap (λ l. l ++ c.empty.result ∷ []) c.new-rows.ensures.items))
    (no_rows on c.empty.result c.empty.ensures)
