use Rattle.std.proofs.Common.{◌≡◌, sym, ◌∙◌}
use Rattle.fill_tree.specs.Meaning.{source_tree}
use Rattle.fill_tree.specs.declared.tree.Source.TheVariants as source
use Rattle.fill_arena.specs.Stands.{SourceFits}
use Rattle.fill_arena.specs.declared.entry.SourceItem.TheVariants.{Col}
use Rattle.fill_arena.proofs.Items.{ok_on}
use Rattle.fill_arena.proofs.Trees.{col_tree}
use Rattle.fill_object.specs.Kinds.{sources_on}
use Rattle.fill_object.proofs.Gains.{gains_same}
use Rattle.fill_object.proofs.KindLaws.{sources_laws}
use Rattle.fill_object.proofs.Made.{column_fits, fits_column}
use Rattle.fill_object.proofs.sources.put_column.Goals as goal

pub returns : goal.returns
returns c =
    let on = c.args.on.now in
    let n = c.args.number in
    ok_on _ _ c.put_source.result c.put_source.ensures
    (λ u h. gains_same (sources_on on) (sources_laws on) (λ x. x ≡ source_tree (source.Col n)) (λ x. SourceFits x on.arena.now (Col n)) (λ x e. column_fits on n x (e ∙ col_tree n))
    (λ x f. fits_column on n x f ∙ sym (col_tree n)) c.args.rivals.now.items c.put_source.new.rivals.items h)
