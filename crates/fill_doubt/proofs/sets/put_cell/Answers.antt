use Rattle.std.proofs.Common.{◌≡◌, None, Some, sym, ◌∙◌}
use Rattle.fill_arena.specs.declared.entry.SourceItem.TheVariants as source
use Rattle.fill_doubt.specs.Memo.{SourceItemAnswers}
use Rattle.fill_doubt.proofs.Flags.{on_ok}
use Rattle.fill_doubt.proofs.Gains.{gains_alike, have_none}
use Rattle.fill_doubt.proofs.Items.{column_item}
use Rattle.fill_doubt.proofs.sets.put_cell.Goals as goal

pub returns-in-Some : goal.returns-in-Some
returns-in-Some c =
    let on = c.args.on.now in
    let e = c.in-Some.ensures in
    on_ok c.put.result c.put.ensures (gains_alike _ _ (λ o. o ≡ Some c.in-Some.text.now) (SourceItemAnswers on (source.Col c.args.column))
    (λ o. let by = column_item on c.requires c.args.column o in ((λ h. by.0 (h ∙ e)), (λ g. by.1 g ∙ sym e))))

pub returns-in-None : goal.returns-in-None
returns-in-None c =
    let on = c.args.on.now in
    let e = c.in-None.ensures in
    gains_alike _ _ (λ o. o ≡ None) (SourceItemAnswers on (source.Col c.args.column))
    (λ o. let by = column_item on c.requires c.args.column o in ((λ h. by.0 (h ∙ e)), (λ g. by.1 g ∙ sym e))) (have_none (λ x. x.now) c.args.found.now.texts.items c.args.found.now.none)
