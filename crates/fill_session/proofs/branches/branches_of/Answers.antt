use Rattle.std.proofs.Common.{◌∙◌}
use Rattle.fill_split.proofs.Changing.{if_ok, if_err}
use Rattle.fill_session.proofs.Folding.{picked_all, kept_all, short_all, few_rows, each_row, made_shown, lacks_fate}
use Rattle.fill_session.proofs.branches.branches_of.Goals as goal

pub rows_in_order-requires : goal.rows_in_order-requires
rows_in_order-requires c =
    let stand = c.requires.stand in
    (stand.branches, picked_all c.args.spaces.now c.args.examples.now c.args.folds.now c.branches-folds.result.now stand c.branches-folds.ensures)

pub guarded-requires-clause-kept : goal.guarded-requires-clause-kept
guarded-requires-clause-kept c =
    let stand = c.requires.stand in
    let picked = picked_all c.args.spaces.now c.args.examples.now c.args.folds.now c.branches-folds.result.now stand c.branches-folds.ensures in (
      stand.branches,
      kept_all c.args.spaces.now c.args.examples.now c.args.folds.now c.branches-folds.result.now stand c.branches-folds.ensures,
      c.as_slice.ensures ∙ c.in-Ok.ensures stand.branches picked,
    )

pub guarded-requires-clause-short : goal.guarded-requires-clause-short
guarded-requires-clause-short c =
    short_all c.args.spaces.now c.args.examples.now c.args.folds.now c.branches-folds.result.now c.requires.stand c.branches-folds.ensures

pub guarded-requires-clause-few : goal.guarded-requires-clause-few
guarded-requires-clause-few c =
    let stand = c.requires.stand in
    let picked = picked_all c.args.spaces.now c.args.examples.now c.args.folds.now c.branches-folds.result.now stand c.branches-folds.ensures in
    few_rows c.args.spaces.now c.args.examples.now c.args.folds.now c.branches-folds.result.now stand c.branches-folds.ensures c.as_slice.result.now c.requires.few
    (c.as_slice.ensures ∙ c.in-Ok.ensures stand.branches picked)

pub guarded-requires-clause-each : goal.guarded-requires-clause-each
guarded-requires-clause-each c =
    let stand = c.requires.stand in
    let picked = picked_all c.args.spaces.now c.args.examples.now c.args.folds.now c.branches-folds.result.now stand c.branches-folds.ensures in
    each_row c.args.spaces.now c.args.examples.now c.args.folds.now c.branches-folds.result.now stand c.branches-folds.ensures c.as_slice.result.now c.requires.each
    (c.as_slice.ensures ∙ c.in-Ok.ensures stand.branches picked)

pub returns-in-Ok-clause-shown : goal.returns-in-Ok-clause-shown
returns-in-Ok-clause-shown c =
    let stand = c.requires.stand in
    let picked = picked_all c.args.spaces.now c.args.examples.now c.args.folds.now c.branches-folds.result.now stand c.branches-folds.ensures in
    let kept = kept_all c.args.spaces.now c.args.examples.now c.args.folds.now c.branches-folds.result.now stand c.branches-folds.ensures in
    if_ok c.guarded.result c.guarded.ensures.made
    (λ made h. made_shown c.args.spaces.now c.args.examples.now c.args.folds.now c.branches-folds.result.now stand c.branches-folds.ensures c.requires.rule made
    (h stand.branches kept (c.as_slice.ensures ∙ c.in-Ok.ensures stand.branches picked)))

pub returns-in-Ok-clause-refused : goal.returns-in-Ok-clause-refused
returns-in-Ok-clause-refused c =
    let stand = c.requires.stand in
    let picked = picked_all c.args.spaces.now c.args.examples.now c.args.folds.now c.branches-folds.result.now stand c.branches-folds.ensures in
    let kept = kept_all c.args.spaces.now c.args.examples.now c.args.folds.now c.branches-folds.result.now stand c.branches-folds.ensures in
    if_err c.guarded.result c.guarded.ensures.refused
    (λ reason h real each. lacks_fate c.args.spaces.now c.args.examples.now c.args.folds.now c.branches-folds.result.now stand c.branches-folds.ensures c.requires.rule reason
    (h real stand.branches kept (c.as_slice.ensures ∙ c.in-Ok.ensures stand.branches picked)) each)
