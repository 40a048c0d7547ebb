use Rattle.std.proofs.Common.{◌∙◌, List, map, true, false, sym, subst}
use Rattle.std.proofs.lemmas.Bool.{false≢true}
use Rattle.fill_doubt.specs.Answers.{Gains, TextsHave}
use Rattle.fill_doubt.specs.Rows.{FindsBy, Fit}
use Rattle.fill_doubt.proofs.Flags.{match_none, match_some, on_ok}
use Rattle.fill_doubt.proofs.Keyed.{row_fits, row_gone, row_unfit}
use Rattle.fill_doubt.proofs.rows.put_row.Goals as goal

pub returns-in_default : goal.returns-in_default
returns-in_default c = row_gone c.args.look.now c.args.conditions.now c.args.row (match_none _ _ c.in_ok-cells.field-0 c.in_ok-cells.ensures c.in_default.is) (TextsHave c.args.found.now)

pub returns-then-not-fit : goal.returns-then-not-fit
returns-then-not-fit c =
    row_unfit c.args.look.now c.args.conditions.now c.args.row (map (λ cell. cell.now) c.in-Some.cells.items) (match_some _ _ c.in_ok-cells.field-0 c.in-Some.cells c.in_ok-cells.ensures c.in-Some.is) (TextsHave c.args.found.now)
    (λ h. false≢true (sym c.if-not-fit.true ∙ c.fit.ensures.1 (subst (λ (xs : List _). Fit c.args.conditions.now (map (λ cell. cell.now) xs) false) (sym c.as_slice.ensures.value) h)))

pub returns : goal.returns
returns c =
    let fit = subst (λ (xs : List _). Fit c.args.conditions.now (map (λ cell. cell.now) xs) false) c.as_slice.ensures.value (c.fit.ensures.0 c.if-not-fit.false) in
    let a = TextsHave c.args.found.now in
    let b = TextsHave c.look_up_cells.new.found in
    on_ok c.look_up_cells.result c.look_up_cells.ensures (λ g.
    row_fits c.args.look.now c.args.conditions.now c.args.row (map (λ cell. cell.now) c.in-Some.cells.items) (match_some _ _ c.in_ok-cells.field-0 c.in-Some.cells c.in_ok-cells.ensures c.in-Some.is) a b fit
    (subst (λ (xs : List _). Gains a b (FindsBy c.args.look.now (record { texts = map (λ cell. cell.now) xs; part = true }))) c.as_slice-2.ensures.value g))
