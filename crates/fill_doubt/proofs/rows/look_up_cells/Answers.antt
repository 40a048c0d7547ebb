use Rattle.std.proofs.Common.{◌≡◌, map, None, Some, true, sym, subst, ◌∙◌}
use Rattle.std.proofs.lemmas.Bool.{false≢true}
use Rattle.fill_tree.specs.Value.{IsValue, LooksUp}
use Rattle.fill_doubt.proofs.Answered.{answer_one}
use Rattle.fill_doubt.proofs.Flags.{on_ok}
use Rattle.fill_doubt.proofs.Gains.{gains_alike, gains_none, have_none}
use Rattle.fill_doubt.proofs.rows.look_up_cells.Goals as goal

pub returns-then-not-part : goal.returns-then-not-part
returns-then-not-part c = gains_none _ _ (λ o h. false≢true (sym c.if-not-part.true ∙ h.0))

pub returns-in-Some : goal.returns-in-Some
returns-in-Some c =
    let i = c.args.look.now.item.now in
    let P = LooksUp (λ ts. ts ≡ map (λ cell. cell.now) c.args.cells.now) c.args.look.now.tables.now i.column i.table i.key in
    let is : IsValue P (Some c.in-Some.text.now) = c.in-Some.ensures in
    on_ok c.put.result c.put.ensures (gains_alike _ _ (λ o. o ≡ Some c.in-Some.text.now) (λ o. (c.args.part ≡ true) × IsValue P o)
    (λ o. ((λ e. (c.if-not-part.false, subst (IsValue P) (sym e) is)), (λ h. answer_one P o (Some c.in-Some.text.now) h.1 is))))

pub returns-in-None : goal.returns-in-None
returns-in-None c =
    let i = c.args.look.now.item.now in
    let P = LooksUp (λ ts. ts ≡ map (λ cell. cell.now) c.args.cells.now) c.args.look.now.tables.now i.column i.table i.key in
    let is : IsValue P None = c.in-None.ensures in
    gains_alike _ _ (λ o. o ≡ None) (λ o. (c.args.part ≡ true) × IsValue P o)
    (λ o. ((λ e. (c.if-not-part.false, subst (IsValue P) (sym e) is)), (λ h. answer_one P o None h.1 is))) (have_none (λ x. x.now) c.args.found.now.texts.items c.args.found.now.none)
