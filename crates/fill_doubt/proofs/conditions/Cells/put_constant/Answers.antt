use Rattle.std.proofs.Common.{◌≡◌, ℕ, List, Some, false, subst}
use Rattle.fill_doubt.specs.Rows.{choice_of}
use Rattle.fill_doubt.proofs.Flags.{on_ok}
use Rattle.fill_doubt.proofs.Gains.{gains_alike, gains_none}
use Rattle.fill_doubt.proofs.conditions.Cells.put_constant.Goals as goal

pub returns-in-Some : goal.returns-in-Some
returns-in-Some c =
    let t = c.in-Some.text in
    let is = c.in-Some.is in
    on_ok c.put.result (rw c.as_slice.ensures at c.put.ensures)
    (gains_alike _ _ (λ o. o ≡ Some (choice_of t false)) (λ o. (u : List ℕ) × (c.args.constant.now ≡ Some u) × (o ≡ Some (choice_of u false)))
    (λ o. ((λ h. (t, is, h)), (λ h. let e = h.1 in let same : h.0 ≡ t = cc in subst (λ u. o ≡ Some (choice_of u false)) same h.2))))

pub returns-in-None : goal.returns-in-None
returns-in-None c = gains_none _ _ (λ o h. let e = h.1 in let f = c.in-None.is in cc)
