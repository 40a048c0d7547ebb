use Rattle.std.proofs.Common.{◌≡◌, Some, get_or, sym, ◌∙◌}
use Rattle.std.specs.Prelude.{slice_get}
use Rattle.std.proofs.lemmas.Option.{slice_get-get_or}
use Rattle.fill_doubt.proofs.Flags.{on_ok}
use Rattle.fill_doubt.proofs.Gains.{gains_alike}
use Rattle.fill_doubt.proofs.carry.put_bound.Goals as goal

pub returns : goal.returns
returns c =
    let x = get_or c.args.bounds.now c.args.i 0 in
    let at = slice_get-get_or c.args.bounds.now c.args.i 0 c.requires in
    on_ok c.put.result c.put.ensures (gains_alike _ _ (λ o. o ≡ Some x) (λ o. o ≡ slice_get c.args.bounds.now c.args.i) (λ o. ((λ e. e ∙ sym at), (λ e. e ∙ at))))
