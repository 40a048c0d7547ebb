use Rattle.std.proofs.Common.{◌++◌, length, sym, subst, ap, ◌∙◌}
use Rattle.fill_places.specs.Sides.{LeftAt}
use Rattle.fill_places.specs.Entries.{Entries, HasAtMost}
use Rattle.fill_places.proofs.LayerLaws.{all_layers}
use Rattle.fill_places.proofs.lefts.lefts.Goals as goal

pub returns : goal.returns
returns c =
    let t = c.args.t.now in
    let items = c.in_ok-join-3.ensures ∙ ap (λ z. z ++ c.in_ok-three.three.items) (c.in_ok-join-2.ensures ∙ ap (λ z. z ++ c.in_ok-two.two.items) c.in_ok-join.ensures) in
    subst (Entries (LeftAt c.args.token_set t) (length t) (HasAtMost 3)) (sym items)
    (all_layers (LeftAt c.args.token_set t) (length t) c.in_ok-all.all.items c.in_ok-one.one.items c.in_ok-two.two.items c.in_ok-three.three.items
    c.in_ok-all.ensures c.in_ok-one.ensures c.in_ok-two.ensures c.in_ok-three.ensures)
