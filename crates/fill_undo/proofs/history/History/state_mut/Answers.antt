use Rattle.std.proofs.Common.{◌≡◌, ◌<◌, ◌≤◌, ◌+◌, ◌-◌, ◌∙◌, length, sym, ap, refl, Some, subst, arith}
use Rattle.fill_undo.specs.Moves.{state_at, with_state_at}
use Rattle.fill_undo.proofs.StateLaws.{in_past, in_future, state_in_past, state_in_future}
use Rattle.fill_undo.proofs.history.History.state_mut.Goals as goal

pub returns-then-i-past : goal.returns-then-i-past
returns-then-i-past g c =
    let past = c.self.inside.past in
    let future = c.self.inside.future in
    let moved = c.index_mut.result.now in
    let lt : c.args.i < length past.items = omega (arith, past.ok.0, c.len-past.ensures) in (
      (refl, λ w. in_past past.items future.items c.args.i moved w lt c.index_mut.ensures.value ∙ ap (λ h. with_state_at h c.args.i w) c.self.view_is),
      record {
        value = subst (λ h. state_at h c.args.i ≡ Some moved.state) c.self.view_is (state_in_past past.items future.items c.args.i moved lt c.index_mut.ensures.value);
        writes_back = tt;
      },
    )

pub returns-else-i-past : goal.returns-else-i-past
returns-else-i-past g c =
    let past = c.self.inside.past in
    let future = c.self.inside.future in
    let moved = c.index_mut-else-i-past.result.now in
    let at = c.args.i - c.len-past.result in
    let le : length past.items ≤ c.args.i = omega (arith, past.ok.0, c.len-past.ensures) in
    let is : at ≡ c.args.i - length past.items = ap (λ n. c.args.i - n) (c.len-past.ensures ∙ past.ok.0) in
    let whole : length c.args.self.now.past + length c.args.self.now.future ≡ length past.items + length future.items = ap (λ h. length h.past + length h.future) (sym c.self.view_is) in
    let lt : at < length future.items = omega (arith, whole, c.requires, is) in (
      (refl, λ w. in_future past.items future.items c.args.i at moved w le is lt c.index_mut-else-i-past.ensures.value ∙ ap (λ h. with_state_at h c.args.i w) c.self.view_is),
      record {
        value = subst (λ h. state_at h c.args.i ≡ Some moved.state) c.self.view_is (state_in_future past.items future.items c.args.i at moved le is lt c.index_mut-else-i-past.ensures.value);
        writes_back = tt;
      },
    )
