use Rattle.std.proofs.Common.{◌≡◌, Some, refl}
use Rattle.fill_tokens.specs.Value.{HasValue}
use Rattle.fill_tree.specs.Value.{IsValue}
use Rattle.std.proofs.Common.{false}
use Rattle.fill_doubt.specs.Answers.{PositionsHave}
use Rattle.fill_doubt.specs.Spots.{IsShaped, OthersHave}
use Rattle.fill_doubt.proofs.Flags.{on_ok}
use Rattle.fill_doubt.proofs.Gains.{gains_alike, gains_none, have_pushed}
use Rattle.fill_doubt.proofs.Spotted.{gains_shaped}
use Rattle.fill_doubt.proofs.spots.Spots.put.Goals as goal

pub returns-then-is_shaped-clause-shaped : goal.returns-then-is_shaped-clause-shaped
returns-then-is_shaped-clause-shaped c =
    on_ok c.put_answer.result c.put_answer.ensures (gains_shaped _ _ c.args.place.now c.args.w.now c.in_ok-value.value (c.is_shaped.ensures.0 c.if-is_shaped.true) c.in_ok-value.ensures.value)

pub returns-then-is_shaped-clause-others : goal.returns-then-is_shaped-clause-others
returns-then-is_shaped-clause-others c =
    on_ok c.put_answer.result c.put_answer.ensures (λ _. gains_none (OthersHave c.args.self.now) (λ o. (o ≡ Some c.args.place.now) × ¬ (IsShaped c.args.place.now)) (λ o h. h.1 (c.is_shaped.ensures.0 c.if-is_shaped.true)))

pub returns-in-Ok-clause-shaped : goal.returns-in-Ok-clause-shaped
returns-in-Ok-clause-shaped c =
    gains_none (PositionsHave c.args.self.now.shaped) (λ o. IsShaped c.args.place.now × IsValue (HasValue c.args.place.now c.args.w.now) o) (λ o h. let t = c.is_shaped.ensures.1 h.0 in let f = c.if-is_shaped.false in absurd cc)

pub returns-in-Ok-clause-others : goal.returns-in-Ok-clause-others
returns-in-Ok-clause-others c =
    let p = c.args.place.now in
    gains_alike _ _ (λ o. o ≡ Some p) (λ o. (o ≡ Some p) × ¬ (IsShaped p)) (λ o. ((λ e. (e, (λ h. let t = c.is_shaped.ensures.1 h in let f = c.if-is_shaped.false in absurd cc))), (λ h. h.0)))
    (have_pushed (λ x. x) c.args.self.now.others.items _ false false p c.in-Ok.ensures.items refl)
