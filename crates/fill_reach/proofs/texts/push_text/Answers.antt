use Rattle.std.proofs.Common.{ℕ, List, Bor, Contains, map, subst}
use Rattle.fill_reach.proofs.StepLaws.{gains_there}
use Rattle.fill_reach.proofs.texts.push_text.Goals as goal

pub returns-then-is_there : goal.returns-then-is_there
returns-then-is_there c =
    gains_there (map (λ text. text.now) c.args.texts.now.items) c.args.text.now c.as_slice.result.now c.as_slice.ensures
    (subst (λ (xs : List (Bor (List ℕ))). Contains (map (λ text. text.now) xs) c.as_slice.result.now) c.deref.ensures.value (c.is_there.ensures c.if-is_there.true))
