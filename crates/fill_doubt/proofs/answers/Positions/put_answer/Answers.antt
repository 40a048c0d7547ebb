use Rattle.std.proofs.Common.{◌≡◌, None, Some, sym, ◌∙◌}
use Rattle.fill_doubt.proofs.Flags.{on_ok}
use Rattle.fill_doubt.proofs.Gains.{gains_alike, have_none}
use Rattle.fill_doubt.proofs.answers.Positions.put_answer.Goals as goal

pub returns-in-Some : goal.returns-in-Some
returns-in-Some c = on_ok c.put.result c.put.ensures (gains_alike _ _ (λ o. o ≡ Some c.in-Some.position) (λ o. o ≡ c.args.answer) (λ o. ((λ e. e ∙ sym c.in-Some.is), (λ e. e ∙ c.in-Some.is))))

pub returns-in-None : goal.returns-in-None
returns-in-None c = gains_alike _ _ (λ o. o ≡ None) (λ o. o ≡ c.args.answer) (λ o. ((λ e. e ∙ sym c.in-None.is), (λ e. e ∙ c.in-None.is))) (have_none (λ x. x) c.args.self.now.positions.items c.args.self.now.none)
