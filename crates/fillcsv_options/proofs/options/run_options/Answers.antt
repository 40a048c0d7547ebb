use Rattle.std.proofs.Common.{ap, ◌∙◌}
use Rattle.std.proofs.lemmas.Result.{IfOk-weaker}
use Rattle.fillcsv_options.specs.Options.{run_app, runs, with_rules}
use Rattle.fillcsv_options.proofs.options.run_options.Goals as goal

pub returns : goal.returns
unfolding run_app
returns c = IfOk-weaker c.with_runs.result _ _ (λ r h. h ∙ ap (λ a. with_rules a runs) c.bare.ensures) c.with_runs.ensures
