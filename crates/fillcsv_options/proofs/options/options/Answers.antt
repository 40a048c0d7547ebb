use Rattle.std.proofs.Common.{ap, ◌∙◌}
use Rattle.std.proofs.lemmas.Result.{IfOk-weaker}
use Rattle.clap.specs.Simple.{app_of_fields}
use Rattle.fillcsv_options.specs.Options.{app, inputs, outputs, rules, saving, with_rules}
use Rattle.fillcsv_options.proofs.options.options.Goals as goal

pub returns : goal.returns
unfolding app
returns c =
    let bare = ap app_of_fields c.after_help-command.ensures ∙ c.bare.ensures in
    let read = c.in_ok-with_inputs.ensures ∙ ap (λ a. with_rules a inputs) bare in
    let ruled = c.in_ok-command.ensures ∙ ap (λ a. with_rules a rules) read in
    let told = c.in_ok-with_outputs.ensures ∙ ap (λ a. with_rules a outputs) ruled in
    IfOk-weaker c.with_saving.result _ _ (λ r h. h ∙ ap (λ a. with_rules a saving) told) c.with_saving.ensures
