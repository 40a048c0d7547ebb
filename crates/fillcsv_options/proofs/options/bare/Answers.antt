use Rattle.std.proofs.Common.{ap, true, ◌∙◌}
use Rattle.clap.specs.Simple.{on_top, app_of_fields}
use Rattle.fillcsv_options.proofs.options.bare.Goals as goal

pub returns : goal.returns
returns c =
    let versioned = ap app_of_fields c.version.ensures ∙ ap (on_top (λ s. record s { has_version = true })) c.new.ensures.app in
    let told = ap app_of_fields c.override_usage.ensures ∙ (ap app_of_fields c.about.ensures ∙ versioned) in
    ap app_of_fields c.no_binary_name.ensures ∙ ap (on_top (λ s. record s { no_binary_name = true })) told
