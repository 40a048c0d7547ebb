use Rattle.std.proofs.Common.{ap, Some, ◌∙◌}
use Rattle.fillcsv_options.proofs.options.nonempty.Goals as goal

pub returns : goal.returns
returns c =
    let given = c.value_parser.ensures.given in
    c.value_parser.ensures.others ∙ ap (λ p. record c.args.arg { value_parser = p }) (given.1 ∙ ap Some given.2)
