use Rattle.std.proofs.Common.{arith, ◌≡◌, ◌+◌, ◌-◌, ◌∙◌}
use Rattle.fill_tokens.specs.declared.token.Token.TheVariants.{Start}
use Rattle.fill_tokens.proofs.TokenLaws.{number_at}
use Rattle.fill_tokens.proofs.token.Token.from_number.Goals as goal

pub returns : goal.returns
returns c =
    let place : 1 + (c.from-place.result - 1) ≡ c.args.n = omega arith in
    number_at (c.from-place.result - 1) Start (omega arith) ∙ place
