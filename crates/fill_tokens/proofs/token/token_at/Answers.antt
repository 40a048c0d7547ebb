use Rattle.std.proofs.Common.{arith, ◌∙◌, ◌≡◌, ◌+◌}
use Rattle.fill_tokens.specs.declared.token.Token.TheVariants.{Start}
use Rattle.fill_tokens.proofs.TokenLaws.{number_at}
use Rattle.fill_tokens.proofs.token.token_at.Goals as goal

pub returns : goal.returns
returns c = let e : 1 + c.args.i ≡ c.args.i + 1 = omega arith in number_at c.args.i Start (omega (arith, c.requires)) ∙ e
