use Rattle.std.proofs.Common.{arith, ◌∙◌, ◌-◌, ◌<◌}
use Rattle.fill_tokens.specs.Token.{token_number}
use Rattle.fill_tokens.specs.declared.token.Token.TheVariants.{Start}
use Rattle.fill_tokens.proofs.TokenLaws.{listed, number_within, unlike, next_unnamed}
use Rattle.fill_tokens.proofs.token.Token.from_name.Goals as goal

pub loop-token-preserved : goal.loop-token-preserved
loop-token-preserved c = next_unnamed c.args.name.now c.loop-token.token-index Start c.loop-token-test.true
    (λ same. unlike c.as_bytes.result.now c.args.name.now c.eq.result c.eq.ensures c.if-eq.false (c.as_bytes.ensures.value ∙ c.name.ensures ∙ same))
    c.loop-token.invariant

pub returns : goal.returns
returns c = λ t h.
    let within : token_number t - 1 < c.loop-token.token-index = omega (arith, number_within t) in
    c.loop-token.invariant (token_number t - 1) t within (listed t) h
