use Rattle.std.proofs.Common.{refl, arith}
use Rattle.fill_tokens.proofs.SetLaws.{tokens_more, tokens_all}
use Rattle.fill_tokens.proofs.seq.Seq.is_of.Goals as goal

pub loop-i-preserved : goal.loop-i-preserved
loop-i-preserved c =
    tokens_more c.args.token_set c.args.self.now c.loop-i.i c.token.result
    (omega (arith, c.loop-i-test.true, c.len-i-end.ensures.value))
    c.token.ensures c.loop-i.invariant (c.is_of.ensures.0 c.if-not-is_of.false)

pub returns : goal.returns
returns c = (
  λ _. tokens_all c.args.token_set c.args.self.now c.loop-i.i (omega (arith, c.loop-i-test.false, c.len-i-end.ensures.value)) c.loop-i.invariant,
  λ _. refl,
)
