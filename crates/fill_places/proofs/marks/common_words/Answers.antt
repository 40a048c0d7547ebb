use Rattle.std.proofs.Common.{arith, subst}
use Rattle.fill_tokens.specs.Value.{IsCount}
use Rattle.fill_places.specs.Bits.{IsSetBit}
use Rattle.fill_places.proofs.BitLaws.{words_more}
use Rattle.fill_places.proofs.marks.common_words.Goals as goal

pub loop-i-preserved : goal.loop-i-preserved
loop-i-preserved c = (
  omega (arith, c.ones-count.ensures.most, c.loop-i.invariant.0),
  words_more c.args.a.now c.args.b.now c.loop-i.i c.loop-i.count c.ones-count.result c.loop-i.invariant.1
      (λ n e. subst (λ w. IsCount (IsSetBit w) n c.ones-count.result) c.common.ensures (c.ones-count.ensures.count n e)),
)
