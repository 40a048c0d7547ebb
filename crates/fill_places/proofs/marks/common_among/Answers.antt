use Rattle.std.proofs.Common.{◌≡◌, ◌*◌, ◌/◌, ◌%◌, arith, subst}
use Rattle.fill_tokens.specs.Value.{IsCount}
use Rattle.fill_places.specs.Bits.{BothSet, IsSetBit}
use Rattle.fill_places.proofs.BitLaws.{words_rest}
use Rattle.fill_places.proofs.marks.common_among.Goals as goal

pub common_words-count-requires-clause-small : goal.common_words-count-requires-clause-small
common_words-count-requires-clause-small c = omega (arith, c.requires.small)

pub overflow_add-result : goal.overflow_add-result
overflow_add-result c = omega (arith, c.requires.small, c.common_words-count.ensures.most, c.ones_below.ensures.most)

pub returns-then-rest-eq0-clause-count : goal.returns-then-rest-eq0-clause-count
returns-then-rest-eq0-clause-count c =
    let e : 64 * (c.args.k / 64) ≡ c.args.k = omega (arith, c.if-rest-eq0.true) in
    subst (λ n. IsCount (BothSet c.args.a.now c.args.b.now) n c.common_words-count.result) e c.common_words-count.ensures.count

pub returns-clause-count : goal.returns-clause-count
returns-clause-count c =
    words_rest c.args.a.now c.args.b.now c.args.k c.common_words-count.result c.ones_below.result c.common_words-count.ensures.count
    (subst (λ w. IsCount (IsSetBit w) (c.args.k % 64) c.ones_below.result) c.common.ensures c.ones_below.ensures.count)

pub returns-then-rest-eq0-clause-most : goal.returns-then-rest-eq0-clause-most
returns-then-rest-eq0-clause-most c = omega (arith, c.common_words-count.ensures.most)

pub returns-clause-most : goal.returns-clause-most
returns-clause-most c = omega (arith, c.common_words-count.ensures.most, c.ones_below.ensures.most)
