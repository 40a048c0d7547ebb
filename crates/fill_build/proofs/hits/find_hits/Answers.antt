use Rattle.fill_sources.specs.Sets.{texts_of}
use Rattle.std.proofs.Common.{ℕ, List, length, subst, arith}
use Rattle.fill_build.specs.Hits.{HitsText}
use Rattle.fill_build.proofs.Finds.{below_more, below_end}
use Rattle.fill_build.proofs.hits.find_hits.Goals as goal

pub loop-k-preserved : goal.loop-k-preserved
loop-k-preserved c =
    below_more (texts_of c.args.row_texts.now) c.args.rest.now c.loop-k.k c.text.result.now c.loop-k.hits.items c.put_hits.new.hits.items c.text.ensures c.loop-k.invariant
    (subst (λ (t : List ℕ). HitsText c.loop-k.k t c.args.rest.now (length t) c.loop-k.hits.items c.put_hits.new.hits.items) c.as_slice.ensures c.in_ok-put_hits.ensures)

pub returns : goal.returns
returns c =
    let end = c.len-k-end.ensures in
    below_end (texts_of c.args.row_texts.now) c.args.rest.now c.loop-k.k c.loop-k.hits.items (omega arith) c.loop-k.invariant
