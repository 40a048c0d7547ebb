use Rattle.fill_sources.specs.Sets.{texts_of}
use Rattle.fill_build.specs.Hits.{HitsBelow}
use Rattle.fill_build.proofs.hits.find_hits.Given as goal

abbrev pub invariant-loop-k : goal.invariant-loop-k
invariant-loop-k l = HitsBelow (texts_of l.row_texts) l.rest l.k l.hits.items
