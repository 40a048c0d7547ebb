use Rattle.fill_build.specs.Hits.{HitsText}
use Rattle.fill_build.proofs.hits.put_hits.Given as goal

abbrev pub invariant-loop-at : goal.invariant-loop-at
invariant-loop-at l = HitsText l.k l.text l.rest l.at l.initial.hits.items l.hits.items
