use Rattle.fill_meet.specs.Index.{ItemsSoFar}
use Rattle.fill_meet.proofs.index.Index.new.Given as goal

abbrev pub invariant-loop-n : goal.invariant-loop-n
invariant-loop-n l =
    ItemsSoFar l.arena l.labels.sets.items l.n 0 l.items.items l.places.sets.items
