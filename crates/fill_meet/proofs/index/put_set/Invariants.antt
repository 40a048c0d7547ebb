use Rattle.fill_meet.specs.Index.{ItemsSoFar}
use Rattle.fill_meet.proofs.index.put_set.Given as goal

abbrev pub invariant-loop-j : goal.invariant-loop-j
invariant-loop-j l =
    ItemsSoFar l.arena l.labels.sets.items l.n l.j l.items.items l.places.sets.items
