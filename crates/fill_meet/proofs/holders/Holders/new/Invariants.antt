use Rattle.fill_meet.proofs.MateLaws.{HeldBelow}
use Rattle.fill_meet.proofs.holders.Holders.new.Given as goal

abbrev pub invariant-loop-n : goal.invariant-loop-n
invariant-loop-n l =
    HeldBelow l.arena l.sets l.list.items l.n
