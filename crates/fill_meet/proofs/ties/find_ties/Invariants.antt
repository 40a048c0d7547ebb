use Rattle.fill_meet.specs.Rows.{AreRows}
use Rattle.fill_meet.specs.Ties.{SweepState}
use Rattle.fill_meet.proofs.ties.find_ties.Given as goal

abbrev pub invariant-loop-k : goal.invariant-loop-k
invariant-loop-k l =
    record {
      rows : AreRows l.arena l.index l.net.rows;
      state : SweepState l.arena l.graphs l.k (λ b. ⊥) l.net.sweep;
    }
