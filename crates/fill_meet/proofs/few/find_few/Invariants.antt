use Rattle.fill_meet.specs.Ties.{SweepState}
use Rattle.fill_meet.specs.Verdicts.{AreVerdicts}
use Rattle.fill_meet.proofs.few.find_few.Given as goal

abbrev pub invariant-loop-k : goal.invariant-loop-k
invariant-loop-k l =
    record {
      verdicts : AreVerdicts l.arena l.few.verdicts;
      state : SweepState l.arena l.graphs l.k (λ b. ⊥) l.few.sweep;
    }
