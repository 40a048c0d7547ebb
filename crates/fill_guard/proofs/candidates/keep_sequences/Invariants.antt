use Rattle.fill_guard.specs.Candidate.{KeepsRead, OfSeqs}
use Rattle.fill_guard.proofs.candidates.keep_sequences.Given as goal

abbrev pub invariant-loop-i : goal.invariant-loop-i
invariant-loop-i l = KeepsRead l.column l.inside l.outside l.initial.candidates.items l.candidates.items (OfSeqs l.column l.seqs l.i)
