use Rattle.fill_guard.specs.Candidate.{KeepsCounted, OfLeast}
use Rattle.fill_guard.proofs.candidates.keep_leasts.Given as goal

abbrev pub invariant-loop-least : goal.invariant-loop-least
invariant-loop-least l = KeepsCounted l.column l.seq l.inside l.outside l.initial.candidates.items l.candidates.items (OfLeast l.column l.seq l.least)
