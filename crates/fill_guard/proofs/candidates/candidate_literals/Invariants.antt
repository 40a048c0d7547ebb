use Rattle.fill_guard.specs.Candidate.{Keeps, OfColumns}
use Rattle.fill_guard.proofs.candidates.candidate_literals.Given as goal

abbrev pub invariant-loop-i : goal.invariant-loop-i
invariant-loop-i l = Keeps l.sheet l.inside l.outside l.initial.candidates.items l.candidates.items (OfColumns l.settings.profile.tokens l.sheet.inputs l.i)
