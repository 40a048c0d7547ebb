use Rattle.std.specs.List.{AllWithin}
use Rattle.fill_tree.specs.Meaning.{program_tree}
use Rattle.fill_object.specs.Objector.{Answers}
use Rattle.fill_session.proofs.candidates.told_of.Given as goal

-- those above all agree
abbrev pub invariant-loop-i : goal.invariant-loop-i
invariant-loop-i l = AllWithin (λ p. Answers l.spaces.ground.sheet l.spaces.ground.tables l.row l.said (program_tree p)) l.candidates 0 l.i
