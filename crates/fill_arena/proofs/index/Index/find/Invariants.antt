use Rattle.fill_arena.specs.Hash.{entry_hash}
use Rattle.fill_arena.specs.Index.{AreTaken}
use Rattle.fill_arena.proofs.index.Index.find.Given as goal

-- each slot so far is taken by another entry
abbrev pub invariant-loop-turn : goal.invariant-loop-turn
invariant-loop-turn l = AreTaken l.entries l.self l.entry (entry_hash l.entry) l.turn
