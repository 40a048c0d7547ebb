use Rattle.std.proofs.Common.{All, take}
use Rattle.fill_tokens.specs.TokenSet.{IsTokenOf}
use Rattle.fill_tokens.proofs.seq.Seq.is_of.Given as goal

abbrev pub invariant-loop-i : goal.invariant-loop-i
invariant-loop-i l = All (IsTokenOf l.token_set) (take l.i l.self)
