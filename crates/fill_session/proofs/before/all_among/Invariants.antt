use Rattle.std.proofs.Common.{take}
use Rattle.std.specs.Prelude.{All, Contains}
use Rattle.fill_session.proofs.before.all_among.Given as goal

abbrev pub invariant-loop-k : goal.invariant-loop-k
invariant-loop-k l = All (λ x. All (Contains l.others) x.rows) (take l.k l.branches)
