use Rattle.std.proofs.Common.{◌≡◌}
use Rattle.fill_arena.proofs.Scan.{NoneBelow}
use Rattle.fill_doubt.proofs.answers.Positions.has.Given as goal

abbrev pub invariant-loop-i : goal.invariant-loop-i
invariant-loop-i l = NoneBelow (λ x. x ≡ l.position) l.self.positions.items l.i
