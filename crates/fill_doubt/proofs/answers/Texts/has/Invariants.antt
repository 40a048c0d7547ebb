use Rattle.std.proofs.Common.{◌≡◌}
use Rattle.fill_arena.proofs.Scan.{NoneBelow}
use Rattle.fill_doubt.proofs.answers.Texts.has.Given as goal

abbrev pub invariant-loop-i : goal.invariant-loop-i
invariant-loop-i l = NoneBelow (λ x. x.now ≡ l.text) l.self.texts.items l.i
