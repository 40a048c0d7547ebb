use Rattle.std.proofs.Common.{◌≡◌}
use Rattle.fill_arena.proofs.Scan.{NoneBelow}
use Rattle.fill_doubt.specs.Rows.{cell_choice, choice_of}
use Rattle.fill_doubt.proofs.conditions.Cells.has.Given as goal

abbrev pub invariant-loop-i : goal.invariant-loop-i
invariant-loop-i l = NoneBelow (λ x. cell_choice x ≡ choice_of l.text l.part) l.self.cells.items l.i
