use Rattle.std.proofs.Common.{◌≡◌, ◌++◌, ◌∷◌, drop}
use Rattle.fill_print.specs.Notation.{names, more_names}
use Rattle.fill_print.proofs.pieces.put_seq.Given as goal

-- what is put, before the names that are left
abbrev pub invariant-loop-i : goal.invariant-loop-i
invariant-loop-i l = l.to ++ more_names (drop l.i l.seq) ≡ l.fn.to ++ 91 ∷ names l.seq
