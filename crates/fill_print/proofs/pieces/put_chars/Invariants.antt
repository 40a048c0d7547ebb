use Rattle.std.proofs.Common.{◌≡◌, ◌++◌, drop}
use Rattle.fill_print.specs.Notation.{chars_text}
use Rattle.fill_print.proofs.pieces.put_chars.Given as goal

-- what is put, before the characters that are left
abbrev pub invariant-loop-c : goal.invariant-loop-c
invariant-loop-c l = l.to ++ chars_text (drop l.c-index l.c-items) ≡ l.fn.to ++ chars_text l.text
