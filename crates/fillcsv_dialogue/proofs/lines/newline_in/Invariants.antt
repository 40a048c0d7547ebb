use Rattle.std.proofs.Common.{◌≡◌, All, false, take}
use Rattle.fillcsv_dialogue.specs.Cuts.{is_newline}
use Rattle.fillcsv_dialogue.proofs.lines.newline_in.Given as goal

-- no byte so far ends a line
abbrev pub invariant-loop-at : goal.invariant-loop-at
invariant-loop-at l = All (λ b. is_newline b ≡ false) (take l.at l.bytes)
