use Rattle.std.proofs.Common.{◌≡◌, take}
use Rattle.std.specs.Prelude.{map}
use Rattle.fillcsv_dialogue.proofs.replies.rows_of.Given as goal

abbrev pub invariant-loop-reply : goal.invariant-loop-reply
invariant-loop-reply l = l.rows.items ≡ map (λ k. k.row) (take l.reply-index l.kept)
