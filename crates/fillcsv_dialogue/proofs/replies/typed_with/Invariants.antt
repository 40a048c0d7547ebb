use Rattle.std.proofs.Common.{◌≡◌, ◌++◌, take}
use Rattle.std.specs.Prelude.{filter_map}
use Rattle.fillcsv_dialogue.specs.Replies.{example_of}
use Rattle.fillcsv_dialogue.proofs.replies.typed_with.Given as goal

abbrev pub invariant-loop-reply : goal.invariant-loop-reply
invariant-loop-reply l = l.typed ≡ filter_map example_of (take l.reply-index l.kept)

abbrev pub invariant-loop-word : goal.invariant-loop-word
invariant-loop-word l = l.typed ≡ filter_map example_of l.kept ++ take l.word-index l.words
