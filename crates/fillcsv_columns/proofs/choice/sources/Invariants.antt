use Rattle.std.proofs.Common.{◌≡◌, [], drop, map}
use Rattle.std.specs.Prelude.{option_copied, string_bytes}
use Rattle.fillcsv_columns.specs.Choice.{with_words}
use Rattle.fillcsv_columns.specs.Columns.{names_of}
use Rattle.fillcsv_columns.proofs.choice.sources.Given as goal

-- the columns so far, and those of the words that are left
abbrev pub invariant-loop-word : goal.invariant-loop-word
invariant-loop-word l =
    with_words (names_of (option_copied l.fn.header)) l.width l.to l.from.items (map string_bytes (drop l.word-index l.words))
    ≡ with_words (names_of (option_copied l.fn.header)) l.width l.to [] (map string_bytes l.words)
