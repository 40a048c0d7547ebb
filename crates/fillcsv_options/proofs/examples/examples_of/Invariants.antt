use Rattle.std.proofs.Common.{◌≡◌, [], drop, map}
use Rattle.fillcsv_options.specs.Words.{typed_data, with_words}
use Rattle.fillcsv_options.proofs.examples.examples_of.Given as goal

-- the examples so far, and those of the words that are left
abbrev pub invariant-loop-word : goal.invariant-loop-word
invariant-loop-word l =
    with_words (map typed_data l.examples.items) (map (λ w. w.now) (drop l.word-index l.words)) ≡ with_words [] (map (λ w. w.now) l.words)
