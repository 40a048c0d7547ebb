use Rattle.std.proofs.Common.{◌≡◌, map, take}
use Rattle.fillcsv_options.specs.Words.{typed_data}
use Rattle.fillcsv_run.specs.Opening.{example_of}
use Rattle.fillcsv_run.proofs.typed.examples_of.Given as goal

-- the examples so far
abbrev pub invariant-loop-word : goal.invariant-loop-word
invariant-loop-word l = l.examples ≡ map (example_of l.above) (map typed_data (take l.word-index l.words))
