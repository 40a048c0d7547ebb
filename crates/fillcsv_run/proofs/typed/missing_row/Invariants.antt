use Rattle.std.proofs.Common.{◌≡◌, drop, map}
use Rattle.fillcsv_options.specs.Words.{typed_data}
use Rattle.fillcsv_run.specs.Opening.{missing_row}
use Rattle.fillcsv_run.proofs.typed.missing_row.Given as goal

-- each row so far is there
abbrev pub invariant-loop-example : goal.invariant-loop-example
invariant-loop-example l =
    missing_row l.above l.rows (map typed_data (drop l.example-index l.examples)) ≡ missing_row l.above l.rows (map typed_data l.examples)
