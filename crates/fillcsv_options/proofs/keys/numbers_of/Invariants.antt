use Rattle.std.proofs.Common.{◌≡◌, drop, map, string_bytes}
use Rattle.fill_numbers.specs.Columns.{numbers_in}
use Rattle.fill_numbers.proofs.Spelled.{after_numbers}
use Rattle.fillcsv_options.proofs.keys.numbers_of.Given as goal

-- the numbers so far, and those of the fields that are left
abbrev pub invariant-loop-field : goal.invariant-loop-field
invariant-loop-field l = after_numbers l.numbers.items (numbers_in 4294967295 (map string_bytes (drop l.field-index l.fields))) ≡ numbers_in 4294967295 (map string_bytes l.fields)
