use Rattle.std.proofs.Common.{◌≡◌, ◌<◌, All, drop, length}
use Rattle.csv.specs.Records.{fields_of}
use Rattle.fillcsv_rule_runs.specs.Places.{sources_in}
use Rattle.fillcsv_rule_runs.proofs.Names.{after_places}
use Rattle.fillcsv_rule_runs.proofs.places.sources_in.Given as goal

-- the columns so far, and those of the names that are left
abbrev pub invariant-loop-name : goal.invariant-loop-name
invariant-loop-name l = record {
  all : after_places l.columns.items (sources_in (fields_of l.header) (drop l.name-index l.fn.names)) ≡ sources_in (fields_of l.header) l.fn.names;
  counted : All (λ column. 0 < column) l.columns.items;
  many : length l.columns.items ≡ l.name-index;
}
