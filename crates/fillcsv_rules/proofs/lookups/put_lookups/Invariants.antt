use Rattle.std.proofs.Common.{◌≡◌, ◌++◌, take, map}
use Rattle.std.specs.List.{flat_map}
use Rattle.fill_sheet.specs.Report.{record_text}
use Rattle.fillcsv_options.specs.Words.{lookup_data}
use Rattle.fillcsv_rules.specs.Lookups.{lookup_line}
use Rattle.fillcsv_rules.proofs.lookups.put_lookups.Given as goal

abbrev pub invariant-loop-lookup : goal.invariant-loop-lookup
invariant-loop-lookup l = l.to ≡ l.fn.to ++ flat_map record_text (map lookup_line (map lookup_data (take l.lookup-index l.lookups)))
