use Rattle.std.proofs.Common.{◌≡◌, take, map}
use Rattle.fillcsv_options.specs.Words.{lookup_data}
use Rattle.fillcsv_run.proofs.saving.copied.Given as goal

abbrev pub invariant-loop-lookup : goal.invariant-loop-lookup
invariant-loop-lookup l = map lookup_data l.copies.items ≡ map lookup_data (take l.lookup-index l.lookups)
