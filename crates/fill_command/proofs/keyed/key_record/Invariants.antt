use Rattle.std.proofs.Common.{◌≡◌, take}
use Rattle.fill_command.specs.Output.{key_record}
use Rattle.fill_command.proofs.keyed.key_record.Given as goal

-- the columns so far
abbrev pub invariant-loop-column : goal.invariant-loop-column
invariant-loop-column l = l.record ≡ key_record (take l.column-index l.key)
