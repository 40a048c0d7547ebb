use Rattle.std.proofs.Common.{◌≤◌, take}
use Rattle.std.specs.Io.KnownBytes.{Appends}
use Rattle.fill_command.specs.Output.{keys_text}
use Rattle.fill_command.proofs.keyed.write_keys.Given as goal

-- the keys so far
abbrev pub invariant-loop-key : goal.invariant-loop-key
invariant-loop-key g l = record {
  written : Appends (g.O.Sink.written l.initial.out) (g.O.Sink.written l.out) (keys_text (take l.key-index l.keys));
  later : g.O.Sink.faults l.initial.out ≤ g.O.Sink.faults l.out;
}
