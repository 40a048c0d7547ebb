use Rattle.std.proofs.Common.{◌≡◌, ◌-◌, ◌≤◌, length, take}
use Rattle.std.specs.Io.KnownBytes.{Consumes}
use Rattle.fill_stream.proofs.fronted.read_front.Given as goal

abbrev pub invariant-loop-filled : goal.invariant-loop-filled
invariant-loop-filled g l = record {
  within : l.filled ≤ length l.front;
  size : length l.front ≡ length l.initial.front;
  bytes : Consumes (g.S.Source.left l.initial.source) (g.S.Source.left l.source) (take l.filled l.front);
  whole : g.S.Source.whole l.source ≡ g.S.Source.whole l.initial.source;
  faults : g.S.Source.faults l.source ≡ g.S.Source.faults l.initial.source;
}

abbrev pub decreases-loop-filled : goal.decreases-loop-filled
decreases-loop-filled g l = length l.front - l.filled
