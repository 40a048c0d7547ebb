use Rattle.std.proofs.Common.{◌≡◌, ◌<◌, ◌≤◌, length, ◌+◌, ◌-◌}
use Rattle.fill_edge.specs.Outside.{counted, NoneFell, NoneChanged, IsMissing}
use Rattle.fill_edge.proofs.Pieces.{IsFrontOf}
use Rattle.fill_edge.proofs.reading.read_all.Given as goal

abbrev pub invariant-loop-buffer : goal.invariant-loop-buffer
invariant-loop-buffer g l = record {
  within : length l.bytes ≤ l.limit;
  room : 0 < length l.room;
  front : IsFrontOf (g.C.Cabinet.files l.initial.cabinet) l.name l.bytes;
  files : g.C.Cabinet.files l.cabinet ≡ g.C.Cabinet.files l.initial.cabinet;
  later : NoneFell (g.C.Cabinet.faults l.initial.cabinet) (g.C.Cabinet.faults l.cabinet);
  same : NoneChanged (g.C.Cabinet.faults l.initial.cabinet) (g.C.Cabinet.faults l.cabinet);
  grew : g.C.Cabinet.given l.initial.cabinet ≤ g.C.Cabinet.given l.cabinet;
  given : counted (g.C.Cabinet.given l.cabinet) 0 ≡ counted (g.C.Cabinet.given l.initial.cabinet) (length l.bytes);
  unread : IsMissing (g.C.Cabinet.files l.initial.cabinet) l.name → l.cabinet ≡ l.initial.cabinet;
}

abbrev pub decreases-loop-buffer : goal.decreases-loop-buffer
decreases-loop-buffer g l = l.limit + 1 - length l.bytes
