use Rattle.std.proofs.Common.{◌≡◌, ◌<◌, ◌≤◌, length, ◌+◌, ◌-◌}
use Rattle.fill_edge.specs.Outside.{NoneChanged, NoneFell}
use Rattle.fill_passes.proofs.Pieces.{IsReached}
use Rattle.fill_passes.proofs.measuring.measure.Given as goal

abbrev pub invariant-loop-buffer : goal.invariant-loop-buffer
invariant-loop-buffer g l = record {
  within : l.done ≤ l.limit;
  room : 0 < length l.room;
  reached : IsReached (g.C.Cabinet.files l.initial.cabinet) l.name l.done;
  files : g.C.Cabinet.files l.cabinet ≡ g.C.Cabinet.files l.initial.cabinet;
  same : NoneChanged (g.C.Cabinet.faults l.initial.cabinet) (g.C.Cabinet.faults l.cabinet);
  later : NoneFell (g.C.Cabinet.faults l.initial.cabinet) (g.C.Cabinet.faults l.cabinet);
}

abbrev pub decreases-loop-buffer : goal.decreases-loop-buffer
decreases-loop-buffer g l = l.limit + 1 - l.done
