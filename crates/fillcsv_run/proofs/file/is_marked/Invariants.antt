use Rattle.std.proofs.Common.{◌≡◌}
use Rattle.std.specs.Prelude.{IfSome}
use Rattle.fill_edge.specs.Outside.{NoneFell}
use Rattle.fill_passes.specs.Files.{told_bytes}
use Rattle.fillcsv_run.proofs.Marks.{IsMarkedUpTo}
use Rattle.fillcsv_run.proofs.file.is_marked.Given as goal

abbrev pub invariant-loop-at : goal.invariant-loop-at
invariant-loop-at g l = record {
  begins : IfSome (told_bytes (g.C.Cabinet.files l.initial.cabinet) l.name) (λ bytes. IsMarkedUpTo bytes l.at);
  files : g.C.Cabinet.files l.cabinet ≡ g.C.Cabinet.files l.initial.cabinet;
  later : NoneFell (g.C.Cabinet.faults l.initial.cabinet) (g.C.Cabinet.faults l.cabinet);
}
