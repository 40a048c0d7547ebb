use Rattle.std.proofs.Common.{◌≡◌, drop, []}
use Rattle.fill_edge.specs.Outside.{NoneFell}
use Rattle.fill_opening.specs.Opened.{Told}
use Rattle.fill_opening.proofs.Binds.{Continues}
use Rattle.fillcsv_tables.proofs.Steps.{from_lookups}
use Rattle.fillcsv_tables.proofs.tables.open_tables.Given as goal

-- from the tables so far those that are left go on as all do
abbrev pub invariant-loop-lookup : goal.invariant-loop-lookup
invariant-loop-lookup g l = record {
  files : g.C.Cabinet.files l.cabinet ≡ g.C.Cabinet.files l.initial.cabinet;
  later : NoneFell (g.C.Cabinet.faults l.initial.cabinet) (g.C.Cabinet.faults l.cabinet);
  rest : Told (g.C.Cabinet.files l.initial.cabinet)
      (λ held. Continues (from_lookups [] l.lookups held) (from_lookups l.tables (drop l.lookup-index l.lookups) held));
}
