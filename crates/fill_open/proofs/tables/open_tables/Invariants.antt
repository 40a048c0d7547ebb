use Rattle.std.proofs.Common.{◌≡◌, drop, []}
use Rattle.fill_edge.specs.Outside.{NoneFell}
use Rattle.fill_opening.specs.Opened.{Told}
use Rattle.fill_open.specs.Steps.{tables_open}
use Rattle.fill_opening.proofs.Binds.{Continues}
use Rattle.fill_open.proofs.tables.open_tables.Given as goal

-- from the tables so far the lines that are left go on as all lines do
abbrev pub invariant-loop-line : goal.invariant-loop-line
invariant-loop-line g l = record {
  files : g.C.Cabinet.files l.cabinet ≡ g.C.Cabinet.files l.initial.cabinet;
  later : NoneFell (g.C.Cabinet.faults l.initial.cabinet) (g.C.Cabinet.faults l.cabinet);
  rest : Told (g.C.Cabinet.files l.initial.cabinet)
      (λ held. Continues (tables_open held l.session [] l.lines) (tables_open held l.session l.tables (drop l.line-index l.lines)));
}
