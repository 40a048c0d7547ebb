use Rattle.std.proofs.Common.{◌≡◌}
use Rattle.std.specs.Io.KnownBytes.{Keeps, prepend_known}
use Rattle.fillcsv_dialogue.proofs.lines.Lines.next.Given as goal

-- no byte was lost, and no read failed
abbrev pub invariant-loop : goal.invariant-loop
invariant-loop g l = record {
  come : Keeps (prepend_known l.initial.self.held (g.S.Source.left l.initial.source)) (prepend_known l.self.held (g.S.Source.left l.source));
  faults : g.S.Source.faults l.source ≡ g.S.Source.faults l.initial.source;
}
