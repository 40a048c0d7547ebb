use Rattle.std.proofs.Common.{◌≤◌, length}
use Rattle.fill_meet.specs.Rows.{ArePiecesDone, IsCovered}
use Rattle.fill_meet.specs.Runs.{Grows}
use Rattle.fill_meet.specs.Verdicts.{AreVerdicts}
use Rattle.fill_meet.proofs.rows.put_pieces.Given as goal

abbrev pub invariant-loop-k : goal.invariant-loop-k
invariant-loop-k l =
    record {
      start : l.ask.start ≤ length l.findings.rows.numbers.items;
      verdicts : AreVerdicts l.arena l.findings.verdicts;
      grown : Grows l.initial.findings.rows.numbers.items l.findings.rows.numbers.items;
      done : ArePiecesDone l.arena l.ask.index.now (IsCovered l.arena l.findings.rows.numbers.items l.ask.start l.ask.x.now) l.numbers (record { start = l.fn.begins.start; end = l.k }) l.ends;
    }
