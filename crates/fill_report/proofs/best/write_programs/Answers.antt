use Rattle.std.proofs.Common.{◌+◌, ◌≤◌, List, length, map, refl, arith, subst}
use Rattle.std.specs.Io.KnownBytes.{Appends}
use Rattle.fill_tree.specs.Meaning.{program_tree}
use Rattle.fill_output.specs.Fields.{report_text}
use Rattle.fill_output.specs.Fields.{Fields}
use Rattle.fill_report.specs.Records.{best_record, best_records}
use Rattle.fill_output.proofs.Bytes.{take_next}
use Rattle.fill_report.proofs.Firsts.{length_best, program_at}
use Rattle.fill_report.proofs.Leaving.{first_next, first_stops}
use Rattle.fill_report.proofs.Numbered.{take_all}
use Rattle.fill_report.proofs.best.write_programs.Goals as goal

pub returns-in-Err-clause-leaves : goal.returns-in-Err-clause-leaves
returns-in-Err-clause-leaves g c =
    let records = best_records c.args.branch 1 (map program_tree c.args.programs.now) in
    let i = c.loop-i.i in
    let p = c.index-programs-i.result in
    let one = best_record c.args.branch (i + 1) (program_tree p) in
    first_stops records i one c.best_record.result c.in-Err.halt _ (g.O.Sink.written c.loop-i.out) _ c.best_record.ensures
    (take_next records i one (program_at c.args.branch c.args.programs.now i p c.loop-i-test.true c.index-programs-i.is))
    c.loop-i.invariant.written c.in-Err.ensures.leaves

pub loop-i-preserved : goal.loop-i-preserved
loop-i-preserved g c =
    let records = best_records c.args.branch 1 (map program_tree c.args.programs.now) in
    let i = c.loop-i.i in
    let p = c.index-programs-i.result in
    let one = best_record c.args.branch (i + 1) (program_tree p) in
    record {
      written = first_next records i one c.best_record.result c.in-Ok.field-0 _ (g.O.Sink.written c.loop-i.out) _ c.best_record.ensures
          (take_next records i one (program_at c.args.branch c.args.programs.now i p c.loop-i-test.true c.index-programs-i.is))
          c.loop-i.invariant.written c.in-Ok.ensures.leaves;
      later = omega arith;
    }

pub returns-clause-leaves : goal.returns-clause-leaves
returns-clause-leaves g c =
    let branch = c.args.branch in
    let ps = c.args.programs.now in
    let long : length (best_records branch 1 (map program_tree ps)) ≤ c.loop-i.i = omega (arith, length_best branch 1 ps) in (
      subst (λ (rs : List Fields). Appends (g.O.Sink.written c.args.out.now) (g.O.Sink.written c.loop-i.out) (report_text rs))
          (take_all (best_records branch 1 (map program_tree ps)) c.loop-i.i long) c.loop-i.invariant.written,
      refl,
    )
