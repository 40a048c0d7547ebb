use Rattle.std.proofs.Common.{◌+◌, ◌≤◌, List, length, refl, arith, subst}
use Rattle.std.specs.Io.KnownBytes.{Appends}
use Rattle.fill_output.specs.Fields.{report_text}
use Rattle.fill_output.specs.Fields.{Fields}
use Rattle.fill_report.specs.Records.{shown_record, shown_records}
use Rattle.fill_output.proofs.Bytes.{take_next}
use Rattle.fill_report.proofs.Leaving.{first_next, first_stops}
use Rattle.fill_report.proofs.Numbered.{branch_at, length_shown, take_all}
use Rattle.fill_report.proofs.queries.write_branches.Goals as goal

pub returns-in-Err-clause-leaves : goal.returns-in-Err-clause-leaves
returns-in-Err-clause-leaves g c =
    let records = shown_records 1 c.args.branches.now in
    let i = c.loop-i.i in
    let b = c.index-branches-i.result in
    first_stops records i (shown_record (i + 1) b) c.branch_record.result c.in-Err.halt _ (g.O.Sink.written c.loop-i.out) _ c.branch_record.ensures
    (take_next records i (shown_record (i + 1) b) (branch_at c.args.branches.now i b c.loop-i-test.true c.index-branches-i.is))
    c.loop-i.invariant.written c.in-Err.ensures.leaves

pub loop-i-preserved : goal.loop-i-preserved
loop-i-preserved g c =
    let records = shown_records 1 c.args.branches.now in
    let i = c.loop-i.i in
    let b = c.index-branches-i.result in
    record {
      written = first_next records i (shown_record (i + 1) b) c.branch_record.result c.in-Ok.field-0 _ (g.O.Sink.written c.loop-i.out) _ c.branch_record.ensures
          (take_next records i (shown_record (i + 1) b) (branch_at c.args.branches.now i b c.loop-i-test.true c.index-branches-i.is))
          c.loop-i.invariant.written c.in-Ok.ensures.leaves;
      later = omega arith;
    }

pub returns-clause-leaves : goal.returns-clause-leaves
returns-clause-leaves g c =
    let bs = c.args.branches.now in
    let long : length (shown_records 1 bs) ≤ c.loop-i.i = omega (arith, length_shown 1 bs) in (
      subst (λ (rs : List Fields). Appends (g.O.Sink.written c.args.out.now) (g.O.Sink.written c.loop-i.out) (report_text rs))
          (take_all (shown_records 1 bs) c.loop-i.i long) c.loop-i.invariant.written,
      refl,
    )
