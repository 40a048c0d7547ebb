use Rattle.std.proofs.Common.{◌+◌, ◌∙◌, arith}
use Rattle.fill_open.specs.Apply.{application_data}
use Rattle.fill_command.proofs.Rows.{row_next, row_part, rows_none}
use Rattle.fill_command.proofs.applied.write_applied.Goals as goal

pub loop-above-init : goal.loop-above-init
loop-above-init g c = record { written = rows_none (application_data c.args.a.now) (g.O.Sink.written c.args.out.now); later = omega arith }

pub loop-above-preserved : goal.loop-above-preserved
loop-above-preserved g c = record {
  written = row_next (application_data c.args.a.now) _ (g.O.Sink.written c.loop-above.out) _ c.loop-above.above c.loop-above.invariant.written c.in-Ok.ensures.whole;
  later = omega arith;
}

pub returns-in-Err-clause-part : goal.returns-in-Err-clause-part
returns-in-Err-clause-part g c = λ e.
    (c.loop-above.above + 1, omega arith, row_part (application_data c.args.a.now) _ (g.O.Sink.written c.loop-above.out) _ c.loop-above.above c.loop-above.invariant.written (c.write_row.ensures.part (c.in-Err.is ∙ e)))
