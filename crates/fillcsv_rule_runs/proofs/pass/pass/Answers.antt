use Rattle.std.proofs.Common.{arith}
use Rattle.fillcsv_rule_runs.specs.Loaded.{loaded_data}
use Rattle.fillcsv_rule_runs.specs.Passing.{mark_text}
use Rattle.fillcsv_rule_runs.specs.Placing.{places_data}
use Rattle.fillcsv_rule_runs.proofs.Runs.{fault_written, finish_fault, finish_written}
use Rattle.fillcsv_rule_runs.proofs.pass.pass.Goals as goal

pub returns-in-WriteFault-clause-writes : goal.returns-in-WriteFault-clause-writes
returns-in-WriteFault-clause-writes g c =
    fault_written (loaded_data c.args.loaded.now) (mark_text c.args.marked) (places_data c.in-Ok.begun.0) c.in-Ok.begun.1.items c.filter_records.new.buffer.items
    (g.K.Sink.written c.args.sink.now) (g.K.Sink.written c.args.sink.now) (g.K.Sink.written c.filter_records.new.sink) c.args.records.now.rest c.begin.new.records.rest
    c.in-Ok.ensures.ok c.in-WriteFault.ensures.filtered

pub returns : goal.returns
returns g c = record {
  writes = finish_written (loaded_data c.args.loaded.now) (mark_text c.args.marked) (places_data c.in-Ok.begun.0) c.in-Ok.begun.1.items c.filter_records.new.buffer.items
      (g.K.Sink.written c.args.sink.now) (g.K.Sink.written c.filter_records.new.sink) (g.K.Sink.written c.finish.new.sink) c.filter_records.result c.is_some.result c.finish.result
      c.args.records.now.rest c.begin.new.records.rest (g.K.Sink.faults c.filter_records.new.sink) (g.K.Sink.faults c.finish.new.sink) c.in_default.not-WriteFault c.is_some.ensures
      c.in-Ok.ensures.ok c.filter_records.ensures.filtered c.finish.ensures.finishes;
  later = omega (arith, c.filter_records.ensures.later, c.finish.ensures.later);
  fault = finish_fault c.filter_records.result c.is_some.result c.finish.result (g.K.Sink.written c.filter_records.new.sink) (g.K.Sink.written c.finish.new.sink) c.filter_records.new.buffer.items
      (g.K.Sink.faults c.args.sink.now) (g.K.Sink.faults c.filter_records.new.sink) (g.K.Sink.faults c.finish.new.sink) c.in_default.not-WriteFault c.filter_records.ensures.later c.finish.ensures.finishes;
}
