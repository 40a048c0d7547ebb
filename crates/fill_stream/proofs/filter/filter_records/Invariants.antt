use Rattle.std.proofs.Common.{◌≡◌, ◌≤◌}
use Rattle.fill_stream.proofs.Filterings.{Progress}
use Rattle.fill_stream.proofs.filter.filter_records.Given as goal

abbrev pub invariant-loop-record : goal.invariant-loop-record
invariant-loop-record g l = record {
  progress : Progress (g.F.Filter.makes l.filter) (g.F.Filter.refuses l.filter) l.record l.initial.records.rest l.records.rest (g.K.Sink.written l.initial.sink) (g.K.Sink.written l.sink) l.initial.buffer.items l.buffer.items;
  same : g.K.Sink.faults l.sink ≡ g.K.Sink.faults l.initial.sink;
  later : g.K.Sink.faults l.initial.sink ≤ g.K.Sink.faults l.sink;
}
