use Rattle.std.specs.Io.KnownBytes.{prepend_known}
use Rattle.fillcsv_rule_runs.specs.Loaded.{loaded_data}
use Rattle.fillcsv_rule_runs.proofs.Runs.{end_behind, ends_source, status_writes}
use Rattle.fillcsv_rule_runs.proofs.run.filter_from.Goals as goal

pub returns-clause-writes : goal.returns-clause-writes
returns-clause-writes g c =
    let rest = rw c.new.ensures at c.new-records.ensures in
    let wrote = rw rest at c.pass-how.ensures.writes in
    rw c.status_of-status.ensures
    (status_writes (loaded_data c.args.loaded.now) c.pass-how.result c.failed.result c.ended.result c.args.marked (prepend_known c.args.source.front (g.S.Source.left c.args.source.source))
    (g.K.Sink.written c.args.sink.now) (g.K.Sink.written c.pass-how.new.sink) c.requires.marked wrote)

pub returns-clause-source : goal.returns-clause-source
returns-clause-source g c =
    let tap = c.into_inner-tap.result in
    let same = rw c.into_source.ensures at c.into_inner.ensures in
    rw (c.status_of-status.ensures, same, ← c.requires.before)
    (ends_source c.pass-how.result c.failed.result c.ended.result (g.S.Source.left tap.source.source) g.B.Start.before (g.S.Source.faults tap.source.source)
    c.failed.ensures.later c.failed.ensures.rose c.failed.ensures.same (λ over. end_behind tap.source.front (g.S.Source.left tap.source.source) (c.ended.ensures.at_end over)))
