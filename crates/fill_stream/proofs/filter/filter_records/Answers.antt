use Rattle.std.proofs.Common.{arith, refl}
use Rattle.fill_stream.specs.Filters.{Puts}
use Rattle.fill_stream.specs.Records.{Took}
use Rattle.fill_stream.proofs.Filterings.{progress_end, progress_kept, progress_more, progress_part, progress_refused, progress_some, progress_start}
use Rattle.fill_stream.proofs.filter.filter_records.Goals as goal

pub loop-record-init : goal.loop-record-init
loop-record-init g c = record {
  progress = progress_start (g.F.Filter.makes c.args.filter.now) (g.F.Filter.refuses c.args.filter.now) c.args.records.now.rest (g.K.Sink.written c.args.sink.now) c.args.buffer.now.items;
  same = refl;
  later = omega arith;
}

pub returns-in-Ok-false-clause-filtered : goal.returns-in-Ok-false-clause-filtered
returns-in-Ok-false-clause-filtered g c =
    progress_end (g.F.Filter.makes c.args.filter.now) (g.F.Filter.refuses c.args.filter.now) _ _ _ _ _ _ _ c.loop-record.invariant.progress (c.in-Ok-false.ensures.ended c.in-Ok-false.field-0-test)

pub returns-in-Err-clause-filtered : goal.returns-in-Err-clause-filtered
returns-in-Err-clause-filtered g c =
    progress_some (g.F.Filter.makes c.args.filter.now) (g.F.Filter.refuses c.args.filter.now) _ _ _ _ _ _ _ c.loop-record.invariant.progress

pub returns-in-Err-Refused-clause-filtered : goal.returns-in-Err-Refused-clause-filtered
returns-in-Err-Refused-clause-filtered g c =
    let took : Took c.loop-record.records.rest c.next.new.self.rest c.next.new.self.row = c.in-Ok-true.ensures.found c.in-Ok-true.field-0-test in
    let refused = rw (c.in-Err-Refused.field-0-is, c.row.ensures) at c.in-Err-Refused.ensures.refused in
    progress_refused (g.F.Filter.makes c.args.filter.now) (g.F.Filter.refuses c.args.filter.now) _ c.in-Err-Refused.column _ _ _ c.next.new.self.row _ _ _ _ _ c.loop-record.invariant.progress took refused c.in-Err-Refused.ensures.kept

pub returns-in-Err-NoMemory-clause-filtered : goal.returns-in-Err-NoMemory-clause-filtered
returns-in-Err-NoMemory-clause-filtered g c =
    progress_kept (g.F.Filter.makes c.args.filter.now) (g.F.Filter.refuses c.args.filter.now) _ _ _ _ _ _ _ _ c.loop-record.invariant.progress c.in-Err-NoMemory.ensures.kept

pub returns-in-Err-spill-clause-filtered : goal.returns-in-Err-spill-clause-filtered
returns-in-Err-spill-clause-filtered g c =
    let took : Took c.loop-record.records.rest c.next.new.self.rest c.next.new.self.row = c.in-Ok-true.ensures.found c.in-Ok-true.field-0-test in
    let puts : Puts (g.F.Filter.makes c.args.filter.now c.next.new.self.row) c.loop-record.buffer.items c.put.new.to.items = rw c.row.ensures at c.in-Ok.ensures.made in
    progress_part (g.F.Filter.makes c.args.filter.now) (g.F.Filter.refuses c.args.filter.now) _ _ _ _ c.next.new.self.row _ _ _ _ _ _ _ c.loop-record.invariant.progress took puts c.in-Err-spill.ensures.part

pub loop-record-preserved : goal.loop-record-preserved
loop-record-preserved g c =
    let took : Took c.loop-record.records.rest c.next.new.self.rest c.next.new.self.row = c.in-Ok-true.ensures.found c.in-Ok-true.field-0-test in
    let puts : Puts (g.F.Filter.makes c.args.filter.now c.next.new.self.row) c.loop-record.buffer.items c.put.new.to.items = rw c.row.ensures at c.in-Ok.ensures.made in
    record {
      progress = progress_more (g.F.Filter.makes c.args.filter.now) (g.F.Filter.refuses c.args.filter.now) _ _ _ _ c.next.new.self.row _ _ _ _ _ _ _ c.loop-record.invariant.progress took puts c.in-Ok-spill.ensures.held;
      same = search (c.spill.ensures.taken, c.in-Ok-spill.ensures.taken, c.loop-record.invariant.same);
      later = omega (arith, c.loop-record.invariant.later, c.spill.ensures.later);
    }

pub returns-clause-filtered : goal.returns-clause-filtered
returns-clause-filtered g c =
    progress_some (g.F.Filter.makes c.args.filter.now) (g.F.Filter.refuses c.args.filter.now) _ _ _ _ _ _ _ c.loop-record.invariant.progress
