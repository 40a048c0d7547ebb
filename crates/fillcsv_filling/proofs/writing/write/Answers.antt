use Rattle.std.proofs.Common.{length, arith}
use Rattle.fillcsv_rows.proofs.Written.{head_part}
use Rattle.fillcsv_filling.specs.Long.{ground_of, long_of, rows_of}
use Rattle.fillcsv_filling.specs.Taught.{tables_of}
use Rattle.fillcsv_filling.proofs.WrittenSoFar.{after_head}
use Rattle.fillcsv_filling.proofs.writing.write.Goals as goal

pub returns-in-Ok-clause-writes : goal.returns-in-Ok-clause-writes
returns-in-Ok-clause-writes g c = λ bytes is long taught.
    let s = long_of bytes c.args.sheet.now in
    after_head s c.args.learned.now c.args.basis s.head (g.O.Sink.written c.args.out.now) (g.O.Sink.written c.write_all.new.sink) (g.O.Sink.written c.write_blocks.new.out) c.in-Ok.ensures.whole
    c.write_blocks.result (c.write_blocks.ensures.writes bytes is long taught)

pub returns-in-Ok-clause-fault : goal.returns-in-Ok-clause-fault
returns-in-Ok-clause-fault g c = λ e.
    let later = c.write_all.ensures.later in
    let rose = c.write_blocks.ensures.fault e in
    omega (arith, later, rose)

pub returns-in-Err-clause-writes : goal.returns-in-Err-clause-writes
returns-in-Err-clause-writes g c = λ bytes is long taught.
    let s = long_of bytes c.args.sheet.now in (
      0,
      omega arith,
      head_part s.form s.typed (ground_of s (tables_of c.args.basis)) c.args.learned.now.examples (rows_of s) (g.O.Sink.written c.args.out.now) (g.O.Sink.written c.write_all.new.sink) s.head c.in-Err.ensures.part,
    )
