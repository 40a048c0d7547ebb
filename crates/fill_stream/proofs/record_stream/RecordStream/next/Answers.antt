use Rattle.csv.specs.Records.{fields_of}
use Rattle.fill_stream.proofs.Lefts.{done, took}
use Rattle.fill_stream.proofs.record_stream.RecordStream.next.Goals as goal
use Rattle.fill_stream.proofs.record_stream.RecordStream.next.Goals.{in-Ok-true, in-Ok-false, in-Err}

pub returns-clause-found : goal.returns-clause-found
returns-clause-found g c =
    let set = c.self.invariant c.if-self.false in
    elim c.match-read_byte_record.branch [
      | in-Ok-true w ↦
          let read = rw w.in-Ok-true.field-0-test at (w.in-Ok-true.ensures.reads set.trims set.ready) in
          rw (w.result-is, w.self-is, ← c.self.view_is, c.if-self.false) (λ _. took g.R.Read.remaining c.self.inside.reader c.read_byte_record.new.self (fields_of c.read_byte_record.new.row) set.config read)
      | in-Ok-false w ↦ rw w.result-is (λ e. cc)
      | in-Err w ↦ rw w.result-is tt
    ]

pub returns-clause-ended : goal.returns-clause-ended
returns-clause-ended g c =
    let set = c.self.invariant c.if-self.false in
    elim c.match-read_byte_record.branch [
      | in-Ok-true w ↦ rw w.result-is (λ e. cc)
      | in-Ok-false w ↦
          let read = rw w.in-Ok-false.field-0-test at (w.in-Ok-false.ensures.reads set.trims set.ready) in
          rw (w.result-is, ← c.self.view_is, c.if-self.false) (λ _. done g.R.Read.remaining c.self.inside.reader c.read_byte_record.new.self (fields_of c.read_byte_record.new.row) set.config read)
      | in-Err w ↦ rw w.result-is tt
    ]
