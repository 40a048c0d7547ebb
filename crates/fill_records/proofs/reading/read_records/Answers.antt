use Rattle.std.proofs.Common.{◌≡◌, ◌≤◌, ◌∙◌, inl, inr, arith, Bor, List, ℕ, Some}
use Rattle.csv.specs.Records.{fields_of}
use Rattle.fill_records.proofs.Runs.{memory_alone, Reading-start, Reading-more, Reading-end, Reading-full}
use Rattle.fill_records.proofs.reading.read_records.Goals as goal
use Rattle.fill_records.proofs.reading.read_records.Goals.{else-loop-test, then-loop-test+in-Ok-false}

pub loop-init : goal.loop-init
loop-init c =
    let made = c.from_reader-reader.ensures in
    let headers = c.has_headers.ensures in
    let any_length = c.flexible.ensures in
    record {
      trims = rw (any_length, headers) at made.trim ∙ c.new.ensures.trim;
      ready = inr (inr (rw (any_length, headers) at made.has_headers, made.headers));
      flexible = rw any_length at made.flexible;
      config = rw (any_length, headers) at made.config ∙ c.new.ensures.config;
      reading = rw (made.source, made.state, c.new-records.ensures) (Reading-start c.args.bytes.now);
    }

pub loop-preserved : goal.loop-preserved
loop-preserved c =
    let here = c.loop.invariant in
    let read = rw c.in-Ok-true.field-0-test at (c.in-Ok-true.ensures.reads here.trims here.ready) in
    record {
      trims = read.3 ∙ here.trims;
      ready = inl (c.in-Ok-true.ensures.ready here.trims);
      flexible = c.in-Ok-true.ensures.flexible ∙ here.flexible;
      config = read.2 ∙ here.config;
      reading = rw c.in_ok-push-in-Ok-true.ensures.ok (Reading-more (λ (s : Bor (List ℕ)). Some s.now) c.loop.reader c.read_byte_record.new.self (fields_of c.read_byte_record.new.row) c.args.bytes.now c.loop.records c.loop.counter here.config here.reading read);
    }

pub returns : goal.returns
returns c =
    let here = c.loop.invariant in
    elim c.loop-test.branch [
      | else-loop-test w ↦
          let full : c.loop.counter ≡ c.args.most = omega arith in
          rw (← full) (Reading-full _ _ _ _ _ here.reading)
      | then-loop-test+in-Ok-false w ↦
          let read = rw w.in-Ok-false.field-0-test at (w.in-Ok-false.ensures.reads here.trims here.ready) in
          let few : c.loop.counter ≤ c.args.most = omega arith in
          Reading-end (λ (s : Bor (List ℕ)). Some s.now) c.loop.reader w.read_byte_record.new.self (fields_of w.read_byte_record.new.row) c.args.bytes.now c.loop.records c.loop.counter c.args.most here.config here.reading few read
    ]

pub out_of_memory-requires : goal.out_of_memory-requires
out_of_memory-requires c =
    let here = c.loop.invariant in
    memory_alone (λ (s : Bor (List ℕ)). Some s.now) c.loop.reader c.read_byte_record.new.self c.in-Err.error.kind here.flexible (c.in-Err.ensures.why here.ready)
