use Rattle.std.proofs.Common.{◌≡◌, ◌≤◌, ◌++◌, ◌∷◌, [], ◌∙◌, inl, inr, arith, ap, sym, length, Bor, List, ℕ, Some}
use Rattle.std.proofs.lemmas.List.{take_all}
use Rattle.std.specs.Prelude.{if◌then◌else◌}
use Rattle.csv.specs.Records.{fields_of}
use Rattle.fill_records.specs.Records.{field_of, records_of}
use Rattle.fill_records.proofs.Runs.{memory_alone, Reading-start, Reading-more, Reading-end, Reading-full}
use Rattle.fill_apply.specs.Saved.{is_shown, shown_text}
use Rattle.fill_apply.proofs.Shown.{shown_push}
use Rattle.fill_apply.proofs.report.shown_text.Goals as goal
use Rattle.fill_apply.proofs.report.shown_text.Goals.{else-loop-test, then-loop-test+in-Ok-false}

pub loop-init : goal.loop-init
loop-init c =
    let made = c.from_reader-reader.ensures in
    let headers = c.has_headers.ensures in
    let any_length = c.flexible.ensures in
    record {
      trims = rw (any_length, headers) at made.trim ∙ c.new.ensures.trim;
      ready = inr (inr (rw (any_length, headers) at made.has_headers, made.headers));
      flexible = rw any_length at made.flexible;
      config = rw (any_length, headers) at made.config ∙ c.new.ensures.config;
      reading = ([], rw (made.source, made.state) (Reading-start c.args.bytes.now), c.new-text.ensures);
    }

pub loop-preserved : goal.loop-preserved
loop-preserved c =
    let here = c.loop.invariant in
    let read = rw c.in-Ok-true.field-0-test at (c.in-Ok-true.ensures.reads here.trims here.ready) in
    let fields = fields_of c.read_byte_record.new.row in
    let done = here.reading.0 in
    let more = Reading-more (λ (s : Bor (List ℕ)). Some s.now) c.loop.reader c.read_byte_record.new.self fields c.args.bytes.now done c.loop.counter here.config here.reading.1 read in
    record {
      trims = read.3 ∙ here.trims;
      ready = inl (c.in-Ok-true.ensures.ready here.trims);
      flexible = c.in-Ok-true.ensures.flexible ∙ here.flexible;
      config = read.2 ∙ here.config;
      reading = (done ++ fields ∷ [], more, c.in_ok-text-in-Ok-true.ensures ∙ ap (λ t. if is_shown fields then field_of 2 fields else t) here.reading.2 ∙ sym (shown_push done fields));
    }

pub returns : goal.returns
returns c =
    let here = c.loop.invariant in
    let few : length (records_of c.args.bytes.now) ≤ length c.args.bytes.now = omega (arith, c.records_are_few.ensures) in
    let all = take_all (length c.args.bytes.now) (records_of c.args.bytes.now) few in
    elim c.loop-test.branch [
      | else-loop-test w ↦
          let full : c.loop.counter ≡ length c.args.bytes.now = omega arith in
          let done = rw full at (Reading-full _ _ _ _ _ here.reading.1) in
          here.reading.2 ∙ ap shown_text (done ∙ all)
      | then-loop-test+in-Ok-false w ↦
          let read = rw w.in-Ok-false.field-0-test at (w.in-Ok-false.ensures.reads here.trims here.ready) in
          let within : c.loop.counter ≤ length c.args.bytes.now = omega arith in
          let done = Reading-end (λ (s : Bor (List ℕ)). Some s.now) c.loop.reader w.read_byte_record.new.self (fields_of w.read_byte_record.new.row) c.args.bytes.now here.reading.0 c.loop.counter (length c.args.bytes.now)
          here.config here.reading.1 within read in
          here.reading.2 ∙ ap shown_text (done ∙ all)
    ]

pub memory_of-requires : goal.memory_of-requires
memory_of-requires c =
    let here = c.loop.invariant in
    memory_alone (λ (s : Bor (List ℕ)). Some s.now) c.loop.reader c.read_byte_record.new.self c.in-Err.error.kind here.flexible (c.in-Err.ensures.why here.ready)
