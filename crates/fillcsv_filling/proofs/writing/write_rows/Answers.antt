use Rattle.std.proofs.Common.{◌≡◌, ◌∙◌, ℕ, List, [], ◌∷◌, ◌++◌, All, Contains, append_assoc, append-nil, ap, arith, length, subst, sym}
use Rattle.fillcsv_blocks.specs.Merged.{numbers_of}
use Rattle.fillcsv_blocks.specs.declared.numbered.Numbered.{Numbered}
use Rattle.fillcsv_filling.specs.Long.{long_of}
use Rattle.fillcsv_filling.specs.Reading.{AreOf}
use Rattle.fillcsv_filling.specs.Rows.{TellsOf, WritesOf}
use Rattle.fillcsv_filling.proofs.Choosing.{of_next, of_same}
use Rattle.fillcsv_filling.proofs.Lessons.{all_mid, all_yielded}
use Rattle.fillcsv_filling.proofs.Rowwise.{block_halted, block_written, errs_as, next_whole, row_stands, short_block, tells_next, tells_none, writes_next, writes_none}
use Rattle.fillcsv_filling.proofs.writing.write_rows.Goals as goal

pub loop-row-init : goal.loop-row-init
loop-row-init g c =
    let shown = c.args.written.now.shown.items in
    record {
      whole = sym c.into_iter-row-iterator.ensures.into_iter_gives.0;
      shown = subst (λ (l : List Numbered). AreOf shown l) (sym (append-nil shown)) (of_same shown);
      few = c.requires.few;
      later = omega arith;
      shapes = c.new-shapes.ensures c.args.block.now.session.spaces.arena;
      states = λ bytes stands. tells_none (long_of bytes c.args.sheet.now) c.args.block.now c.args.written.now.summary.unsure;
      written = λ bytes stands. writes_none (long_of bytes c.args.sheet.now) c.args.block.now (g.O.Sink.written c.args.out.now);
    }

pub write_row-requires-clause-here : goal.write_row-requires-clause-here
write_row-requires-clause-here g c =
    let Has = λ (it : Numbered). Contains c.args.block.now.numbers it.number in
    let whole = c.loop-row.invariant.whole ∙ ap (λ (l : List Numbered). c.loop-row.yielded ++ l) c.in-Some.ensures.steps.0 in
    all_mid Has c.loop-row.yielded c.next.new.self.rest.items c.in-Some.row (subst (λ (l : List Numbered). All Has l) whole c.requires.here)

pub loop-row-preserved : goal.loop-row-preserved
loop-row-preserved g c =
    let here = c.loop-row.invariant in
    let block = c.args.block.now in
    let row = c.in-Some.row in
    let shown = c.args.written.now.shown.items in
    let whole = here.whole ∙ ap (λ (l : List Numbered). c.loop-row.yielded ++ l) c.in-Some.ensures.steps.0 in
    record {
      whole = next_whole c.args.rows.items c.loop-row.yielded c.next.new.self.rest.items c.loop-row.row-iterator.rest.items row here.whole c.in-Some.ensures.steps.0;
      shown = subst (λ (l : List Numbered). AreOf c.note.new.self.shown.items l) (append_assoc shown c.loop-row.yielded (row ∷ []))
          (of_next c.loop-row.written.shown.items c.note.new.self.shown.items (shown ++ c.loop-row.yielded) row here.shown c.in_ok-note-in-Ok.ensures.shown);
      few = c.in_ok-note-in-Ok.ensures.few;
      later = omega (arith, here.later, c.write_row.ensures.later);
      shapes = c.write_row.ensures.shapes;
      states = λ bytes stands.
          let s = long_of bytes c.args.sheet.now in
          let wrote = c.in-Ok.ensures.writes bytes (row_stands s block c.args.rows.items c.loop-row.yielded c.next.new.self.rest.items row whole stands) in
          tells_next s block c.loop-row.yielded row c.in-Ok.state c.args.written.now.summary.unsure c.loop-row.written.summary.unsure c.note.new.self.summary.unsure (here.states bytes stands) wrote.0
          c.in_ok-note-in-Ok.ensures.unsure;
      written = λ bytes stands.
          let s = long_of bytes c.args.sheet.now in
          let wrote = c.in-Ok.ensures.writes bytes (row_stands s block c.args.rows.items c.loop-row.yielded c.next.new.self.rest.items row whole stands) in
          writes_next s block c.loop-row.yielded row (g.O.Sink.written c.args.out.now) (g.O.Sink.written c.loop-row.out) (g.O.Sink.written c.write_row.new.out) (here.written bytes stands) (wrote.1, wrote.2, wrote.3);
    }

pub returns-in_err-note-in-Ok-clause-writes : goal.returns-in_err-note-in-Ok-clause-writes
returns-in_err-note-in-Ok-clause-writes g c = λ bytes stands.
    let here = c.loop-row.invariant in
    let s = long_of bytes c.args.sheet.now in
    let block = c.args.block.now in
    let row = c.in-Some.row in
    let whole = here.whole ∙ ap (λ (l : List Numbered). c.loop-row.yielded ++ l) c.in-Some.ensures.steps.0 in
    let wrote = c.in-Ok.ensures.writes bytes (row_stands s block c.args.rows.items c.loop-row.yielded c.next.new.self.rest.items row whole stands) in
    short_block s block (numbers_of c.args.rows.items) _ _ (g.O.Sink.written c.args.out.now) (g.O.Sink.written c.write_row.new.out) c.from_residual.result c.from_residual.ensures.1
    (block_written s block c.args.rows.items (c.loop-row.yielded ++ row ∷ []) c.next.new.self.rest.items
    (next_whole c.args.rows.items c.loop-row.yielded c.next.new.self.rest.items c.loop-row.row-iterator.rest.items row here.whole c.in-Some.ensures.steps.0) (g.O.Sink.written c.args.out.now)
    (g.O.Sink.written c.write_row.new.out)
    (writes_next s block c.loop-row.yielded row (g.O.Sink.written c.args.out.now) (g.O.Sink.written c.loop-row.out) (g.O.Sink.written c.write_row.new.out) (here.written bytes stands) (wrote.1, wrote.2, wrote.3)))

pub returns-in-Err-clause-writes : goal.returns-in-Err-clause-writes
returns-in-Err-clause-writes g c = λ bytes stands.
    let here = c.loop-row.invariant in
    let s = long_of bytes c.args.sheet.now in
    let block = c.args.block.now in
    let row = c.in-Some.row in
    let whole = here.whole ∙ ap (λ (l : List Numbered). c.loop-row.yielded ++ l) c.in-Some.ensures.steps.0 in
    let wrote = c.in-Err.ensures.writes bytes (row_stands s block c.args.rows.items c.loop-row.yielded c.next.new.self.rest.items row whole stands) in
    block_halted s block c.args.rows.items c.loop-row.yielded c.next.new.self.rest.items row whole c.args.written.now.summary.unsure c.loop-row.written.summary.unsure (g.O.Sink.written c.args.out.now)
    (g.O.Sink.written c.loop-row.out) (g.O.Sink.written c.write_row.new.out) (here.written bytes stands) c.in-Err.halt wrote

pub returns-in-Err-clause-fault : goal.returns-in-Err-clause-fault
returns-in-Err-clause-fault g c = λ e.
    let later = c.loop-row.invariant.later in
    let rose = c.write_row.ensures.fault (errs_as c.write_row.result c.in-Err.halt _ c.in-Err.is e) in
    omega (arith, later, rose)

pub returns-clause-writes : goal.returns-clause-writes
returns-clause-writes g c = λ bytes stands.
    let here = c.loop-row.invariant in
    let s = long_of bytes c.args.sheet.now in
    let ended : length c.loop-row.row-iterator.rest.items ≡ 0 = omega (arith, c.in-None.ensures.steps.0, c.loop-row.row-iterator.rest.ok) in
    let all = all_yielded c.args.rows.items c.loop-row.yielded c.loop-row.row-iterator.rest.items here.whole ended in (
      subst (λ (l : List Numbered). TellsOf s c.args.block.now (numbers_of l) c.args.written.now.summary.unsure c.loop-row.written.summary.unsure) (sym all) (here.states bytes stands),
      subst (λ (l : List Numbered). WritesOf s c.args.block.now (numbers_of l) (g.O.Sink.written c.args.out.now) (g.O.Sink.written c.loop-row.out)) (sym all) (here.written bytes stands),
    )

pub returns-clause-shown : goal.returns-clause-shown
returns-clause-shown g c =
    let here = c.loop-row.invariant in
    let ended : length c.loop-row.row-iterator.rest.items ≡ 0 = omega (arith, c.in-None.ensures.steps.0, c.loop-row.row-iterator.rest.ok) in
    let all = all_yielded c.args.rows.items c.loop-row.yielded c.loop-row.row-iterator.rest.items here.whole ended in
    subst (λ (l : List Numbered). AreOf c.loop-row.written.shown.items (c.args.written.now.shown.items ++ l)) (sym all) here.shown
