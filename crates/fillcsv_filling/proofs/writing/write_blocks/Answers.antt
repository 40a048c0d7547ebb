use Rattle.std.proofs.Common.{◌≡◌, ◌+◌, ◌≤◌, ℕ, List, All, Contains, Option, Some, drop, length, arith, refl, subst, sym}
use Rattle.std.specs.Prelude.{IfSome}
use Rattle.std.proofs.lemmas.List.Elements.{All-nil}
use Rattle.fill_output.specs.Fields.{Fields}
use Rattle.fill_sheet.specs.Sheet.{headers}
use Rattle.fillcsv_blocks.specs.Blocks.{StandsFor}
use Rattle.fillcsv_blocks.specs.declared.numbered.Numbered.{Numbered}
use Rattle.fillcsv_rows.proofs.Written.{rows_none}
use Rattle.fillcsv_filling.specs.Long.{AreFit, AreRows, ground_of, long_of, rows_of}
use Rattle.fillcsv_filling.specs.Reading.{most_rows}
use Rattle.fillcsv_filling.specs.Taught.{tables_of}
use Rattle.fillcsv_filling.specs.declared.sheet.Basis.TheVariants as basis
use Rattle.fillcsv_filling.proofs.Blockwise.{is_none, is_some}
use Rattle.fillcsv_filling.proofs.Counting.{most_rows_is}
use Rattle.fillcsv_filling.proofs.Fitting.{fit_none, kept_below, kept_fit}
use Rattle.fillcsv_filling.proofs.Rowwise.{errs_as}
use Rattle.fillcsv_filling.proofs.WrittenSoFar.{WrittenSoFar, stands_over, those_rows, written_all, written_halts, written_next, written_none, written_short}
use Rattle.fillcsv_filling.proofs.writing.write_blocks.Goals as goal

pub loop-rows-init : goal.loop-rows-init
loop-rows-init g c =
    let nothing = c.new.ensures.items in
    record {
      fit = fit_none c.args.sheet.now 1000 c.new.result.items nothing;
      below = subst (λ (l : List Numbered). All (λ it. it.number ≤ 0) l) (sym nothing) (All-nil (λ (it : Numbered). it.number ≤ 0));
      count = omega arith;
      later = omega arith;
      told = λ bytes is long taught.
          let s = long_of bytes c.args.sheet.now in
          let all = subst (λ (o : Option (List Fields)). IfSome o (λ records. c.skip_header.new.pass ≡ Some (drop (headers s.header) records))) is c.in-Ok.ensures in
          written_none s c.args.learned.now c.args.basis c.skip_header.new.pass (g.O.Sink.written c.args.out.now) _ all taught refl nothing;
    }

pub loop-rows-preserved : goal.loop-rows-preserved
loop-rows-preserved g c =
    let here = c.loop-rows.invariant in
    let n = c.loop-rows.done in
    let rows = c.in-Ok-next_rows.rows.items in
    let old = c.loop-rows.written in
    let new = c.write_rows.new.written in
    let size : length rows ≡ c.len.result = omega (arith, c.len.ensures, c.in-Ok-next_rows.rows.ok) in
    let chosen = c.in-Ok-write_rows.ensures.shown in
    record {
      fit = kept_fit n old.shown.items rows new.shown.items here.below c.in-Ok-next_rows.ensures.from chosen c.args.sheet.now 1000 here.fit c.in-Ok-next_rows.ensures.fit c.in-Ok-write_rows.ensures.few;
      below = subst (λ (k : ℕ). All (λ it. it.number ≤ n + k) new.shown.items) size (kept_below n old.shown.items rows new.shown.items here.below c.in-Ok-next_rows.ensures.from chosen);
      count = omega (arith, c.in-Ok-next_rows.ensures.few, size);
      later = omega (arith, here.later, c.write_rows.ensures.later);
      told = λ bytes is long taught.
          let s = long_of bytes c.args.sheet.now in
          let learned = c.args.learned.now in
          let out = g.O.Sink.written c.args.out.now in
          let mid = g.O.Sink.written c.loop-rows.out in
          let so_far = here.told bytes is long taught in
          let given = c.in-Ok-next_rows.ensures.rows in
          let left = c.in-Ok-next_rows.ensures.left in
          let block = c.in-Ok-block.block in
          let those = those_rows s learned c.args.basis n c.loop-rows.pass c.next_rows.new.pass out mid old c.loop-rows.basis rows so_far given left in
          let stands = c.in-Ok-block.ensures.stands bytes long so_far.taught (subst (λ (l : List Numbered). AreRows s l) (sym c.deref.ensures.value) those) in
          let over = stands_over s learned c.args.basis n c.loop-rows.pass c.next_rows.new.pass out mid old c.loop-rows.basis rows so_far given left block stands long in
          subst (λ (k : ℕ). WrittenSoFar s learned c.args.basis (n + k) c.next_rows.new.pass out (g.O.Sink.written c.write_rows.new.out) new (basis.Block block)) size
          (written_next s learned c.args.basis n c.loop-rows.pass c.next_rows.new.pass out mid old c.loop-rows.basis rows so_far given left block stands new (g.O.Sink.written c.write_rows.new.out) chosen
          (c.in-Ok-write_rows.ensures.writes bytes over));
    }

pub loop-rows-smaller : goal.loop-rows-smaller
loop-rows-smaller g c =
    let many = is_some _ c.is_empty.result c.is_empty.ensures c.if-is_empty.false in
    omega (arith, many, c.in-Ok-next_rows.rows.ok, c.in-Ok-next_rows.ensures.few, c.len.ensures)

pub overflow_cast-done : goal.overflow_cast-done
overflow_cast-done g c = omega (arith, c.in-Ok-next_rows.ensures.few, c.len.ensures, c.in-Ok-next_rows.rows.ok)

pub overflow_add-done : goal.overflow_add-done
overflow_add-done g c = omega (arith, c.in-Ok-next_rows.ensures.few, c.len.ensures, c.in-Ok-next_rows.rows.ok)

pub block-requires-clause-rows : goal.block-requires-clause-rows
block-requires-clause-rows g c = subst (λ (l : List Numbered). AreFit c.args.sheet.now most_rows l) (sym c.deref.ensures.value) c.in-Ok-next_rows.ensures.fit

pub write_rows-requires-clause-here : goal.write_rows-requires-clause-here
write_rows-requires-clause-here g c =
    subst (λ (l : List Numbered). All (λ (it : Numbered). Contains c.in-Ok-block.block.numbers it.number) l) c.deref.ensures.value c.in-Ok-block.ensures.here

pub write_rows-requires-clause-few : goal.write_rows-requires-clause-few
write_rows-requires-clause-few g c = c.loop-rows.invariant.fit.few

pub returns-then-is_empty-clause-shown : goal.returns-then-is_empty-clause-shown
returns-then-is_empty-clause-shown g c =
    let fit = c.loop-rows.invariant.fit in
    record { text = fit.text; rise = fit.rise; few = omega (arith, fit.few, most_rows_is) }

pub returns-then-is_empty-clause-writes : goal.returns-then-is_empty-clause-writes
returns-then-is_empty-clause-writes g c = λ bytes is long taught.
    let here = c.loop-rows.invariant in
    let s = long_of bytes c.args.sheet.now in
    let empty = is_none _ c.is_empty.result c.is_empty.ensures c.if-is_empty.true in
    let none : length c.in-Ok-next_rows.rows.items ≡ 0 = omega (arith, empty, c.in-Ok-next_rows.rows.ok) in
    written_all s c.args.learned.now c.args.basis c.loop-rows.done c.loop-rows.pass c.next_rows.new.pass (g.O.Sink.written c.args.out.now) (g.O.Sink.written c.loop-rows.out) c.loop-rows.written
    c.loop-rows.basis c.in-Ok-next_rows.rows.items (here.told bytes is long taught) c.in-Ok-next_rows.ensures.rows c.in-Ok-next_rows.ensures.left none here.fit.few

pub returns-in-Err-clause-writes : goal.returns-in-Err-clause-writes
returns-in-Err-clause-writes g c = λ bytes is long taught.
    let s = long_of bytes c.args.sheet.now in
    (0, omega arith, rows_none s.form s.typed (ground_of s (tables_of c.args.basis)) c.args.learned.now.examples (rows_of s) (g.O.Sink.written c.args.out.now))

pub returns-in-Err-next_rows-clause-writes : goal.returns-in-Err-next_rows-clause-writes
returns-in-Err-next_rows-clause-writes g c = λ bytes is long taught.
    written_short (long_of bytes c.args.sheet.now) c.args.learned.now c.args.basis c.loop-rows.done c.loop-rows.pass (g.O.Sink.written c.args.out.now) (g.O.Sink.written c.loop-rows.out) c.loop-rows.written
    c.loop-rows.basis (c.loop-rows.invariant.told bytes is long taught)

pub returns-in-Err-block-clause-writes : goal.returns-in-Err-block-clause-writes
returns-in-Err-block-clause-writes g c = λ bytes is long taught.
    written_short (long_of bytes c.args.sheet.now) c.args.learned.now c.args.basis c.loop-rows.done c.loop-rows.pass (g.O.Sink.written c.args.out.now) (g.O.Sink.written c.loop-rows.out) c.loop-rows.written
    c.loop-rows.basis (c.loop-rows.invariant.told bytes is long taught)

pub returns-in-Err-write_rows-clause-writes : goal.returns-in-Err-write_rows-clause-writes
returns-in-Err-write_rows-clause-writes g c = λ bytes is long taught.
    let here = c.loop-rows.invariant in
    let s = long_of bytes c.args.sheet.now in
    let learned = c.args.learned.now in
    let n = c.loop-rows.done in
    let rows = c.in-Ok-next_rows.rows.items in
    let out = g.O.Sink.written c.args.out.now in
    let mid = g.O.Sink.written c.loop-rows.out in
    let so_far = here.told bytes is long taught in
    let given = c.in-Ok-next_rows.ensures.rows in
    let left = c.in-Ok-next_rows.ensures.left in
    let block = c.in-Ok-block.block in
    let those = those_rows s learned c.args.basis n c.loop-rows.pass c.next_rows.new.pass out mid c.loop-rows.written c.loop-rows.basis rows so_far given left in
    let stands = c.in-Ok-block.ensures.stands bytes long so_far.taught (subst (λ (l : List Numbered). AreRows s l) (sym c.deref.ensures.value) those) in
    let over = stands_over s learned c.args.basis n c.loop-rows.pass c.next_rows.new.pass out mid c.loop-rows.written c.loop-rows.basis rows so_far given left block stands long in
    written_halts s learned c.args.basis n c.loop-rows.pass c.next_rows.new.pass out mid c.loop-rows.written c.loop-rows.basis rows so_far given left block stands c.loop-rows.written.summary.unsure c.write_rows.new.written.summary.unsure (g.O.Sink.written c.write_rows.new.out)
    c.in-Err-write_rows.halt (c.in-Err-write_rows.ensures.writes bytes over)

pub returns-in-Err-write_rows-clause-fault : goal.returns-in-Err-write_rows-clause-fault
returns-in-Err-write_rows-clause-fault g c = λ e.
    let later = c.loop-rows.invariant.later in
    let rose = c.write_rows.ensures.fault (errs_as c.write_rows.result c.in-Err-write_rows.halt _ c.in-Err-write_rows.is e) in
    omega (arith, later, rose)
