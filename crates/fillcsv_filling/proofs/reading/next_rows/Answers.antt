use Rattle.std.proofs.Common.{◌≡◌, ◌∙◌, ◌+◌, ◌≤◌, ℕ, List, [], ◌∷◌, ◌++◌, All, Some, ap, arith, drop, length, refl, subst, sym, take}
use Rattle.std.proofs.lemmas.List.{length-append}
use Rattle.fill_sheet.specs.Columns.{rising}
use Rattle.fill_output.specs.Fields.{Fields}
use Rattle.fill_passes.proofs.Known.{if_some}
use Rattle.fillcsv_blocks.specs.Merged.{IsReadable}
use Rattle.fillcsv_blocks.specs.declared.numbered.Numbered.{Numbered}
use Rattle.fillcsv_filling.specs.Reading.{AreFrom, most_rows, numbered}
use Rattle.fillcsv_filling.proofs.Counting.{drop_next, left_end, most_rows_is, row_at, row_more, rows_end}
use Rattle.fillcsv_filling.proofs.Fitting.{from_rises}
use Rattle.fillcsv_filling.proofs.Passed.{left_told, next_told}
use Rattle.fillcsv_filling.proofs.Readable.{from_more, readable_more}
use Rattle.fillcsv_filling.proofs.reading.next_rows.Goals as goal

pub returns-in-Ok-None-clause-rows : goal.returns-in-Ok-None-clause-rows
returns-in-Ok-None-clause-rows g c =
    let here = c.loop-n.invariant in
    let n = c.loop-n.n in
    let few : c.loop-n.n ≤ most_rows = omega (arith, most_rows_is) in
    if_some (λ (all : List Fields). c.loop-n.rows.items ≡ numbered (c.args.done + 1) (take most_rows all)) c.args.pass.now
    (λ all told. rows_end (c.args.done + 1) n most_rows all (drop n all) c.in-Ok-None.field-0 c.loop-n.rows.items few (here.rows all told) refl
    (next_told n all c.loop-n.pass (here.left all told) c.in-Ok-None.field-0 c.in-Ok-None.ensures.found) c.in-Ok-None.field-0-is)

pub returns-in-Ok-None-clause-left : goal.returns-in-Ok-None-clause-left
returns-in-Ok-None-clause-left g c =
    let here = c.loop-n.invariant in
    let n = c.loop-n.n in
    let few : c.loop-n.n ≤ most_rows = omega (arith, most_rows_is) in
    if_some (λ (all : List Fields). c.next.new.self ≡ Some (drop most_rows all)) c.args.pass.now
    (λ all told. left_told n all c.loop-n.pass (here.left all told) c.next.new.self c.in-Ok-None.ensures.left
    ∙ ap (λ (l : List Fields). Some l) (left_end n most_rows all (drop n all) (drop (n + 1) all) c.in-Ok-None.field-0 few refl
    (next_told n all c.loop-n.pass (here.left all told) c.in-Ok-None.field-0 c.in-Ok-None.ensures.found) c.in-Ok-None.field-0-is (sym (drop_next n all))))

pub returns-in-Ok-None-clause-fit : goal.returns-in-Ok-None-clause-fit
returns-in-Ok-None-clause-fit g c =
    let here = c.loop-n.invariant in
    record {
      text = here.text;
      rise = from_rises (c.args.done + 1) c.loop-n.rows.items here.from;
      few = omega (arith, here.each, most_rows_is);
    }

pub loop-n-preserved : goal.loop-n-preserved
loop-n-preserved g c =
    let here = c.loop-n.invariant in
    let n = c.loop-n.n in
    let first = c.args.done + 1 in
    let old = c.loop-n.rows.items in
    let inputs = rising c.args.sheet.now.inputs.now in
    let output = c.args.sheet.now.output in
    let fields = c.in-Ok-Some.fields in
    let row : Numbered = row_at (c.args.done + c.loop-n.n + 1) fields in
    let items : c.push.new.self.items ≡ c.loop-n.rows.items ++ row ∷ [] = c.in_ok-push.ensures.items in
    let same : c.args.done + c.loop-n.n + 1 ≡ c.args.done + 1 + c.loop-n.n = omega arith in
    record {
      each = omega (arith, ap length items, length-append old (row ∷ []), here.each);
      few = omega arith;
      text = subst (λ (l : List Numbered). All (IsReadable inputs output) l) (sym items) (readable_more inputs output old row here.text (c.is_readable.ensures c.if-not-is_readable.false));
      from = subst (λ (l : List Numbered). AreFrom first l) (sym items) (from_more first old row here.from (omega (arith, here.each)));
      rows = λ all told.
          row_more first n all (drop n all) c.in-Ok-Some.field-0 fields old c.push.new.self.items (here.rows all told) refl
          (next_told n all c.loop-n.pass (here.left all told) c.in-Ok-Some.field-0 c.in-Ok-Some.ensures.found) c.in-Ok-Some.field-0-is (items ∙ ap (λ (k : ℕ). old ++ row_at k fields ∷ []) same);
      left = λ all told. left_told n all c.loop-n.pass (here.left all told) c.next.new.self c.in-Ok-Some.ensures.left;
    }

pub returns-clause-rows : goal.returns-clause-rows
returns-clause-rows g c =
    let full : c.loop-n.n ≡ most_rows = omega (arith, most_rows_is) in
    if_some (λ (all : List Fields). c.loop-n.rows.items ≡ numbered (c.args.done + 1) (take most_rows all)) c.args.pass.now
    (λ all told. c.loop-n.invariant.rows all told ∙ ap (λ (k : ℕ). numbered (c.args.done + 1) (take k all)) full)

pub returns-clause-left : goal.returns-clause-left
returns-clause-left g c =
    let full : c.loop-n.n ≡ most_rows = omega (arith, most_rows_is) in
    if_some (λ (all : List Fields). c.loop-n.pass ≡ Some (drop most_rows all)) c.args.pass.now
    (λ all told. c.loop-n.invariant.left all told ∙ ap (λ (k : ℕ). Some (drop k all)) full)

pub returns-clause-fit : goal.returns-clause-fit
returns-clause-fit g c =
    let here = c.loop-n.invariant in
    record {
      text = here.text;
      rise = from_rises (c.args.done + 1) c.loop-n.rows.items here.from;
      few = omega (arith, here.each, most_rows_is);
    }
