use Rattle.std.proofs.Common.{◌≡◌, ◌<◌, ◌+◌, ◌++◌, ◌≤◌, ℕ, List, All, Option, Some, length, ap, arith, refl, subst, sym}
use Rattle.std.specs.Prelude.{IfSome, drop}
use Rattle.std.proofs.lemmas.List.Elements.{All-nil}
use Rattle.fill_tree.specs.declared.user.TheConstants.{MOST_EXAMPLES}
use Rattle.fill_output.specs.Fields.{Fields}
use Rattle.fill_sheet.specs.Sheet.{headers}
use Rattle.fillcsv_blocks.specs.declared.numbered.Numbered.{Numbered}
use Rattle.fillcsv_filling.specs.Long.{AreFit, long_of, rows_of}
use Rattle.fillcsv_filling.proofs.Blockwise.{is_none, is_some}
use Rattle.fillcsv_filling.proofs.Fitting.{fit_none, kept_below, kept_fit}
use Rattle.fillcsv_filling.proofs.LearnedSoFar.{LearnedSoFar, learned_all, learned_next, learned_none, those_in}
use Rattle.fillcsv_filling.proofs.learning.learn.Goals as goal

pub loop-rows-init : goal.loop-rows-init
loop-rows-init g c =
    let nothing = c.new-2.ensures.items in
    record {
      fit = fit_none c.args.sheet.now MOST_EXAMPLES c.new-2.result.items nothing;
      below = subst (λ (l : List Numbered). All (λ it. it.number ≤ 0) l) (sym nothing) (All-nil (λ (it : Numbered). it.number ≤ 0));
      count = omega arith;
      told = λ bytes is long.
          let s = long_of bytes c.args.sheet.now in
          let all = subst (λ (o : Option (List Fields)). IfSome o (λ records. c.skip_header.new.pass ≡ Some (drop (headers s.header) records))) is c.in-Ok.ensures in
          learned_none s c.args.tables c.skip_header.new.pass _ all c.new.ensures c.new-3.ensures nothing;
    }

pub loop-rows-preserved : goal.loop-rows-preserved
loop-rows-preserved g c =
    let here = c.loop-rows.invariant in
    let rows = c.in-Ok-next_rows.rows.items in
    let old = c.loop-rows.learned in
    let new = c.learn_rows.new.learned in
    let size : length rows ≡ c.len.result = omega (arith, c.len.ensures, c.in-Ok-next_rows.rows.ok) in
    let chosen = c.in-Ok-learn_rows.ensures.kept in
    record {
      fit = kept_fit c.loop-rows.done old.kept.items rows new.kept.items here.below c.in-Ok-next_rows.ensures.from chosen c.args.sheet.now MOST_EXAMPLES here.fit c.in-Ok-next_rows.ensures.fit c.in-Ok-learn_rows.ensures.few;
      below = subst (λ (n : ℕ). All (λ it. it.number ≤ c.loop-rows.done + n) new.kept.items) size
          (kept_below c.loop-rows.done old.kept.items rows new.kept.items here.below c.in-Ok-next_rows.ensures.from chosen);
      count = omega (arith, c.in-Ok-next_rows.ensures.few, size);
      told = λ bytes is long.
          let s = long_of bytes c.args.sheet.now in
          let so_far = here.told bytes is long in
          let those = those_in s c.args.tables c.loop-rows.done c.loop-rows.pass c.next_rows.new.pass rows old c.loop-rows.basis so_far c.in-Ok-next_rows.ensures.rows c.in-Ok-next_rows.ensures.left in
          subst (λ (n : ℕ). LearnedSoFar s c.args.tables (c.loop-rows.done + n) c.next_rows.new.pass new c.in-Ok-learn_rows.basis) size
          (learned_next s c.args.tables c.loop-rows.done c.loop-rows.pass c.next_rows.new.pass rows old c.loop-rows.basis so_far c.in-Ok-next_rows.ensures.rows c.in-Ok-next_rows.ensures.left new c.in-Ok-learn_rows.basis chosen
          (c.in-Ok-learn_rows.ensures.learns bytes long so_far.taught those));
    }

pub loop-rows-smaller : goal.loop-rows-smaller
loop-rows-smaller g c =
    let many = is_some _ c.is_empty.result c.is_empty.ensures c.if-is_empty.false in
    omega (arith, many, c.in-Ok-next_rows.rows.ok, c.in-Ok-next_rows.ensures.few, c.len.ensures)

pub overflow_cast-done : goal.overflow_cast-done
overflow_cast-done g c = omega (arith, c.in-Ok-next_rows.ensures.few, c.len.ensures, c.in-Ok-next_rows.rows.ok)

pub overflow_add-done : goal.overflow_add-done
overflow_add-done g c = omega (arith, c.in-Ok-next_rows.ensures.few, c.len.ensures, c.in-Ok-next_rows.rows.ok)

pub returns-then-is_empty-clause-teaches : goal.returns-then-is_empty-clause-teaches
returns-then-is_empty-clause-teaches g c = λ bytes is long.
    let s = long_of bytes c.args.sheet.now in
    let empty = is_none _ c.is_empty.result c.is_empty.ensures c.if-is_empty.true in
    let none : length c.in-Ok-next_rows.rows.items ≡ 0 = omega (arith, empty, c.in-Ok-next_rows.rows.ok) in
    learned_all s c.args.tables c.loop-rows.done c.loop-rows.pass c.next_rows.new.pass c.in-Ok-next_rows.rows.items c.loop-rows.learned c.loop-rows.basis (c.loop-rows.invariant.told bytes is long)
    c.in-Ok-next_rows.ensures.rows c.in-Ok-next_rows.ensures.left none
