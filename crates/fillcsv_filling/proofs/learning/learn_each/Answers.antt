use Rattle.std.proofs.Common.{◌≡◌, ◌∙◌, ℕ, List, [], ◌∷◌, ◌++◌, All, Contains, ap, append_assoc, append-nil, arith, length, refl, subst, sym}
use Rattle.fillcsv_rows.specs.declared.learning.Refused.{Refused}
use Rattle.fillcsv_blocks.specs.Merged.{RowsRise}
use Rattle.fillcsv_blocks.specs.declared.numbered.Numbered.{Numbered}
use Rattle.fillcsv_filling.specs.Long.{long_of}
use Rattle.fillcsv_filling.specs.Reading.{AreOf}
use Rattle.fillcsv_filling.specs.Taught.{LearnsEach}
use Rattle.fillcsv_filling.proofs.Choosing.{of_next, of_same}
use Rattle.fillcsv_filling.proofs.Lessons.{all_mid, all_yielded, each_next, kept_before}
use Rattle.fillcsv_filling.proofs.learning.learn_each.Goals as goal

pub loop-row-init : goal.loop-row-init
loop-row-init g c =
    let none : List Refused = [] in
    let kept = c.args.learned.now.kept.items in
    record {
      whole = sym c.into_iter-row-iterator.ensures.into_iter_gives.0;
      numbers = refl;
      few = c.requires.few;
      kept = subst (λ (l : List Numbered). AreOf kept l) (sym (append-nil kept)) (of_same kept);
      learns = λ bytes step rises. record { step = step; tables = refl; learns = (none, (refl, refl), sym (append-nil c.args.learned.now.refused)) };
    }

pub learn_row-requires-clause-here : goal.learn_row-requires-clause-here
learn_row-requires-clause-here g c =
    let here = c.loop-row.invariant in
    let Has = λ (it : Numbered). Contains c.args.block.now.numbers it.number in
    let whole = here.whole ∙ ap (λ (l : List Numbered). c.loop-row.yielded ++ l) c.in-Some.ensures.steps.0 in
    let has = all_mid Has c.loop-row.yielded _ c.in-Some.row (subst (λ (l : List Numbered). All Has l) whole c.requires.here) in
    subst (λ (l : List ℕ). Contains l c.in-Some.row.number) (sym here.numbers) has

pub loop-row-preserved : goal.loop-row-preserved
loop-row-preserved g c =
    let here = c.loop-row.invariant in
    let row = c.in-Some.row in
    let old = c.args.learned.now in
    let whole = here.whole ∙ ap (λ (l : List Numbered). c.loop-row.yielded ++ l) c.in-Some.ensures.steps.0 in
    record {
      whole = whole ∙ sym (append_assoc c.loop-row.yielded (row ∷ []) c.next.new.self.rest.items);
      numbers = c.in_ok-learn_row.ensures.numbers ∙ here.numbers;
      few = c.in_ok-learn_row.ensures.few;
      kept = subst (λ (l : List Numbered). AreOf c.learn_row.new.learned.kept.items l) (append_assoc old.kept.items c.loop-row.yielded (row ∷ []))
          (of_next c.loop-row.learned.kept.items c.learn_row.new.learned.kept.items (old.kept.items ++ c.loop-row.yielded) row here.kept c.in_ok-learn_row.ensures.kept);
      learns = λ bytes step rises.
          let s = long_of bytes c.args.sheet.now in
          let so_far = here.learns bytes step rises in
          let before = kept_before c.loop-row.learned.kept.items old.kept.items c.loop-row.yielded _ row here.kept (subst (λ (l : List Numbered). RowsRise (old.kept.items ++ l)) whole rises) in
          each_next s c.args.block.now c.loop-row.block c.learn_row.new.block old c.loop-row.learned c.learn_row.new.learned c.loop-row.yielded row so_far (c.in_ok-learn_row.ensures.learns bytes so_far.step before);
    }

pub returns-clause-kept : goal.returns-clause-kept
returns-clause-kept g c =
    let here = c.loop-row.invariant in
    let ended : length c.loop-row.row-iterator.rest.items ≡ 0 = omega (arith, c.in-None.ensures.steps.0, c.loop-row.row-iterator.rest.ok) in
    let all = all_yielded c.args.rows.items c.loop-row.yielded c.loop-row.row-iterator.rest.items here.whole ended in
    subst (λ (l : List Numbered). AreOf c.loop-row.learned.kept.items (c.args.learned.now.kept.items ++ l)) (sym all) here.kept

pub returns-clause-learns : goal.returns-clause-learns
returns-clause-learns g c = λ bytes step rises.
    let here = c.loop-row.invariant in
    let ended : length c.loop-row.row-iterator.rest.items ≡ 0 = omega (arith, c.in-None.ensures.steps.0, c.loop-row.row-iterator.rest.ok) in
    let all = all_yielded c.args.rows.items c.loop-row.yielded c.loop-row.row-iterator.rest.items here.whole ended in
    subst (λ (l : List Numbered). LearnsEach (long_of bytes c.args.sheet.now) c.args.block.now c.args.learned.now c.loop-row.learned l c.loop-row.block) (sym all) (here.learns bytes step rises)
