use Rattle.std.proofs.Common.{◌≡◌, ◌∙◌, List, [], ◌∷◌, ◌++◌, ap, length, length-append, arith, inl, inr, sym, subst}
use Rattle.fillcsv_blocks.specs.declared.numbered.Numbered.{Numbered}
use Rattle.fillcsv_filling.specs.Taught.{IsInStep}
use Rattle.fillcsv_filling.proofs.Teaching.{gives_added, step_added, step_more, tables_added}
use Rattle.fillcsv_filling.proofs.learning.learn_text.Goals as goal

pub returns-clause-kept : goal.returns-clause-kept
returns-clause-kept g c =
    let kept : c.add.new.self.kept.items ≡ c.args.learned.now.kept.items = λ i. (c.add.ensures.kept i).items in
    inr (c.in_ok-push.ensures.items ∙ ap (λ (l : List Numbered). l ++ c.args.row ∷ []) kept)

pub returns-clause-few : goal.returns-clause-few
returns-clause-few g c = omega (arith, c.if-len-ge-MOST_EXAMPLES.false, ap length c.in_ok-push.ensures.items, length-append c.add.new.self.kept.items (c.args.row ∷ []), c.len.ensures)

pub returns-clause-learns : goal.returns-clause-learns
returns-clause-learns g c = λ s step below.
    let old = c.args.learned.now in
    let kept : c.add.new.self.kept.items ≡ old.kept.items = λ i. (c.add.ensures.kept i).items in
    let added = c.in_ok-accepted.ensures.added in
    record {
      step = subst (λ (l : List Numbered). IsInStep s l c.add.new.block) (sym (c.in_ok-push.ensures.items ∙ ap (λ (l : List Numbered). l ++ c.args.row ∷ []) kept))
          (step_more s c.args.block.now c.add.new.block old.kept.items c.args.row c.args.text step c.in_ok-accepted.accepted old.refused c.add.new.self.refused c.if-not-accepted.false below added);
      tables = tables_added s c.args.block.now c.add.new.block old.kept.items c.args.row c.args.text step c.in_ok-accepted.accepted old.refused c.add.new.self.refused added;
      gives = gives_added s c.args.block.now c.add.new.block old.kept.items c.args.row c.args.text step c.in_ok-accepted.accepted old.refused c.add.new.self.refused added;
    }

pub returns-then-not-accepted-clause-kept : goal.returns-then-not-accepted-clause-kept
returns-then-not-accepted-clause-kept g c = inl (λ i. (c.add.ensures.kept i).items)

pub returns-then-not-accepted-clause-learns : goal.returns-then-not-accepted-clause-learns
returns-then-not-accepted-clause-learns g c = λ s step below.
    let old = c.args.learned.now in
    let kept : c.add.new.self.kept.items ≡ old.kept.items = λ i. (c.add.ensures.kept i).items in
    let added = c.in_ok-accepted.ensures.added in
    record {
      step = subst (λ (l : List Numbered). IsInStep s l c.add.new.block) (sym kept)
          (step_added s c.args.block.now c.add.new.block old.kept.items c.args.row c.args.text step c.in_ok-accepted.accepted old.refused c.add.new.self.refused c.if-not-accepted.true added);
      tables = tables_added s c.args.block.now c.add.new.block old.kept.items c.args.row c.args.text step c.in_ok-accepted.accepted old.refused c.add.new.self.refused added;
      gives = gives_added s c.args.block.now c.add.new.block old.kept.items c.args.row c.args.text step c.in_ok-accepted.accepted old.refused c.add.new.self.refused added;
    }
