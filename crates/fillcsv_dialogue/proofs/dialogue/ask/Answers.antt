use Rattle.std.proofs.Common.{◌≡◌, ◌∙◌, [], List, ap, arith, refl, subst, sym}
use Rattle.std.proofs.lemmas.Result.{IfOk-weaker}
use Rattle.std.specs.Io.KnownBytes.{prepend_known}
use Rattle.fill_tree.specs.declared.user.Example.{Example}
use Rattle.fillcsv_dialogue.specs.Dialogue.{AreAnswered}
use Rattle.fillcsv_dialogue.specs.Replies.{typed_with}
use Rattle.fillcsv_dialogue.proofs.Growing.{grew_both, grew_not}
use Rattle.fillcsv_dialogue.proofs.Talking.{all_answered, goes_both, goes_start}
use Rattle.fillcsv_dialogue.proofs.dialogue.ask.Goals as goal

pub loop-init : goal.loop-init
loop-init g c = record {
  empty = c.requires;
  ground = refl;
  went = goes_start c.args.session.now.spaces.ground c.args.topic.now.words.now c.new-dialogue.result.kept.items (g.S.Source.left c.args.input.now) c.new-dialogue.result.lines.held c.new-dialogue.ensures.kept c.new-dialogue.ensures.held;
  later = omega arith;
  grew = grew_not (g.E.Sink.written c.args.err.now) (g.E.Sink.faults c.args.err.now);
}

pub loop-preserved : goal.loop-preserved
loop-preserved g c =
    let was = c.loop.invariant in
    let turned = rw (c.in-Ok-true.field-0-test, was.ground) at c.in-Ok-true.ensures.turns in
    record {
      empty = c.in-Ok-true.ensures.empty;
      ground = c.turn.ensures.ground ∙ was.ground;
      went = goes_both c.args.session.now.spaces.ground c.args.topic.now.words.now [] c.loop.dialogue.kept.items c.turn.new.self.kept.items (g.S.Source.left c.args.input.now)
          (prepend_known c.loop.dialogue.lines.held (g.S.Source.left c.loop.input)) (prepend_known c.turn.new.self.lines.held (g.S.Source.left c.turn.new.input)) was.went turned;
      later = omega (arith, was.later, c.turn.ensures.later);
      grew = grew_both _ _ _ _ _ _ was.grew c.turn.ensures.grew;
    }

pub returns-in-Ok-false-clause-answered : goal.returns-in-Ok-false-clause-answered
returns-in-Ok-false-clause-answered g c =
    let was = c.loop.invariant in
    let turned = rw (c.in-Ok-false.field-0-test, was.ground) at c.in-Ok-false.ensures.turns in
    let answered = all_answered c.args.session.now.spaces.ground c.args.topic.now.words.now c.loop.dialogue.kept.items (g.S.Source.left c.args.input.now)
    (prepend_known c.loop.dialogue.lines.held (g.S.Source.left c.loop.input)) (g.S.Source.faults c.args.input.now) (g.S.Source.faults c.loop.input) (g.S.Source.faults c.turn.new.input) was.went was.later turned.1 in
    IfOk-weaker c.typed_with.result _ _ (λ typed h.
    let same : typed_with c.args.topic.now.words.now c.loop.dialogue.kept.items ≡ typed = sym (h ∙ ap (typed_with c.args.topic.now.words.now) (c.deref.ensures.value ∙ turned.0)) in
    subst (λ (t : List Example). AreAnswered c.args.session.now.spaces.ground c.args.topic.now.words.now (g.S.Source.left c.args.input.now) (g.S.Source.faults c.args.input.now) (g.S.Source.faults c.turn.new.input) t) same answered) c.typed_with.ensures

pub returns-in-Ok-false-clause-grew : goal.returns-in-Ok-false-clause-grew
returns-in-Ok-false-clause-grew g c = grew_both _ _ _ _ _ _ c.loop.invariant.grew c.turn.ensures.grew

pub returns-in-Err-clause-grew : goal.returns-in-Err-clause-grew
returns-in-Err-clause-grew g c = grew_both _ _ _ _ _ _ c.loop.invariant.grew c.turn.ensures.grew
