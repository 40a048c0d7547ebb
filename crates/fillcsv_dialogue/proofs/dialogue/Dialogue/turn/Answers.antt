use Rattle.std.proofs.Common.{refl}
use Rattle.std.proofs.lemmas.Result.{IfOk-weaker}
use Rattle.std.specs.Io.KnownBytes.{prepend_known}
use Rattle.fill_session.specs.Suggested.{asked_of}
use Rattle.fillcsv_dialogue.proofs.Growing.{grew_both}
use Rattle.fillcsv_dialogue.proofs.Talking.{heard_turns, over_unasked}
use Rattle.fillcsv_dialogue.proofs.dialogue.Dialogue.turn.Goals as goal

pub returns-in-Some-clause-turns : goal.returns-in-Some-clause-turns
returns-in-Some-clause-turns g c =
    let question = rw (c.in-Some.is, c.deref.ensures.value) at c.in_ok-asked.ensures.asked in
    IfOk-weaker c.hear.result _ _ (λ on h. heard_turns c.args.session.now.spaces.ground c.args.topic.now.words.now (asked_of c.in-Some.asked) c.args.self.now.kept.items c.hear.new.self.kept.items question on
    (prepend_known c.args.self.now.lines.held (g.S.Source.left c.args.input.now)) (prepend_known c.hear.new.self.lines.held (g.S.Source.left c.hear.new.input))
    (g.S.Source.faults c.args.input.now) (g.S.Source.faults c.hear.new.input) h) c.hear.ensures.hears

pub returns-in-None-clause-turns : goal.returns-in-None-clause-turns
returns-in-None-clause-turns g c =
    let question = rw (c.in-None.is, c.deref.ensures.value) at c.in_ok-asked.ensures.asked in (
      refl,
      over_unasked c.args.session.now.spaces.ground c.args.topic.now.words.now c.args.self.now.kept.items
          (prepend_known c.args.self.now.lines.held (g.S.Source.left c.args.input.now)) (g.S.Source.faults c.args.input.now) (g.S.Source.faults c.args.input.now) question,
    )

pub returns-in-Some-clause-grew : goal.returns-in-Some-clause-grew
returns-in-Some-clause-grew g c = grew_both _ _ _ _ _ _ c.question.ensures.grew c.hear.ensures.grew
