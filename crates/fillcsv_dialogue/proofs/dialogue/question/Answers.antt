use Rattle.std.proofs.Common.{◌∙◌, ◌++◌, List, None, Some, ap}
use Rattle.std.specs.Prelude.{map}
use Rattle.fillcsv_rows.specs.declared.learning.Refused.{Refused}
use Rattle.fillcsv_dialogue.specs.Replies.{rows_of}
use Rattle.fill_session.specs.Suggested.{asked_of}
use Rattle.fillcsv_dialogue.proofs.Growing.{grew_both}
use Rattle.fillcsv_dialogue.proofs.Talking.{question_is}
use Rattle.fillcsv_dialogue.proofs.dialogue.question.Goals as goal

pub returns-in-None-clause-asked : goal.returns-in-None-clause-asked
returns-in-None-clause-asked g c =
    question_is c.args.session.now.spaces.ground c.learn.new.session.spaces.ground c.args.topic.now.words.now c.args.kept.now c.as_slice.result.now c.deref.result.now c.learn.new.session.examples c.in_ok-refused.refused None
    (c.as_slice.ensures ∙ c.in_ok-typed.ensures) (c.deref.ensures.value ∙ c.in_ok-passed.ensures ∙ ap (λ (rs : List Refused). rows_of c.args.kept.now ++ map (λ r. r.row) rs) c.as_slice-2.ensures) c.in_ok-refused.ensures.ground c.in_ok-refused.ensures.learned (rw c.in-None.is at c.in_ok-found.ensures)

pub returns-clause-asked : goal.returns-clause-asked
returns-clause-asked g c =
    question_is c.args.session.now.spaces.ground c.learn.new.session.spaces.ground c.args.topic.now.words.now c.args.kept.now c.as_slice.result.now c.deref.result.now c.learn.new.session.examples c.in_ok-refused.refused (Some (asked_of c.in-Some.asked))
    (c.as_slice.ensures ∙ c.in_ok-typed.ensures) (c.deref.ensures.value ∙ c.in_ok-passed.ensures ∙ ap (λ (rs : List Refused). rows_of c.args.kept.now ++ map (λ r. r.row) rs) c.as_slice-2.ensures) c.in_ok-refused.ensures.ground c.in_ok-refused.ensures.learned (rw c.in-Some.is at c.in_ok-found.ensures)

pub returns-clause-grew : goal.returns-clause-grew
returns-clause-grew g c =
    grew_both (g.E.Sink.written c.args.err.now) (g.E.Sink.written c.tell_refusal.new.err) (g.E.Sink.written c.tell_question.new.err)
    (g.E.Sink.faults c.args.err.now) (g.E.Sink.faults c.tell_refusal.new.err) (g.E.Sink.faults c.tell_question.new.err) c.tell_refusal.ensures c.tell_question.ensures
