-- The session's answer, under the row's number in the long sheet.
use Rattle.std.proofs.Common.{List}
use Rattle.std.proofs.lemmas.Result.{IfOk-weaker}
use Rattle.fill_tree.specs.declared.user.Example.{Example}
use Rattle.fill_space.specs.declared.ground.Ground.{Ground}
use Rattle.fill_session.specs.Answers.{AnswerIs}
use Rattle.fillcsv_blocks.specs.Blocks.{StandsFor}
use Rattle.fillcsv_blocks.proofs.Standing.{answered}
use Rattle.fillcsv_blocks.proofs.block.Block.answer.Goals as goal

pub returns-clause-answer : goal.returns-clause-answer
returns-clause-answer c =
    IfOk-weaker c.answer_with.result (λ a. AnswerIs c.self.inside.session.spaces.ground c.self.inside.session.examples c.row_of-row.result a)
    (λ a. (g : Ground) (examples : List Example) → StandsFor g c.args.self.now examples → AnswerIs g examples c.args.number a)
    (λ a told g examples s. answered g c.args.self.now examples s c.keeps_rows.ensures _ c.self.view_is c.args.number c.row_of-row.result c.row_of-row.ensures a told) c.answer_with.ensures.answer
