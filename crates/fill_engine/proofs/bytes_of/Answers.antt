use Rattle.fill_engine.specs.Answer.{answer_data}
use Rattle.fill_engine.proofs.Results.{if_ok_map}
use Rattle.fill_engine.proofs.bytes_of.Goals as goal

pub returns : goal.returns
returns c = if_ok_map c.bytes.result (λ bytes are. (answer_data c.in_ok-answer.answer, c.in_ok-answer.ensures, are)) c.bytes.ensures
