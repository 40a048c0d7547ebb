use Rattle.fill_doubt.proofs.Flags.{on_ok}
use Rattle.fill_doubt.proofs.Spotted.{gains_value}
use Rattle.fill_doubt.proofs.carry.put_value.Goals as goal

pub returns : goal.returns
returns c = on_ok c.put_answer.result c.put_answer.ensures (gains_value _ _ c.args.place.now c.args.text.now c.place_value.result c.place_value.ensures)
