use Rattle.fillcsv_dialogue.proofs.Growing.{grew_by}
use Rattle.fillcsv_dialogue.proofs.say.say.Goals as goal

pub returns : goal.returns
returns g c = grew_by c.write_all.result _ _ _ _ c.args.text.now c.write_all.ensures.whole c.write_all.ensures.part c.write_all.ensures.later
