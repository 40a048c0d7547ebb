use Rattle.fill_doubt.proofs.Items.{constant_answers}
use Rattle.fill_doubt.proofs.some.constant_of.Goals as goal

pub returns-in-Const : goal.returns-in-Const
returns-in-Const c = constant_answers c.args.item.now c.in-Const.text _ c.filled.result c.in-Const.is c.whole.ensures.value c.filled.ensures.value c.filled.ensures.within
