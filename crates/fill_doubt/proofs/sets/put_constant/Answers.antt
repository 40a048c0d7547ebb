use Rattle.fill_doubt.proofs.Gains.{gains_none}
use Rattle.fill_doubt.proofs.Items.{no_constant}
use Rattle.fill_doubt.proofs.sets.put_constant.Goals as goal

pub returns-in-Const-clause-gains : goal.returns-in-Const-clause-gains
returns-in-Const-clause-gains c = rw c.in-Const.is c.put_whole.ensures.gains

pub returns-in_default-clause-gains : goal.returns-in_default-clause-gains
returns-in_default-clause-gains c = gains_none _ _ (no_constant c.args.item.now c.in_default.not-Const)
