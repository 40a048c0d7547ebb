use Rattle.std.proofs.Common.{refl}
use Rattle.fill_doubt.specs.Rows.{cell_choice}
use Rattle.fill_doubt.proofs.Gains.{have_pushed}
use Rattle.fill_doubt.proofs.conditions.Cells.put.Goals as goal

pub returns-in-Ok : goal.returns-in-Ok
returns-in-Ok c = have_pushed cell_choice c.args.self.now.cells.items _ c.args.self.now.none _ _ c.in-Ok.ensures.items refl
