use Rattle.fill_eval.proofs.Guards.{literal_by_count}
use Rattle.fill_eval.proofs.guard.literal_holds.Goals as goal

pub returns : goal.returns
returns c = literal_by_count c.args.sheet.now c.args.row c.args.l.now c.cell.result.now c.match_count.result c.cell.ensures c.match_count.ensures
