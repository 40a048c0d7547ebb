-- What is typed for a row, or else what its cell gives.
use Rattle.std.proofs.Common.{◌∙◌, ap}
use Rattle.fill_sheet.specs.Sheet.{given_at}
use Rattle.fillcsv_rows.specs.Learned.{given_by}
use Rattle.fillcsv_blocks.proofs.block.Block.given_for.Goals as goal

pub returns-in-None : goal.returns-in-None
returns-in-None c = λ g examples s. c.given.ensures g examples s ∙ ap (λ typed. given_by typed (given_at g.sheet c.args.number)) c.in-None.ensures
