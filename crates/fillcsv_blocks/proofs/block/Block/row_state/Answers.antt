-- The state of a cell by what its row gives and by its answer.
use Rattle.std.proofs.Common.{◌∙◌, ap}
use Rattle.fillcsv_rows.specs.Filled.{cell_state}
use Rattle.fillcsv_blocks.proofs.block.Block.row_state.Goals as goal

pub returns : goal.returns
returns c = λ g examples s answer. (c.args.answer.now, answer, c.cell_state.ensures ∙ ap (λ given. cell_state given c.args.answer.now) (c.given_for.ensures g examples s))
