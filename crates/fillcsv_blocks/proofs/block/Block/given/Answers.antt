-- The text that the block's sheet gives is that of the long sheet.
use Rattle.std.proofs.Common.{◌∙◌, ap}
use Rattle.fill_text.specs.Data.{SheetData}
use Rattle.fill_sheet.specs.Sheet.{given_at}
use Rattle.fillcsv_blocks.proofs.Standing.{given_there}
use Rattle.fillcsv_blocks.proofs.block.Block.given.Goals as goal

pub returns : goal.returns
returns c = λ g examples s.
    c.given.ensures ∙ (ap (λ (x : SheetData). given_at x c.row_of-row.result) c.sheet.ensures
    ∙ given_there g c.args.self.now examples s _ c.self.view_is c.args.number c.row_of-row.result c.row_of-row.ensures)
