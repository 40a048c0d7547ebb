use Rattle.std.proofs.Common.{sym}
use Rattle.fillcsv_filling.specs.Long.{long_of}
use Rattle.fillcsv_filling.proofs.Giving.{gives_none}
use Rattle.fillcsv_filling.proofs.learning.gives.Goals as goal

pub returns-in-None : goal.returns-in-None
returns-in-None c = λ bytes long there none. gives_none (long_of bytes c.args.sheet.now) c.args.row.now there (sym c.in-None.ensures) (c.has_cell.ensures none)
