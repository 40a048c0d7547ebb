use Rattle.fill_space.proofs.Building.{built_put}
use Rattle.fill_space.proofs.built.Built.keep.Goals as goal

pub returns-in-Ok : goal.returns-in-Ok
returns-in-Ok c = λ g arena told is. built_put g arena c.args.self.now (record { table = c.put_built.new.table; places = c.args.self.now.places }) c.args.row (record { text = c.args.text.now; graph = c.args.graph }) c.in-Ok.ensures is told.places told
