use Rattle.fill_space.proofs.Weighing.{weight_put}
use Rattle.fill_space.proofs.weights.Weights.keep.Goals as goal

pub returns-in-Ok : goal.returns-in-Ok
returns-in-Ok c = λ prices arena told is. weight_put prices arena c.args.self.now (record { table = c.put_weight.new.table }) c.args.graph c.args.cost c.in-Ok.ensures is told
