use Rattle.fill_meet.proofs.Memories.{right_put}
use Rattle.fill_space.specs.Met.{IsTold}
use Rattle.fill_space.proofs.met.Met.keep.Goals as goal

pub returns-in-Ok : goal.returns-in-Ok
returns-in-Ok c = λ arena told made. right_put (IsTold arena) c.args.self.now.table c.put_met.new.table c.args.a c.args.b c.args.made.now c.in-Ok.ensures made told
