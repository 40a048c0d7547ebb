use Rattle.fill_meet.specs.Sets.{AtomSetsMeet}
use Rattle.fill_meet.proofs.Memories.{right_put}
use Rattle.fill_meet.proofs.memo.Memo.keep_atoms.Goals as goal

pub returns-in-Ok : goal.returns-in-Ok
returns-in-Ok c = λ arena right made. record { within = right.within; places = right.places; sources = right.sources; atoms = right_put (AtomSetsMeet arena) c.args.self.now.atoms c.put_atoms.new.table c.args.s c.args.t c.args.made.now c.in-Ok.ensures made right.atoms }
