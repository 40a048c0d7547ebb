use Rattle.fill_meet.specs.Sets.{SourceSetsMeet}
use Rattle.fill_meet.proofs.Memories.{right_put}
use Rattle.fill_meet.proofs.memo.Memo.keep_sources.Goals as goal

pub returns-in-Ok : goal.returns-in-Ok
returns-in-Ok c = λ arena right made. record { within = right.within; places = right.places; sources = right_put (SourceSetsMeet arena) c.args.self.now.sources c.put_sources.new.table c.args.s c.args.t c.args.made.now c.in-Ok.ensures made right.sources; atoms = right.atoms }
