use Rattle.fill_meet.specs.Verdicts.{SourcesTried}
use Rattle.fill_meet.proofs.Memories.{right_put}
use Rattle.fill_meet.proofs.verdicts.Verdicts.keep.Goals as goal

pub returns-in-Ok : goal.returns-in-Ok
returns-in-Ok c = λ arena verdict made. record { places = verdict.places; sources = right_put (SourcesTried arena) c.args.self.now.sources c.tell_sources.new.table c.args.s c.args.t c.args.may c.in-Ok.ensures made verdict.sources }
