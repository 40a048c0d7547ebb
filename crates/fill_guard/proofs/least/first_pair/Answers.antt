use Rattle.std.proofs.Common.{◌<◌, length}
use Rattle.std.proofs.lemmas.Option.{MatchOption-at_none}
use Rattle.fill_guard.specs.Least.{NonePartner, IsPartner}
use Rattle.fill_guard.proofs.LeastLaws.{pair_more}
use Rattle.fill_guard.proofs.least.first_pair.Goals as goal

pub loop-i-preserved : goal.loop-i-preserved
loop-i-preserved c = pair_more c.args.candidates.now c.loop-i.i c.loop-i.invariant
    (MatchOption-at_none (NonePartner c.args.candidates.now c.loop-i.i (length c.args.candidates.now)) (λ j. (j < length c.args.candidates.now) × IsPartner c.args.candidates.now c.loop-i.i j) c.in_default.is c.partner.ensures)
