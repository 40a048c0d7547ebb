use Rattle.fill_guard.specs.Least.{NonePartner}
use Rattle.fill_guard.proofs.least.partner.Given as goal

abbrev pub invariant-loop-j : goal.invariant-loop-j
invariant-loop-j l = NonePartner l.candidates l.i l.j
