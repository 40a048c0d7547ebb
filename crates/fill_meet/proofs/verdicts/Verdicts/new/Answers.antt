use Rattle.std.proofs.Common.{rules, sym, subst}
use Rattle.fill_meet.specs.Verdicts.{IsVerdict}
use Rattle.fill_meet.proofs.verdicts.Verdicts.new.Goals as goal

pub returns : goal.returns
returns c = λ d. record { places = λ k r at. subst (IsVerdict d) (sym (c.in_ok-blanks.ensures k r at)) tt; sources = search rules }
