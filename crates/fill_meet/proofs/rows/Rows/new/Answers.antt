use Rattle.std.proofs.Common.{sym, subst}
use Rattle.fill_meet.specs.Rows.{IsRowTold}
use Rattle.fill_meet.proofs.rows.Rows.new.Goals as goal

pub returns : goal.returns
returns c = λ e. record { search = c.in_ok-new.ensures e; slots = λ k r at. subst (IsRowTold e c.args.index.now.labels.sets.items _) (sym (c.in_ok-no_rows.ensures k r at)) tt }
