use Rattle.std.proofs.Common.{rules, sym, subst}
use Rattle.fill_meet.specs.Memory.{CommonTold, WithinTold}
use Rattle.fill_meet.proofs.memo.Memo.new.Goals as goal

pub returns : goal.returns
returns c = λ d.
    record {
      within = λ k r at. subst (WithinTold d) (sym (c.in_ok-blanks.ensures k r at)) tt;
      places = λ k r at. subst (CommonTold d) (sym (c.in_ok-blanks-2.ensures k r at)) tt;
      sources = search rules;
      atoms = search rules;
    }
