use Rattle.std.proofs.Common.{sym, subst}
use Rattle.fill_arena.specs.Contents.{EachIn}
use Rattle.fill_meet.specs.Mates.{IsMated}
use Rattle.fill_meet.proofs.Lists.{in_empty}
use Rattle.fill_meet.proofs.rows.Search.new.Goals as goal

pub returns : goal.returns
returns c = λ d.
    record {
      mates = subst (EachIn (IsMated d c.args.index.now.places.sets.items c.in_ok-mates.mates.lists.numbers.items)) (sym c.in_ok-mates.ensures) (λ k m at. absurd (in_empty m (k, at)));
      verdicts = c.in_ok-verdicts.ensures d;
    }
