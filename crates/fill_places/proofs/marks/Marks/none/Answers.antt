use Rattle.std.proofs.Common.{◌-◌, ◌/◌, ◌∷◌, suc}
use Rattle.fill_places.proofs.BitLaws.{none_set, equal_more}
use Rattle.fill_places.proofs.marks.Marks.none.Goals as goal

pub returns : goal.returns
returns c =
    none_set (0 ∷ c.in_ok-more.more.items) (suc ((c.args.size - 1) / 64)) c.args.size (equal_more 0 ((c.args.size - 1) / 64) c.in_ok-more.more.items c.in_ok-more.ensures)
