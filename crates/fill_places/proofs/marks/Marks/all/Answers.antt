use Rattle.std.proofs.Common.{◌-◌, ◌/◌, ◌^◌, ◌∷◌, suc, arith}
use Rattle.fill_places.proofs.BitLaws.{all_set, equal_more}
use Rattle.fill_places.proofs.marks.Marks.all.Goals as goal

pub returns : goal.returns
returns c =
    all_set ((2 ^ 64 - 1) ∷ c.in_ok-more.more.items) (suc ((c.args.size - 1) / 64)) c.args.size (equal_more (2 ^ 64 - 1) ((c.args.size - 1) / 64) c.in_ok-more.more.items c.in_ok-more.ensures) (omega arith)
