use Rattle.std.proofs.Common.{refl}
use Rattle.fill_arena.proofs.renumber.renumber_option.Goals as goal

pub new_number-requires : goal.new_number-requires
new_number-requires c =
    let have = rw c.in-Some.is at c.requires in
    rw c.index.ensures (have 0 c.in-Some.atoms refl)
