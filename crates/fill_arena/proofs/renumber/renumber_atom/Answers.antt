use Rattle.std.proofs.Common.{refl}
use Rattle.fill_arena.proofs.renumber.renumber_atom.Goals as goal

pub new_number-requires : goal.new_number-requires
new_number-requires c =
    let have = rw c.in-Whole.is at c.requires in
    rw c.index.ensures (have 0 c.in-Whole.sources refl)

pub new_number-requires-in-Sub : goal.new_number-requires-in-Sub
new_number-requires-in-Sub c =
    let have = rw c.in-Sub.is at c.requires in
    rw c.index-in-Sub.ensures (have 0 c.in-Sub.sources refl)

pub new_number-requires-in-Sub-2 : goal.new_number-requires-in-Sub-2
new_number-requires-in-Sub-2 c =
    let have = rw c.in-Sub.is at c.requires in
    rw c.index-in-Sub-2.ensures (have 1 c.in-Sub.lefts refl)

pub new_number-requires-in-Sub-3 : goal.new_number-requires-in-Sub-3
new_number-requires-in-Sub-3 c =
    let have = rw c.in-Sub.is at c.requires in
    rw c.index-in-Sub-3.ensures (have 2 c.in-Sub.rights refl)
