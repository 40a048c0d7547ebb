use Rattle.std.proofs.Common.{◌<◌, length, get_or, arith}
use Rattle.std.proofs.lemmas.Option.{slice_get-get_or}
use Rattle.test_graphs.proofs.arena.copy_second.Goals as goal

pub sizes_of-requires : goal.sizes_of-requires
sizes_of-requires g c =
    let live = c.copy.new.live in
    let long = c.in_ok-made.ensures.length in
    let some : 0 < length live = omega arith in
    c.in_ok-made.ensures.graphs 0 (get_or live 0 c.index-live-0.result) (slice_get-get_or live 0 c.index-live-0.result some)
