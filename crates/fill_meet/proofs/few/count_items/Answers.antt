use Rattle.std.proofs.Common.{get_or}
use Rattle.std.proofs.lemmas.Option.{slice_get-get_or}
use Rattle.fill_meet.proofs.few.count_items.Goals as goal

pub atoms-requires : goal.atoms-requires
atoms-requires c =
    let edges = c.args.edges.now in
    c.requires c.loop-i.i (get_or edges c.loop-i.i c.index-edges-i.result) (slice_get-get_or edges c.loop-i.i c.index-edges-i.result c.loop-i-test.true)
