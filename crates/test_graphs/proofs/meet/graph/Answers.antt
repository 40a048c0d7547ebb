use Rattle.fill_arena.specs.Contents.{IsSourceSet, IsAtomSet}
use Rattle.std.proofs.Common.{[]}
use Rattle.fill_arena.proofs.Samples.{sample_graph, one_set}
use Rattle.test_graphs.proofs.Intersected.{sample_atoms}
use Rattle.test_graphs.proofs.meet.graph.Goals as goal

pub intern_atoms-requires : goal.intern_atoms-requires
intern_atoms-requires g c =
    let now = c.intern_sources.new.self in
    let whole : IsSourceSet now c.in_ok-whole.whole = (_, c.in_ok-whole.ensures.ok) in
    rw c.in_ok-atoms.ensures (sample_atoms now c.args.text c.in_ok-whole.whole c.requires whole)

pub intern_graph-requires : goal.intern_graph-requires
intern_graph-requires g c =
    let now = c.intern_atoms.new.self in
    let atoms : IsAtomSet now c.in_ok-all.all = (_, c.in_ok-all.ensures.ok) in
    rw c.in_ok-edges.ensures (sample_graph now c.in_ok-all.all [] (one_set now c.in_ok-all.all atoms))
