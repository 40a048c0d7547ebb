use Rattle.fill_arena.specs.Contents.{IsPlaceSet, IsSourceSet, IsAtomSet}
use Rattle.std.proofs.Common.{[]}
use Rattle.fill_arena.proofs.Samples.{sample_atoms, sample_graph, one_set, places_later, sources_later, atoms_later}
use Rattle.test_graphs.proofs.arena.fill.Goals as goal

pub intern_atoms-requires : goal.intern_atoms-requires
intern_atoms-requires g c =
    let now = c.intern_sources.new.self in
    let left : IsPlaceSet now c.in_ok-places.places =
    places_later c.intern_places-2.new.self now c.in_ok-places.places c.intern_sources.ensures.extends
    (places_later c.intern_places.new.self c.intern_places-2.new.self c.in_ok-places.places c.intern_places-2.ensures.extends (_, c.in_ok-places.ensures.ok)) in
    let right : IsPlaceSet now c.in_ok-ends.ends = places_later c.intern_places-2.new.self now c.in_ok-ends.ends c.intern_sources.ensures.extends (_, c.in_ok-ends.ensures.ok) in
    let whole : IsSourceSet now c.in_ok-whole.whole = (_, c.in_ok-whole.ensures.ok) in
    rw c.in_ok-atoms.ensures (sample_atoms now c.args.text.now c.in_ok-whole.whole c.in_ok-places.places c.in_ok-ends.ends c.requires whole left right)

pub intern_graph-requires : goal.intern_graph-requires
intern_graph-requires g c =
    let now = c.intern_atoms.new.self in
    let atoms : IsAtomSet now c.in_ok-all.all = (_, c.in_ok-all.ensures.ok) in
    rw c.in_ok-edges.ensures (sample_graph now c.in_ok-all.all [] (one_set now c.in_ok-all.all atoms))

pub returns : goal.returns
returns g c =
    let c2 = c.intern_places-2.new.self in
    let c3 = c.intern_sources.new.self in
    let c4 = c.intern_atoms.new.self in
    let c5 = c.intern_graph.new.self in
    let s = c.in_ok-places.places in
    let places : IsPlaceSet c5 s =
    places_later c4 c5 s c.intern_graph.ensures.extends
    (places_later c3 c4 s c.intern_atoms.ensures.extends
    (places_later c2 c3 s c.intern_sources.ensures.extends
    (places_later c.intern_places.new.self c2 s c.intern_places-2.ensures.extends (_, c.in_ok-places.ensures.ok)))) in
    let whole : IsSourceSet c5 c.in_ok-whole.whole =
    sources_later c4 c5 c.in_ok-whole.whole c.intern_graph.ensures.extends (sources_later c3 c4 c.in_ok-whole.whole c.intern_atoms.ensures.extends (_, c.in_ok-whole.ensures.ok)) in
    let atoms : IsAtomSet c5 c.in_ok-all.all = atoms_later c4 c5 c.in_ok-all.all c.intern_graph.ensures.extends (_, c.in_ok-all.ensures.ok) in
    (places, whole, atoms, (_, _, c.in_ok-graph.ensures.ok))
