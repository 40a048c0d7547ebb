use Rattle.std.proofs.Common.{[], ◌∷◌}
use Rattle.fill_arena.specs.Contents.{IsPlaceSet, IsSourceSet, IsAtomSet}
use Rattle.fill_arena.proofs.Items.{ok_on}
use Rattle.fill_arena.proofs.Samples.{sample_graph, two_sets, places_later, atoms_later}
use Rattle.test_graphs.proofs.Ranked.{sample_constant, sample_parts}
use Rattle.test_graphs.proofs.rank.fill.Goals as goal

pub intern_atoms-requires : goal.intern_atoms-requires
intern_atoms-requires g c = rw c.in_ok-constant.ensures (sample_constant c.args.arena.now c.args.text c.requires)

pub intern_atoms-requires-2 : goal.intern_atoms-requires-2
intern_atoms-requires-2 g c =
    let c3 = c.intern_places-2.new.self in
    let now = c.intern_sources.new.self in
    let left : IsPlaceSet now c.in_ok-starts.starts =
    places_later c3 now c.in_ok-starts.starts c.intern_sources.ensures.extends
    (places_later c.intern_places.new.self c3 c.in_ok-starts.starts c.intern_places-2.ensures.extends (_, c.in_ok-starts.ensures.ok)) in
    let right : IsPlaceSet now c.in_ok-ends.ends = places_later c3 now c.in_ok-ends.ends c.intern_sources.ensures.extends (_, c.in_ok-ends.ensures.ok) in
    let whole : IsSourceSet now c.in_ok-whole.whole = (_, c.in_ok-whole.ensures.ok) in
    rw c.in_ok-parts.ensures (sample_parts now c.in_ok-whole.whole c.in_ok-starts.starts c.in_ok-ends.ends whole left right)

pub intern_graph-requires : goal.intern_graph-requires
intern_graph-requires g c =
    let c2 = c.intern_places.new.self in
    let c3 = c.intern_places-2.new.self in
    let c4 = c.intern_sources.new.self in
    let now = c.intern_atoms-2.new.self in
    let s = c.in_ok-first.first in
    let first : IsAtomSet now s =
    atoms_later c4 now s c.intern_atoms-2.ensures.extends
    (atoms_later c3 c4 s c.intern_sources.ensures.extends
    (atoms_later c2 c3 s c.intern_places-2.ensures.extends
    (atoms_later c.intern_atoms.new.self c2 s c.intern_places.ensures.extends (_, c.in_ok-first.ensures.ok)))) in
    let second : IsAtomSet now c.in_ok-second.second = (_, c.in_ok-second.ensures.ok) in
    rw c.in_ok-edges.ensures (sample_graph now s (c.in_ok-second.second ∷ []) (two_sets now s c.in_ok-second.second first second))

pub returns : goal.returns
returns g c = ok_on _ _ c.intern_graph.result c.intern_graph.ensures.ok (λ graph h. (_, _, h))
