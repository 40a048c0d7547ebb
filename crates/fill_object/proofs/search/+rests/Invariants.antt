use Rattle.std.proofs.Common.{◌≡◌, ◌+◌, ◌*◌, ◌-◌, ◌≤◌, ◌^◌, length}
use Rattle.fill_tree.specs.Meaning.{atom_tree}
use Rattle.fill_arena.specs.Contents.{SomeBelow}
use Rattle.fill_object.specs.Chains.{IsLeastWithin}
use Rattle.fill_object.specs.Rests.{AreFound, IsThen, RestStands}
use Rattle.fill_object.specs.Wants.{RestAgrees}
use Rattle.fill_object.proofs.Others.{Past}
use Rattle.fill_object.proofs.search.+rests.Given as goal

abbrev pub decreases-least_rest : goal.decreases-least_rest
decreases-least_rest l = 5 * (l.search.now.last - l.node) + 4

abbrev pub decreases-rest_within : goal.decreases-rest_within
decreases-rest_within l = 5 * (l.search.now.last - l.node) + 3

abbrev pub decreases-along_edges : goal.decreases-along_edges
decreases-along_edges l = 5 * (l.search.now.last - l.node) + 2

abbrev pub decreases-along_edge : goal.decreases-along_edge
decreases-along_edge l = 5 * (l.search.now.last - l.node) + 1

abbrev pub decreases-with_atom : goal.decreases-with_atom
decreases-with_atom l = 5 * (l.search.now.last - l.to) + 5

abbrev pub invariant-least_rest-loop-within : goal.invariant-least_rest-loop-within
invariant-least_rest-loop-within l = AreFound l.search l.findings

abbrev pub decreases-least_rest-loop-within : goal.decreases-least_rest-loop-within
decreases-least_rest-loop-within l = 2 ^ 64 - l.within

abbrev pub invariant-along_edges-loop-left : goal.invariant-along_edges-loop-left
invariant-along_edges-loop-left l = record {
  memo : AreFound l.search l.findings;
  within : l.left ≤ length l.search.edges.now;
  least : IsLeastWithin l.search.on.prices.now l.limit (Past l.search l.node l.limit (RestAgrees l.search.on l.search.answer.now l.wanted) l.left) (RestAgrees l.search.on l.search.answer.now l.wanted) l.best;
}

abbrev pub decreases-along_edges-loop-left : goal.decreases-along_edges-loop-left
decreases-along_edges-loop-left l = l.left

abbrev pub invariant-along_edge-loop-atom : goal.invariant-along_edge-loop-atom
invariant-along_edge-loop-atom l = record {
  memo : AreFound l.search l.findings;
  least : IsLeastWithin l.search.on.prices.now l.limit (λ p. SomeBelow l.atom-index l.atom-items (λ x. IsThen (λ a. a ≡ atom_tree x.atom) (RestStands l.search l.edge.to) p)) (RestAgrees l.search.on l.search.answer.now l.wanted) l.best;
}
