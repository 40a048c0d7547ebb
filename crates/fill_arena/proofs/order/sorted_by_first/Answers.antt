use Rattle.std.proofs.Common.{sym, subst, rules}
use Rattle.std.proofs.lemmas.List.Sorted.{IsNonDecreasingBy-from_sort_by_key}
use Rattle.fill_arena.proofs.Sorting.{moved, rising_topological}
use Rattle.fill_arena.specs.Order.{IsOrderOf}
use Rattle.fill_arena.specs.declared.entry.Edge.{Edge}
use Rattle.std.proofs.Common.{IsPermutation}
use Rattle.fill_arena.proofs.order.sorted_by_first.Goals as goal

pub returns : goal.returns
returns c =
    let edges = c.args.edges.now in
    let sorted = c.sort_unstable_by_key.new.self.items in
    let same = subst (λ xs. IsPermutation xs sorted) c.in_ok-sorted.ensures.items c.sort_unstable_by_key.ensures.permutation in
    let rising = IsNonDecreasingBy-from_sort_by_key (λ (e : Edge). e.from) sorted c.sort_unstable_by_key.ensures.sorted (λ a r q k. search rules) in
    subst (IsOrderOf edges) (sym c.from_vec.ensures) (record {
      same = same;
      topological = rising_topological c.requires.0 sorted (λ k e at. let there = moved edges sorted same k e at in c.requires.1 there.0 e there.1) rising;
    })
