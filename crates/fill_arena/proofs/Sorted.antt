-- The graph of edges in a topological order stands for the same programs.
use Rattle.std.proofs.Common.{◌≡◌, ◌↔◌, ℕ, ◌+◌, ◌-◌, ◌<◌, ◌^◌, List, [], ◌∷◌, Some, slice_get, sym, subst, ◌∙◌, arith, IsPermutation}
use Rattle.std.proofs.lemmas.List.Sorted.{IsPermutation-sym}
use Rattle.fill_tokens.specs.Prices.{ArePrices}
use Rattle.fill_tokens.specs.declared.prices.Prices.{Prices}
use Rattle.fill_tree.specs.Cost.{program_cost}
use Rattle.fill_tree.specs.Tree.{Atoms}
use Rattle.fill_arena.specs.Contents.{In, HasNodes, HasSortedEdges}
use Rattle.fill_arena.specs.Order.{IsOrderOf}
use Rattle.fill_arena.specs.Stands.{ProgramStands, Walks}
use Rattle.fill_arena.specs.WellMade.{IsFirstEdge, IsGraphOf, IsSortedGraph, IsWellMade, Path}
use Rattle.fill_arena.specs.declared.entry.Edge.{Edge}
use Rattle.fill_arena.specs.declared.entry.Entry.{Entry}
use Rattle.fill_arena.specs.declared.entry.Entry.TheVariants.{Graph}
use Rattle.fill_arena.proofs.Costs.{rest_present}
use Rattle.fill_arena.proofs.Edges.{the_graph, walk_kept}
use Rattle.fill_arena.proofs.Filled.{path_walks}
use Rattle.fill_arena.proofs.Sorting.{moved}

path_kept : (xs ys : List Edge) → ((f : Edge) → In f xs → In f ys) → (path : List Edge) (from to : ℕ) → Path xs from path to → Path ys from path to
path_kept xs ys among [] from to h = h
path_kept xs ys among (e ∷ rest) from to h = (among e h.0, h.1, path_kept xs ys among rest e.to to h.2)

pub is_sorted_graph : (c : List Entry) (n nodes : ℕ) (edges sorted : List Edge) → IsGraphOf c n nodes edges → IsOrderOf edges sorted → IsSortedGraph c n nodes sorted
is_sorted_graph c n nodes edges sorted all order =
    let to : (f : Edge) → In f edges → In f sorted = λ f h. moved sorted edges (IsPermutation-sym edges sorted order.same) h.0 f h.1 in
    let back : (f : Edge) → In f sorted → In f edges = λ f h. moved edges sorted order.same h.0 f h.1 in
    record {
      graph = record {
        some = all.some;
        each = λ k e at. let there = back e (k, at) in all.each there.0 e there.1;
        from_first = λ m lt. let p = all.from_first m lt in (p.0, path_kept edges sorted to p.0 0 m p.1);
        to_last = λ m lt. let p = all.to_last m lt in (p.0, path_kept edges sorted to p.0 m (nodes - 1) p.1);
        short = λ a b path h. all.short a b path (path_kept sorted edges back path a b h);
      };
      topological = order.topological;
    }

-- each edge is the first of those from it on
pub first_edge : (c : List Entry) (n nodes : ℕ) (edges : List Edge) (j : ℕ) (e : Edge) (rest : List Edge) → IsSortedGraph c n nodes edges → slice_get edges j ≡ Some e →
    ((k : ℕ) → slice_get rest k ≡ slice_get edges (j + 1 + k)) → IsFirstEdge e rest
first_edge c n nodes edges j e rest all at later = record {
  onward = (all.graph.each j e at).onward;
  never_back = λ f there same.
      let lt = all.topological (j + 1 + there.0) j f e (sym (later there.0) ∙ there.1) at same in
      absurd (omega arith);
}

module _ (c : List Entry) (g nodes : ℕ) (sorted : List Edge) (numbers : HasNodes c g nodes) (order : HasSortedEdges c g sorted) where
  the_edges : slice_get c g ≡ Some (Graph nodes order.0)
  the_edges = the_graph c g nodes order.0 numbers order.1

  pub stands_sorted : (p : Atoms) → ProgramStands c g p ↔ Walks p c sorted (nodes - 1) 0
  stands_sorted p = (
    λ h.
        let same : Graph nodes order.0 ≡ Graph h.0 h.1 = (let a = the_edges in let b = h.2 in cc) in
        let walk : Walks p c order.0 (nodes - 1) 0 = (let n : nodes ≡ h.0 = cc in let e : order.0 ≡ h.1 = cc in
        subst (λ m. Walks p c order.0 (m - 1) 0) (sym n) (subst (λ es. Walks p c es (h.0 - 1) 0) (sym e) h.3)) in
        walk_kept c order.0 sorted (λ k f at. moved sorted order.0 (IsPermutation-sym order.0 sorted order.2.same) k f at) p (nodes - 1) 0 walk,
    λ walk. (nodes, order.0, the_edges, walk_kept c sorted order.0 (λ k f at. moved order.0 sorted order.2.same k f at) p (nodes - 1) 0 walk),
  )

  module _ (made : IsWellMade c) where
    pub sorted_graph : IsSortedGraph c g nodes sorted
    sorted_graph = is_sorted_graph c g nodes order.0 sorted (made g (Graph nodes order.0) the_edges) order.2

    pub sorted_filled : (p : Atoms) × Walks p c sorted (nodes - 1) 0
    sorted_filled =
        let all = sorted_graph.graph in
        let path = all.to_last 0 all.some in
        path_walks c made sorted (λ f there. (all.each there.0 f there.1).atoms.0) path.0 0 (nodes - 1) path.1

    pub sorted_present : (prices : Prices) → ArePrices prices → (last at : ℕ) (p : Atoms) → Walks p c sorted last at → program_cost prices p < 2 ^ 64
    sorted_present prices small last at p walk =
        rest_present prices small c made g nodes order.0 last at p the_edges (walk_kept c sorted order.0 (λ k f here. moved order.0 sorted order.2.same k f here) p last at walk)
