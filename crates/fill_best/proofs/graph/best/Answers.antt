use Rattle.std.proofs.Common.{◌≡◌, ◌+◌, Some, slice_get, ◌-◌, [], ◌∷◌, suc, drop, length, Vec, Global, refl, ap, sym, subst, ◌∙◌, arith}
use Rattle.fill_tree.specs.Cost.{program_cost}
use Rattle.fill_tree.specs.Order.{atoms_cmp, program_cmp}
use Rattle.fill_tree.specs.Tree.{Atoms}
use Rattle.fill_arena.specs.Stands.{ProgramStands, Walks}
use Rattle.fill_arena.proofs.Scan.{here}
use Rattle.fill_best.specs.Cheapest.{AreCheapest}
use Rattle.fill_best.specs.First.{AreFirst}
use Rattle.fill_best.specs.Rests.{AreFirstRests}
use Rattle.fill_best.specs.declared.costed.Costed.{Costed}
use Rattle.fill_arena.proofs.Items.{drop_whole, drop_here, dropped_later, get_dropped, ok_on}
use Rattle.fill_arena.proofs.Edges.{walks_cheap}
use Rattle.fill_arena.proofs.Sorted.{first_edge, sorted_graph, sorted_present, stands_sorted}
use Rattle.fill_best.proofs.Walking.{first_stand}
use Rattle.fill_best.proofs.graph.best.Goals as goal

pub no_edges-requires : goal.no_edges-requires
no_edges-requires c =
    let edges = c.sorted_edges-edges.result.now in
    (sorted_graph c.args.arena.now c.args.g c.nodes.result edges c.nodes.ensures c.sorted_edges-edges.ensures c.keeps_made.ensures).graph.some

pub loop-to_go-init : goal.loop-to_go-init
loop-to_go-init c =
    let arena = c.args.arena.now in
    let rests = c.in_ok-rests.rests.items in
    record {
      within = omega arith;
      memo = c.new-memo.ensures c.args.prices.now arena c.args.k;
      nodes = refl;
      first = subst (λ xs. AreFirstRests c.args.prices.now arena xs (length rests - 1) c.args.k rests) (sym (drop_whole c.sorted_edges-edges.result.now))
          (subst (λ n. AreFirstRests c.args.prices.now arena [] (n - 1) c.args.k rests) (sym c.in_ok-rests.ensures.length) (c.in_ok-rests.ensures.first c.args.prices.now arena c.args.k c.requires.some));
    }

pub take_edge-requires-clause-set : goal.take_edge-requires-clause-set
take_edge-requires-clause-set c =
    let edges = c.sorted_edges-edges.result.now in
    let made = sorted_graph c.args.arena.now c.args.g c.nodes.result edges c.nodes.ensures c.sorted_edges-edges.ensures c.keeps_made.ensures in
    let n = c.loop-to_go.to_go - 1 in
    let within = c.loop-to_go.invariant.within in
    let e = c.index-edges-to_go.result in
    (made.graph.each n e (here edges n e (omega (arith, c.loop-to_go-test.true)) c.index-edges-to_go.is)).atoms.0

pub take_edge-requires-clause-onward : goal.take_edge-requires-clause-onward
take_edge-requires-clause-onward c =
    let edges = c.sorted_edges-edges.result.now in
    let made = sorted_graph c.args.arena.now c.args.g c.nodes.result edges c.nodes.ensures c.sorted_edges-edges.ensures c.keeps_made.ensures in
    let n = c.loop-to_go.to_go - 1 in
    let within = c.loop-to_go.invariant.within in
    let e = c.index-edges-to_go.result in
    let edge = made.graph.each n e (here edges n e (omega (arith, c.loop-to_go-test.true)) c.index-edges-to_go.is) in
    omega (arith, edge.onward, edge.within, c.loop-to_go.invariant.nodes, c.in_ok-rests.ensures.length)

pub take_edge-requires-clause-within : goal.take_edge-requires-clause-within
take_edge-requires-clause-within c =
    let edges = c.sorted_edges-edges.result.now in
    let made = sorted_graph c.args.arena.now c.args.g c.nodes.result edges c.nodes.ensures c.sorted_edges-edges.ensures c.keeps_made.ensures in
    let n = c.loop-to_go.to_go - 1 in
    let within = c.loop-to_go.invariant.within in
    let e = c.index-edges-to_go.result in
    let edge = made.graph.each n e (here edges n e (omega (arith, c.loop-to_go-test.true)) c.index-edges-to_go.is) in
    omega (arith, edge.within, c.loop-to_go.invariant.nodes, c.in_ok-rests.ensures.length)

pub loop-to_go-preserved : goal.loop-to_go-preserved
loop-to_go-preserved c =
    let arena = c.args.arena.now in
    let edges = c.sorted_edges-edges.result.now in
    let made = sorted_graph arena c.args.g c.nodes.result edges c.nodes.ensures c.sorted_edges-edges.ensures c.keeps_made.ensures in
    let to_go = c.loop-to_go.to_go in
    let n = to_go - 1 in
    let within = c.loop-to_go.invariant.within in
    let more = c.loop-to_go-test.true in
    let e = c.index-edges-to_go.result in
    let at = here edges n e (omega arith) c.index-edges-to_go.is in
    let next : suc n ≡ to_go = omega arith in
    let cut : drop n edges ≡ e ∷ drop to_go edges = drop_here edges n e at ∙ ap (λ m. e ∷ drop m edges) next in
    let first = first_edge arena c.args.g c.nodes.result edges n e (drop to_go edges) made at (dropped_later edges n to_go next) in
    let last = length c.in_ok-rests.rests.items - 1 in
    record {
      within = omega arith;
      memo = c.in_ok-take_edge.ensures.memo;
      nodes = c.take_edge.ensures.length ∙ c.loop-to_go.invariant.nodes;
      first = subst (λ xs. AreFirstRests c.args.prices.now arena xs last c.args.k c.take_edge.new.rests.items) (sym cut) (c.in_ok-take_edge.ensures.first (drop to_go edges) last first c.loop-to_go.invariant.first);
    }

pub index_mut-requires : goal.index_mut-requires
index_mut-requires c =
    let edges = c.sorted_edges-edges.result.now in
    let made = sorted_graph c.args.arena.now c.args.g c.nodes.result edges c.nodes.ensures c.sorted_edges-edges.ensures c.keeps_made.ensures in
    omega (arith, made.graph.some, c.loop-to_go.invariant.nodes, c.in_ok-rests.ensures.length, c.loop-to_go.rests.ok.0)

pub returns : goal.returns
returns c =
    let arena = c.args.arena.now in
    let k = c.args.k in
    let edges = c.sorted_edges-edges.result.now in
    let nodes = c.nodes.result in
    let made = sorted_graph arena c.args.g nodes edges c.nodes.ensures c.sorted_edges-edges.ensures c.keeps_made.ensures in
    let rests = c.loop-to_go.rests.items in
    let first = c.index_mut.result.now in
    let there = here rests 0 first (omega (arith, made.graph.some, c.loop-to_go.invariant.nodes, c.in_ok-rests.ensures.length)) c.index_mut.ensures.value in
    let none : c.loop-to_go.to_go ≡ 0 = omega (arith, c.loop-to_go-test.false) in
    let best = c.loop-to_go.invariant.first.each 0 first there in
    let all = subst (λ n. AreCheapest (program_cost c.args.prices.now) atoms_cmp (λ p. Walks p arena (drop n edges) (length c.in_ok-rests.rests.items - 1) 0) k first.items) none best in
    let whole = subst (λ n. AreCheapest (program_cost c.args.prices.now) atoms_cmp (λ p. Walks p arena edges (n - 1) 0) k first.items) c.in_ok-rests.ensures.length all in
    let taken = subst (λ (v : Vec (Costed Atoms) Global). AreCheapest (program_cost c.args.prices.now) atoms_cmp (λ p. Walks p arena edges (nodes - 1) 0) k v.items) (sym c.replace.ensures.value) whole in
    let stand = first_stand c.args.prices.now arena c.args.g nodes k edges c.replace.result.items (stands_sorted arena c.args.g nodes edges c.nodes.ensures c.sorted_edges-edges.ensures) taken in
    ok_on _ _ c.programs_of.result c.programs_of.ensures (λ programs same. subst (AreFirst (program_cmp c.args.prices.now) (ProgramStands arena c.args.g) k) (sym same) stand)

pub take_edge-requires-clause-cheap : goal.take_edge-requires-clause-cheap
take_edge-requires-clause-cheap c =
    let arena = c.args.arena.now in
    let edges = c.sorted_edges-edges.result.now in
    let nodes = c.nodes.result in
    let to_go = c.loop-to_go.to_go in
    let n = to_go - 1 in
    let within = c.loop-to_go.invariant.within in
    let more = c.loop-to_go-test.true in
    let e = c.index-edges-to_go.result in
    let at = here edges n e (omega arith) c.index-edges-to_go.is in
    let next : suc n ≡ to_go = omega arith in
    let cut : drop n edges ≡ e ∷ drop to_go edges = drop_here edges n e at ∙ ap (λ m. e ∷ drop m edges) next in
    let last = length c.in_ok-rests.rests.items - 1 in (
      drop to_go edges,
      last,
      c.loop-to_go.invariant.first,
      walks_cheap c.args.prices.now arena (e ∷ drop to_go edges) edges last
          (λ k f h. (n + k, sym (get_dropped edges n k) ∙ subst (λ l. slice_get l k ≡ Some f) (sym cut) h))
          (λ p from walk. sorted_present arena c.args.g nodes edges c.nodes.ensures c.sorted_edges-edges.ensures c.keeps_made.ensures c.args.prices.now c.keep_small.ensures last from p walk),
    )
