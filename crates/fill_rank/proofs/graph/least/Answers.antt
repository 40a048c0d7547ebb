use Rattle.std.proofs.Common.{◌≡◌, ◌+◌, Some, slice_get, ◌-◌, [], ◌∷◌, suc, drop, length, refl, ap, sym, subst, ◌∙◌, arith}
use Rattle.fill_tree.specs.Cost.{program_cost}
use Rattle.fill_arena.specs.Stands.{Walks}
use Rattle.fill_arena.proofs.Scan.{here}
use Rattle.fill_rank.specs.Sets.{AreBestRests, IsBestChain}
use Rattle.fill_arena.proofs.Items.{drop_whole, drop_here, dropped_later, get_dropped}
use Rattle.fill_rank.proofs.Walk.{least_stands}
use Rattle.fill_arena.proofs.Edges.{walks_cheap}
use Rattle.fill_arena.proofs.Sorted.{first_edge, sorted_filled, sorted_graph, sorted_present, stands_sorted}
use Rattle.fill_rank.proofs.graph.least.Goals as goal

pub no_edges-requires : goal.no_edges-requires
no_edges-requires c =
    let edges = c.sorted_edges-edges.result.now in
    (sorted_graph c.args.arena.now c.args.g c.nodes.result edges c.nodes.ensures c.sorted_edges-edges.ensures c.keeps_made.ensures).graph.some

pub loop-left-init : goal.loop-left-init
loop-left-init c =
    let arena = c.args.arena.now in
    let rests = c.in_ok-rests.rests.items in
    record {
      within = omega arith;
      memo = c.in_ok-memo.ensures c.args.prices.now arena;
      nodes = refl;
      best = subst (λ xs. AreBestRests c.args.prices.now arena xs (length rests - 1) rests) (sym (drop_whole c.sorted_edges-edges.result.now))
          (subst (λ n. AreBestRests c.args.prices.now arena [] (n - 1) rests) (sym c.in_ok-rests.ensures.length) (c.in_ok-rests.ensures.best c.args.prices.now arena));
    }

pub take_edge-requires-clause-set : goal.take_edge-requires-clause-set
take_edge-requires-clause-set c =
    let edges = c.sorted_edges-edges.result.now in
    let made = sorted_graph c.args.arena.now c.args.g c.nodes.result edges c.nodes.ensures c.sorted_edges-edges.ensures c.keeps_made.ensures in
    let n = c.loop-left.left - 1 in
    let within = c.loop-left.invariant.within in
    let e = c.index-edges-left.result in
    (made.graph.each n e (here edges n e (omega (arith, c.loop-left-test.true)) c.index-edges-left.is)).atoms.0

pub take_edge-requires-clause-from : goal.take_edge-requires-clause-from
take_edge-requires-clause-from c =
    let edges = c.sorted_edges-edges.result.now in
    let made = sorted_graph c.args.arena.now c.args.g c.nodes.result edges c.nodes.ensures c.sorted_edges-edges.ensures c.keeps_made.ensures in
    let n = c.loop-left.left - 1 in
    let within = c.loop-left.invariant.within in
    let e = c.index-edges-left.result in
    let edge = made.graph.each n e (here edges n e (omega (arith, c.loop-left-test.true)) c.index-edges-left.is) in
    omega (arith, edge.onward, edge.within, c.loop-left.invariant.nodes, c.in_ok-rests.ensures.length)

pub take_edge-requires-clause-to : goal.take_edge-requires-clause-to
take_edge-requires-clause-to c =
    let edges = c.sorted_edges-edges.result.now in
    let made = sorted_graph c.args.arena.now c.args.g c.nodes.result edges c.nodes.ensures c.sorted_edges-edges.ensures c.keeps_made.ensures in
    let n = c.loop-left.left - 1 in
    let within = c.loop-left.invariant.within in
    let e = c.index-edges-left.result in
    let edge = made.graph.each n e (here edges n e (omega (arith, c.loop-left-test.true)) c.index-edges-left.is) in
    omega (arith, edge.within, c.loop-left.invariant.nodes, c.in_ok-rests.ensures.length)

pub loop-left-preserved : goal.loop-left-preserved
loop-left-preserved c =
    let arena = c.args.arena.now in
    let edges = c.sorted_edges-edges.result.now in
    let made = sorted_graph arena c.args.g c.nodes.result edges c.nodes.ensures c.sorted_edges-edges.ensures c.keeps_made.ensures in
    let left = c.loop-left.left in
    let n = left - 1 in
    let within = c.loop-left.invariant.within in
    let more = c.loop-left-test.true in
    let e = c.index-edges-left.result in
    let at = here edges n e (omega arith) c.index-edges-left.is in
    let next : suc n ≡ left = omega arith in
    let cut : drop n edges ≡ e ∷ drop left edges = drop_here edges n e at ∙ ap (λ m. e ∷ drop m edges) next in
    let first = first_edge arena c.args.g c.nodes.result edges n e (drop left edges) made at (dropped_later edges n left next) in
    let last = length c.in_ok-rests.rests.items - 1 in
    record {
      within = omega arith;
      memo = c.in_ok-take_edge.ensures.memo;
      nodes = c.take_edge.ensures.length ∙ c.loop-left.invariant.nodes;
      best = subst (λ xs. AreBestRests c.args.prices.now arena xs last c.take_edge.new.rests.items) (sym cut) (c.in_ok-take_edge.ensures.best last (drop left edges) first c.loop-left.invariant.best);
    }

pub index_mut-requires : goal.index_mut-requires
index_mut-requires c =
    let edges = c.sorted_edges-edges.result.now in
    let made = sorted_graph c.args.arena.now c.args.g c.nodes.result edges c.nodes.ensures c.sorted_edges-edges.ensures c.keeps_made.ensures in
    omega (arith, made.graph.some, c.loop-left.invariant.nodes, c.in_ok-rests.ensures.length, c.loop-left.rests.ok.0)

pub unreachable-requires : goal.unreachable-requires
unreachable-requires c =
    let arena = c.args.arena.now in
    let edges = c.sorted_edges-edges.result.now in
    let nodes = c.nodes.result in
    let made = sorted_graph arena c.args.g nodes edges c.nodes.ensures c.sorted_edges-edges.ensures c.keeps_made.ensures in
    let rests = c.loop-left.rests.items in
    let first = c.index_mut.result.now in
    let there = here rests 0 first (omega (arith, made.graph.some, c.loop-left.invariant.nodes, c.in_ok-rests.ensures.length)) c.index_mut.ensures.value in
    let none : c.loop-left.left ≡ 0 = omega (arith, c.loop-left-test.false) in
    let best = c.loop-left.invariant.best.each 0 first there in
    let all = subst (λ n. IsBestChain (program_cost c.args.prices.now) (λ p. Walks p arena (drop n edges) (length c.in_ok-rests.rests.items - 1) 0) first) none best in
    let whole = subst (λ n. IsBestChain (program_cost c.args.prices.now) (λ p. Walks p arena edges (n - 1) 0) first) c.in_ok-rests.ensures.length all in
    let empty = subst (IsBestChain (program_cost c.args.prices.now) (λ p. Walks p arena edges (nodes - 1) 0)) (sym c.take.ensures.value ∙ c.in_default.is) whole in
    let some = sorted_filled arena c.args.g nodes edges c.nodes.ensures c.sorted_edges-edges.ensures c.keeps_made.ensures in
    empty some.0 some.1

pub returns : goal.returns
returns c =
    let arena = c.args.arena.now in
    let edges = c.sorted_edges-edges.result.now in
    let nodes = c.nodes.result in
    let made = sorted_graph arena c.args.g nodes edges c.nodes.ensures c.sorted_edges-edges.ensures c.keeps_made.ensures in
    let rests = c.loop-left.rests.items in
    let first = c.index_mut.result.now in
    let there = here rests 0 first (omega (arith, made.graph.some, c.loop-left.invariant.nodes, c.in_ok-rests.ensures.length)) c.index_mut.ensures.value in
    let none : c.loop-left.left ≡ 0 = omega (arith, c.loop-left-test.false) in
    let best = c.loop-left.invariant.best.each 0 first there in
    let all = subst (λ n. IsBestChain (program_cost c.args.prices.now) (λ p. Walks p arena (drop n edges) (length c.in_ok-rests.rests.items - 1) 0) first) none best in
    let whole = subst (λ n. IsBestChain (program_cost c.args.prices.now) (λ p. Walks p arena edges (n - 1) 0) first) c.in_ok-rests.ensures.length all in
    let some = subst (IsBestChain (program_cost c.args.prices.now) (λ p. Walks p arena edges (nodes - 1) 0)) (sym c.take.ensures.value ∙ c.in-Some.is) whole in
    least_stands c.args.prices.now arena c.args.g nodes edges c.in-Some.first (stands_sorted arena c.args.g nodes edges c.nodes.ensures c.sorted_edges-edges.ensures) some

pub take_edge-requires-clause-cheap : goal.take_edge-requires-clause-cheap
take_edge-requires-clause-cheap c =
    let arena = c.args.arena.now in
    let edges = c.sorted_edges-edges.result.now in
    let nodes = c.nodes.result in
    let left = c.loop-left.left in
    let n = left - 1 in
    let within = c.loop-left.invariant.within in
    let more = c.loop-left-test.true in
    let e = c.index-edges-left.result in
    let at = here edges n e (omega arith) c.index-edges-left.is in
    let next : suc n ≡ left = omega arith in
    let cut : drop n edges ≡ e ∷ drop left edges = drop_here edges n e at ∙ ap (λ m. e ∷ drop m edges) next in
    let last = length c.in_ok-rests.rests.items - 1 in (
      drop left edges,
      last,
      c.loop-left.invariant.best,
      walks_cheap c.args.prices.now arena (e ∷ drop left edges) edges last
          (λ k f h. (n + k, sym (get_dropped edges n k) ∙ subst (λ l. slice_get l k ≡ Some f) (sym cut) h))
          (λ p from walk. sorted_present arena c.args.g nodes edges c.nodes.ensures c.sorted_edges-edges.ensures c.keeps_made.ensures c.args.prices.now c.keep_small.ensures last from p walk),
    )
