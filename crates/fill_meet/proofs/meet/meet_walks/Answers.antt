use Rattle.std.proofs.Common.{◌≡◌, ◌*◌, ◌<◌, sym, subst}
use Rattle.fill_meet.proofs.Meets.{are_pairable, some_nodes, walked_result}
use Rattle.fill_meet.specs.Product.{IsProduct}
use Rattle.fill_meet.specs.Ties.{AreOrdered}
use Rattle.fill_meet.proofs.meet.meet_walks.Goals as goal

pub tie_graphs-requires-clause-some : goal.tie_graphs-requires-clause-some
tie_graphs-requires-clause-some c =
    some_nodes c.args.arena.now c.args.a c.args.b _ _ _ _ c.keeps_made.ensures (c.nodes-height.ensures, c.sorted_edges.ensures) (c.nodes-width.ensures, c.sorted_edges-2.ensures)

pub tie_graphs-requires-clause-edges : goal.tie_graphs-requires-clause-edges
tie_graphs-requires-clause-edges c =
    are_pairable c.args.arena.now c.args.a c.args.b _ _ _ _ c.keeps_made.ensures (c.nodes-height.ensures, c.sorted_edges.ensures) (c.nodes-width.ensures, c.sorted_edges-2.ensures)

pub pair_edges-requires-clause-some : goal.pair_edges-requires-clause-some
pair_edges-requires-clause-some c =
    let nodes : c.in-Some.nodes ≡ c.nodes-height.result * c.nodes-width.result = c.in-Some.ensures.1 in
    subst (λ n. 0 < n) (sym nodes) (some_nodes c.args.arena.now c.args.a c.args.b _ _ _ _ c.keeps_made.ensures (c.nodes-height.ensures, c.sorted_edges.ensures) (c.nodes-width.ensures, c.sorted_edges-2.ensures))

pub pair_edges-requires-clause-ordered : goal.pair_edges-requires-clause-ordered
pair_edges-requires-clause-ordered c = subst (λ n. AreOrdered n c.in_ok-tied.tied.ties) (sym c.in-Some.ensures.1) c.in_ok-tied.ensures.ordered

pub trim-requires-clause-some : goal.trim-requires-clause-some
trim-requires-clause-some c =
    let nodes : c.in-Some.nodes ≡ c.nodes-height.result * c.nodes-width.result = c.in-Some.ensures.1 in
    subst (λ n. 0 < n) (sym nodes) (some_nodes c.args.arena.now c.args.a c.args.b _ _ _ _ c.keeps_made.ensures (c.nodes-height.ensures, c.sorted_edges.ensures) (c.nodes-width.ensures, c.sorted_edges-2.ensures))

pub returns-clause-met : goal.returns-clause-met
returns-clause-met c =
    let h = c.nodes-height.result in
    let w = c.nodes-width.result in
    let xs = c.sorted_edges.result.now in
    let ys = c.sorted_edges-2.result.now in
    let product = subst (IsProduct c.pair_edges.new.arena h w xs ys) (sym c.as_slice.ensures) (c.in_ok-edges.ensures.product h w xs ys c.in-Some.ensures.1 c.in_ok-tied.ensures.ties) in
    walked_result c.args.arena.now c.args.a c.args.b h w xs ys c.keeps_made.ensures (c.nodes-height.ensures, c.sorted_edges.ensures) (c.nodes-width.ensures, c.sorted_edges-2.ensures) c.pair_edges.new.arena c.pair_edges.ensures.extends c.as_slice.result.now product c.in-Some.nodes
    c.in-Some.ensures.1 c.trim.result c.trim.ensures
