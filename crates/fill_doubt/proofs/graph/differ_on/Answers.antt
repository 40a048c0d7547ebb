use Rattle.fill_doubt.specs.Memo.{AreEdgesOn}
use Rattle.fill_arena.proofs.Sorted.{sorted_graph, stands_sorted}
use Rattle.fill_doubt.proofs.Flags.{if_ok, match_none, by_differs, by_value}
use Rattle.fill_doubt.proofs.graph.differ_on.Goals as goal

pub one_answer-requires-clause-edges : goal.one_answer-requires-clause-edges
one_answer-requires-clause-edges c = (c.args.g, sorted_graph c.args.on.now.arena.now c.args.g c.nodes-nodes.result c.sorted_edges-edges.result.now c.nodes-nodes.ensures c.sorted_edges-edges.ensures c.requires.row.made)

pub differs-requires-clause-edges : goal.differs-requires-clause-edges
differs-requires-clause-edges c = (c.args.g, sorted_graph c.args.on.now.arena.now c.args.g c.nodes-nodes.result c.sorted_edges-edges.result.now c.nodes-nodes.ensures c.sorted_edges-edges.ensures c.requires.row.made)

pub has_value-requires-clause-edges : goal.has_value-requires-clause-edges
has_value-requires-clause-edges c = (c.args.g, sorted_graph c.args.on.now.arena.now c.args.g c.nodes-nodes.result c.sorted_edges-edges.result.now c.nodes-nodes.ensures c.sorted_edges-edges.ensures c.requires.row.made)

pub returns-in-Some-clause-flag : goal.returns-in-Some-clause-flag
returns-in-Some-clause-flag c =
    let on = c.args.on.now in
    let stands = stands_sorted on.arena.now c.args.g c.nodes-nodes.result c.sorted_edges-edges.result.now c.nodes-nodes.ensures c.sorted_edges-edges.ensures in
    if_ok c.differs.result c.differs.ensures.answer (λ b h. by_differs on c.requires.row c.args.g c.nodes-nodes.result c.sorted_edges-edges.result.now stands b h)

pub returns-in-None-clause-flag : goal.returns-in-None-clause-flag
returns-in-None-clause-flag c =
    let on = c.args.on.now in
    let nodes = c.nodes-nodes.result in
    let edges = c.sorted_edges-edges.result.now in
    let stands = stands_sorted on.arena.now c.args.g nodes edges c.nodes-nodes.ensures c.sorted_edges-edges.ensures in
    let are : AreEdgesOn on nodes edges = (c.args.g, sorted_graph on.arena.now c.args.g nodes edges c.nodes-nodes.ensures c.sorted_edges-edges.ensures c.requires.row.made) in
    let lacks = match_none _ _ c.in_ok-text.field-0 c.in_ok-text.ensures.answer c.in-None.is in
    if_ok c.has_value.result c.has_value.ensures.answer (λ b h. by_value on c.requires.row c.args.g nodes edges stands are lacks b h)
