use Rattle.fill_arena.proofs.Scan.{here}
use Rattle.test_graphs.proofs.Trimmed.{sorted_start, sorted_more, sorted_end}
use Rattle.test_graphs.proofs.trim.are_edges.Goals as goal

pub loop-i-init : goal.loop-i-init
loop-i-init c = sorted_start c.args.nodes c.args.edges.now

pub loop-i-preserved : goal.loop-i-preserved
loop-i-preserved c =
    let edge = c.index-edges-i.result in
    let at = here c.args.edges.now c.loop-i.i edge c.loop-i-test.true c.index-edges-i.is in
    sorted_more c.args.nodes c.args.edges.now c.loop-i.i c.loop-i.least edge at c.loop-i.invariant c.if-edge-least.false c.if-edge.false c.if-nodes-edge.false

pub returns : goal.returns
returns c = λ _. sorted_end c.args.nodes c.args.edges.now c.loop-i.i c.loop-i.least c.loop-i-test.false c.loop-i.invariant
