use Rattle.std.proofs.Common.{get_or, Some, ap, ◌∙◌, arith}
use Rattle.fill_arena.proofs.Scan.{here}
use Rattle.fill_object.proofs.CostLaws.{costs_more, costs_done}
use Rattle.fill_object.proofs.costs.edge_costs.Goals as goal

pub loop-i-preserved : goal.loop-i-preserved
loop-i-preserved c =
    let edges = c.args.edges.now in
    let i = c.loop-i.i in
    let x = c.index-edges-i.result in
    let e = get_or edges i x in
    let at = here edges i x c.loop-i-test.true c.index-edges-i.is ∙ ap Some c.index-edges-i.is in
    let own = c.from.ensures in
    let sum = c.sum_of.ensures in
    record {
      found = c.in_ok-atom.ensures.memo;
      first = costs_more c.args.prices.now c.args.arena.now edges c.loop-i.costs.items c.push.new.self.items i c.sum_of.result e at c.in_ok-push.ensures.items c.loop-i.invariant.first
          (λ a stands. let le = c.in_ok-atom.ensures.least a stands in omega arith);
    }

pub returns : goal.returns
returns c = costs_done c.args.prices.now c.args.arena.now c.args.edges.now c.loop-i.costs.items c.loop-i.i c.loop-i-test.false c.loop-i.invariant.first
