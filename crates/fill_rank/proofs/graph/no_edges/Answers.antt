use Rattle.std.proofs.Common.{◌≡◌, ◌-◌, [], length, ap, sym, subst, arith, length-append}
use Rattle.fill_rank.specs.Sets.{AreBestRests}
use Rattle.fill_rank.proofs.Walk.{rests_start}
use Rattle.fill_rank.proofs.graph.no_edges.Goals as goal

pub returns-clause-length : goal.returns-clause-length
returns-clause-length c =
    let counted = c.loop-node.invariant.counted in
    let e = c.in_ok-push-2.ensures.items in
    omega (arith, simp length-append at (ap length e), c.loop-node.auto._node-end, c.requires)

pub returns-clause-best : goal.returns-clause-best
returns-clause-best c prices cs =
    let xs = c.loop-node.rests.items in
    let counted = c.loop-node.invariant.counted in
    let n : length xs ≡ c.args.nodes - 1 = omega (arith, c.loop-node.auto._node-end, c.requires) in
    let start = rests_start prices cs xs c.empty.result c.loop-node.invariant.none c.empty.ensures.cost c.empty.ensures.atoms in
    subst (λ m. AreBestRests prices cs [] m c.push-2.new.self.items) n (subst (AreBestRests prices cs [] (length xs)) (sym c.in_ok-push-2.ensures.items) start)
