use Rattle.std.proofs.Common.{sym, arith}
use Rattle.fill_tree.specs.Meaning.{program_tree}
use Rattle.fill_arena.proofs.Costs.{program_present}
use Rattle.fill_space.proofs.weights.weigh_once.Goals as goal

pub returns-in-Some-clause-weight : goal.returns-in-Some-clause-weight
returns-in-Some-clause-weight c = c.requires.weighed.each c.args.graph c.in-Some.cost c.in-Some.ensures

pub unreachable-requires : goal.unreachable-requires
unreachable-requires c =
    let cheap = program_present c.args.prices.now c.keep_small.ensures c.args.arena.now c.keeps_made.ensures c.args.graph (program_tree c.in_ok-program.program) c.in_ok-program.ensures.has in
    omega (arith, cheap, c.in_default-cost.ensures.none)

pub returns-clause-weighed : goal.returns-clause-weighed
returns-clause-weighed c =
    c.keep.ensures c.args.prices.now c.args.arena.now c.requires.weighed
    (record { graph = c.requires.graph; program = program_tree c.in_ok-program.program; least = c.in_ok-program.ensures; costs = sym c.in-Some-cost.ensures.some })

pub returns-clause-weight : goal.returns-clause-weight
returns-clause-weight c =
    record { graph = c.requires.graph; program = program_tree c.in_ok-program.program; least = c.in_ok-program.ensures; costs = sym c.in-Some-cost.ensures.some }
