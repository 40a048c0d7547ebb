use Rattle.std.specs.Bool.{IsTrue}
use Rattle.fill_tree.specs.Meaning.{program_tree}
use Rattle.fill_arena.specs.declared.entry.Entry.TheVariants.{Graph}
use Rattle.fill_arena.proofs.Sets.{program_by_walk}
use Rattle.fill_arena.proofs.arena.Arena.holds.Goals as goal

pub overflow_sub-last : goal.overflow_sub-last
overflow_sub-last c =
    let nodes = c.nodes-last.ensures in
    (c.keeps_made.ensures c.args.g (Graph c.nodes-last.result nodes.0) nodes.1).some

pub walks-requires-clause-sets : goal.walks-requires-clause-sets
walks-requires-clause-sets c =
    let edges = c.edges.ensures in
    λ k x there. ((c.keeps_made.ensures c.args.g (Graph edges.0 c.edges.result.now) edges.1).each k x there).atoms.0

pub returns : goal.returns
returns c =
    let nodes = c.nodes-last.ensures in
    let edges = c.edges.ensures in
    program_by_walk c.args.self.now c.args.g c.nodes-last.result edges.0 c.edges.result.now nodes.0 (program_tree c.args.p.now) (IsTrue c.walks.result) nodes.1 edges.1
    (rw c.as_slice.ensures at c.walks.ensures)
