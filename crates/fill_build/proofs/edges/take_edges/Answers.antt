use Rattle.std.proofs.Common.{◌+◌, ◌≤◌, List, subst, arith}
use Rattle.fill_arena.specs.declared.entry.Edge.{Edge}
use Rattle.fill_arena.proofs.Lists.{extends_same}
use Rattle.fill_build.specs.Edges.{IsSetBetween}
use Rattle.fill_build.proofs.PieceEdges.{edges_put}
use Rattle.fill_build.proofs.Twins.{node_within, set_of_twin}
use Rattle.fill_build.proofs.edges.take_edges.Goals as goal

pub loop-done-preserved : goal.loop-done-preserved
loop-done-preserved c =
    let n = c.args.node.now in
    let out = n.text.now in
    let twin = c.requires.twin in
    let width = c.loop-done.done + 1 in
    let some : 1 ≤ width = omega arith in
    let le : width ≤ n.twin.run = omega arith in
    let found = subst (λ (l : List Edge). IsSetBetween n.twin.from (n.twin.from + width) l c.set_between-atoms.result) c.as_slice.ensures c.set_between-atoms.ensures in
    record {
      taken = λ on a s.
          (let now = c.loop-done.invariant.taken on a s in
          let set = set_of_twin out n.from n.twin twin width some le on a c.loop-done.done c.loop-done.edges now c.set_between-atoms.result found in
          edges_put on out a a (extends_same a) n.from c.loop-done.done (node_within out n.from n.twin twin width some le) c.set_between-atoms.result c.loop-done.edges c.put_edge.new.edges now set
          c.in_ok-put_edge.ensures);
    }
