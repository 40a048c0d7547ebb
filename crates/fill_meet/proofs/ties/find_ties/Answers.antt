use Rattle.std.proofs.Common.{arith}
use Rattle.fill_meet.proofs.Sweeps.{swept_ordered, swept_sets, swept_start, swept_ties}
use Rattle.fill_meet.proofs.WalksOn.{both_some}
use Rattle.fill_meet.proofs.Words.{place, room_stays}
use Rattle.fill_meet.proofs.ties.find_ties.Goals as goal

pub put-requires : goal.put-requires
put-requires c =
    let g = c.args.graphs in
    let some = both_some g.height g.width c.requires.some in
    place g.height g.width c.in_ok-reached.reached c.in_ok-reached.ensures.room 0 0 some.0 some.1

pub loop-k-init : goal.loop-k-init
loop-k-init c =
    let g = c.args.graphs in
    let edges = c.requires.edges in
    record {
      rows = c.in_ok-rows.ensures c.args.arena.now;
      state = record {
        room = room_stays g.height g.width 0 0 c.in_ok-reached.reached c.put.new.self c.put.ensures c.in_ok-reached.ensures.room;
        swept = swept_start g.xs.now g.ys.now g.height g.width edges.first edges.second c.args.arena.now c.put.new.self c.new-2.result c.new-2.ensures c.put.ensures.here;
      };
    }

pub returns-clause-ties : goal.returns-clause-ties
returns-clause-ties c =
    let g = c.args.graphs in
    let edges = c.requires.edges in
    let s = c.loop-k.net.sweep in
    swept_ties g.xs.now g.ys.now g.height g.width edges.first edges.second c.args.arena.now c.loop-k.k s.reached s.ties c.loop-k.invariant.state.swept (let test = c.loop-k-test.false in let end = c.loop-k.auto.k-end in omega arith)

pub returns-clause-ordered : goal.returns-clause-ordered
returns-clause-ordered c =
    let g = c.args.graphs in
    let edges = c.requires.edges in
    let s = c.loop-k.net.sweep in
    swept_ordered g.xs.now g.ys.now g.height g.width edges.first edges.second c.args.arena.now c.loop-k.k s.reached s.ties c.loop-k.invariant.state.swept

pub returns-clause-sets : goal.returns-clause-sets
returns-clause-sets c =
    let g = c.args.graphs in
    let edges = c.requires.edges in
    let s = c.loop-k.net.sweep in
    swept_sets g.xs.now g.ys.now g.height g.width edges.first edges.second c.args.arena.now c.loop-k.k s.reached s.ties c.loop-k.invariant.state.swept edges.left edges.right

pub returns-clause-rows : goal.returns-clause-rows
returns-clause-rows c = c.loop-k.invariant.rows.search.mates
