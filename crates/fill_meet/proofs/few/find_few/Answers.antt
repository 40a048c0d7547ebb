use Rattle.std.proofs.Common.{◌<◌, arith, sym, subst}
use Rattle.fill_arena.specs.Contents.{EachIn}
use Rattle.fill_meet.specs.Groups.{AreGroups}
use Rattle.fill_meet.proofs.Fews.{froms_within}
use Rattle.fill_meet.proofs.Sweeps.{swept_ordered, swept_sets, swept_start, swept_ties}
use Rattle.fill_meet.proofs.WalksOn.{both_some}
use Rattle.fill_meet.proofs.Words.{place, room_stays}
use Rattle.fill_meet.proofs.few.find_few.Goals as goal

pub put-requires : goal.put-requires
put-requires c =
    let g = c.args.graphs in
    let some = both_some g.height g.width c.requires.some in
    place g.height g.width c.in_ok-reached.reached c.in_ok-reached.ensures.room 0 0 some.0 some.1

pub new-requires-3 : goal.new-requires-3
new-requires-3 c = subst (EachIn (λ n. n < c.args.graphs.width)) (sym c.as_slice.ensures.value) (froms_within c.args.graphs.width c.args.graphs.ys.now c.in_ok-froms.froms.items c.requires.edges.second c.in_ok-froms.ensures)

pub try_edge-requires-clause-groups : goal.try_edge-requires-clause-groups
try_edge-requires-clause-groups c = record { keys = c.in_ok-froms.froms.items; are = c.in_ok-froms.ensures; groups = subst (λ keys. AreGroups keys c.in_ok-by_from.by_from) c.as_slice.ensures.value c.in_ok-by_from.ensures.groups }

pub loop-k-init : goal.loop-k-init
loop-k-init c =
    let g = c.args.graphs in
    let edges = c.requires.edges in
    record {
      verdicts = c.in_ok-verdicts.ensures c.args.arena.now;
      state = record {
        room = room_stays g.height g.width 0 0 c.in_ok-reached.reached c.put.new.self c.put.ensures c.in_ok-reached.ensures.room;
        swept = swept_start g.xs.now g.ys.now g.height g.width edges.first edges.second c.args.arena.now c.put.new.self c.new-2.result c.new-2.ensures c.put.ensures.here;
      };
    }

pub returns-clause-ties : goal.returns-clause-ties
returns-clause-ties c =
    let g = c.args.graphs in
    let edges = c.requires.edges in
    let s = c.loop-k.few.sweep in
    swept_ties g.xs.now g.ys.now g.height g.width edges.first edges.second c.args.arena.now c.loop-k.k s.reached s.ties c.loop-k.invariant.state.swept (let test = c.loop-k-test.false in let end = c.loop-k.auto.k-end in omega arith)

pub returns-clause-ordered : goal.returns-clause-ordered
returns-clause-ordered c =
    let g = c.args.graphs in
    let edges = c.requires.edges in
    let s = c.loop-k.few.sweep in
    swept_ordered g.xs.now g.ys.now g.height g.width edges.first edges.second c.args.arena.now c.loop-k.k s.reached s.ties c.loop-k.invariant.state.swept

pub returns-clause-sets : goal.returns-clause-sets
returns-clause-sets c =
    let g = c.args.graphs in
    let edges = c.requires.edges in
    let s = c.loop-k.few.sweep in
    swept_sets g.xs.now g.ys.now g.height g.width edges.first edges.second c.args.arena.now c.loop-k.k s.reached s.ties c.loop-k.invariant.state.swept edges.left edges.right
