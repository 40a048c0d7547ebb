use Rattle.std.proofs.Common.{◌+◌, get_or, arith}
use Rattle.std.proofs.lemmas.Option.{slice_get-get_or}
use Rattle.fill_meet.proofs.Fews.{few_end, few_pass, few_start}
use Rattle.fill_meet.proofs.Sweeps.{rows_within}
use Rattle.fill_meet.proofs.Words.{place}
use Rattle.fill_meet.proofs.few.try_edge.Goals as goal

pub next-v-requires : goal.next-v-requires
next-v-requires c =
    let g = c.args.graphs in
    let edges = c.requires.edges in
    let x = get_or g.xs.now c.args.k c.index-graphs-k.result in
    let hx = slice_get-get_or g.xs.now c.args.k c.index-graphs-k.result c.requires.within in
    let row = (rows_within g.xs.now g.ys.now g.height g.width edges.first edges.second c.args.k x hx).0 in
    record { places = λ v lt. place g.height g.width c.args.few.now.sweep.reached c.requires.state.room x.from v row lt; order = omega arith }

pub next-v-requires-in-loop-v-clause-places : goal.next-v-requires-in-loop-v-clause-places
next-v-requires-in-loop-v-clause-places c = λ v lt.
    let g = c.args.graphs in
    let edges = c.requires.edges in
    let x = get_or g.xs.now c.args.k c.index-graphs-k.result in
    let hx = slice_get-get_or g.xs.now c.args.k c.index-graphs-k.result c.requires.within in
    let row = (rows_within g.xs.now g.ys.now g.height g.width edges.first edges.second c.args.k x hx).0 in
    place g.height g.width c.try_node.new.few.sweep.reached c.in_ok-try_node.ensures.state.room x.from v row lt

pub loop-v-init : goal.loop-v-init
loop-v-init c =
    let g = c.args.graphs in
    let edges = c.requires.edges in
    let x = get_or g.xs.now c.args.k c.index-graphs-k.result in
    let hx = slice_get-get_or g.xs.now c.args.k c.index-graphs-k.result c.requires.within in
    let s = c.args.few.now.sweep in
    record {
      verdicts = c.requires.verdicts;
      state = few_pass c.args.arena.now g edges.first edges.second c.args.k 0 c.next-v.result x s hx c.next-v.ensures.none (few_start c.args.arena.now g edges.first edges.second c.args.k s c.requires.state);
    }

pub loop-v-preserved : goal.loop-v-preserved
loop-v-preserved c =
    let g = c.args.graphs in
    let edges = c.requires.edges in
    let x = get_or g.xs.now c.args.k c.index-graphs-k.result in
    let hx = slice_get-get_or g.xs.now c.args.k c.index-graphs-k.result c.requires.within in
    let done = c.in_ok-try_node.ensures in
    record {
      verdicts = done.verdicts;
      state = few_pass c.args.arena.now g edges.first edges.second c.args.k (c.loop-v.v + 1) c.next-v-in-loop-v.result x c.try_node.new.few.sweep hx c.next-v-in-loop-v.ensures.none done.state;
    }

pub loop-v-smaller : goal.loop-v-smaller
loop-v-smaller c =
    let past = c.next-v-in-loop-v.ensures.past in
    let test = c.loop-v-test.true in
    omega arith

pub returns-clause-state : goal.returns-clause-state
returns-clause-state c = few_end c.args.arena.now c.args.graphs c.requires.edges.first c.requires.edges.second c.args.k c.loop-v.v c.loop-v.few.sweep c.loop-v-test.false c.loop-v.invariant.state
