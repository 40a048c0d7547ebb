use Rattle.std.proofs.Common.{◌≡◌, ◌+◌, Some, slice_get, subst, arith}
use Rattle.fill_meet.specs.Groups.{IsFirstFrom}
use Rattle.fill_meet.proofs.Lists.{get_there_too, here}
use Rattle.fill_meet.proofs.Sweeps.{columns, ends_within, rows_within, set_far, set_on, set_put, tried_room}
use Rattle.fill_meet.proofs.Words.{place}
use Rattle.fill_meet.proofs.ties.tie_set.Goals as goal

pub loop-l-init : goal.loop-l-init
loop-l-init c =
    let labels = c.args.index.now.labels.of.items in
    let next = c.first-l.ensures labels c.requires.by_label in
    record {
      state = λ e numbers start p state. set_on e c.args.graphs c.requires.first c.requires.second c.args.k labels numbers start p c.args.number 0 c.first-l.result c.args.sweep.now next state;
      label = next.here;
      room = c.requires.room;
    }

pub tie_edges-requires-clause-first : goal.tie_edges-requires-clause-first
tie_edges-requires-clause-first c =
    let g = c.args.graphs in
    let hx = here _ _ _ c.requires.within c.index-xs-k.is in
    let hy = here _ _ _ c.loop-l-test.true c.index-ys-l.is in
    place g.height g.width c.loop-l.sweep.reached c.loop-l.invariant.room c.index-xs-k.result.from c.index-ys-l.result.from (rows_within g.xs.now g.ys.now g.height g.width c.requires.first c.requires.second c.args.k _ hx).0
    (columns g.xs.now g.ys.now g.height g.width c.requires.first c.requires.second c.loop-l.l _ hy).0

pub tie_edges-requires-clause-second : goal.tie_edges-requires-clause-second
tie_edges-requires-clause-second c =
    let g = c.args.graphs in
    let hx = here _ _ _ c.requires.within c.index-xs-k.is in
    let hy = here _ _ _ c.loop-l-test.true c.index-ys-l.is in
    place g.height g.width c.loop-l.sweep.reached c.loop-l.invariant.room c.index-xs-k.result.to c.index-ys-l.result.to (rows_within g.xs.now g.ys.now g.height g.width c.requires.first c.requires.second c.args.k _ hx).1
    (columns g.xs.now g.ys.now g.height g.width c.requires.first c.requires.second c.loop-l.l _ hy).1

pub tie_edges-requires-clause-from : goal.tie_edges-requires-clause-from
tie_edges-requires-clause-from c =
    let g = c.args.graphs in
    let hx = here _ _ _ c.requires.within c.index-xs-k.is in
    let hy = here _ _ _ c.loop-l-test.true c.index-ys-l.is in
    let less = (ends_within g.xs.now g.ys.now g.height g.width c.requires.first c.requires.second c.args.k c.loop-l.l _ _ hx hy).0 in
    let fits = c.requires.nodes in
    omega arith

pub tie_edges-requires-clause-to : goal.tie_edges-requires-clause-to
tie_edges-requires-clause-to c =
    let g = c.args.graphs in
    let hx = here _ _ _ c.requires.within c.index-xs-k.is in
    let hy = here _ _ _ c.loop-l-test.true c.index-ys-l.is in
    let less = (ends_within g.xs.now g.ys.now g.height g.width c.requires.first c.requires.second c.args.k c.loop-l.l _ _ hx hy).1 in
    let fits = c.requires.nodes in
    omega arith

pub loop-l-preserved : goal.loop-l-preserved
loop-l-preserved c =
    let g = c.args.graphs in
    let labels = c.args.index.now.labels.of.items in
    let inv = c.loop-l.invariant in
    let hx = here _ _ _ c.requires.within c.index-xs-k.is in
    let hy = here _ _ _ c.loop-l-test.true c.index-ys-l.is in
    let label = get_there_too g.ys.now labels c.loop-l.l _ c.requires.long hy in
    let at = subst (λ n. slice_get labels c.loop-l.l ≡ Some n) (inv.label label.0 label.1) label.1 in
    let next : IsFirstFrom labels c.args.number (c.loop-l.l + 1) c.next-l.result = c.next-l.ensures labels c.args.number c.requires.by_label at in
    record {
      state = λ e numbers start p state.
          set_on e g c.requires.first c.requires.second c.args.k labels numbers start p c.args.number (c.loop-l.l + 1) c.next-l.result c.tie_edges.new.sweep next
          (set_put e g c.requires.first c.requires.second c.args.k labels numbers start p c.args.number c.loop-l.l _ _ c.loop-l.sweep c.tie_edges.new.sweep hx hy at c.in_ok-tie_edges.ensures (inv.state e numbers start p state));
      label = next.here;
      room = tried_room g.height g.width _ _ c.loop-l.sweep c.tie_edges.new.sweep c.in_ok-tie_edges.ensures inv.room;
    }

pub loop-l-smaller : goal.loop-l-smaller
loop-l-smaller c =
    let labels = c.args.index.now.labels.of.items in
    let hy = here _ _ _ c.loop-l-test.true c.index-ys-l.is in
    let label = get_there_too c.args.graphs.ys.now labels c.loop-l.l _ c.requires.long hy in
    let past = (c.next-l.ensures labels label.0 c.requires.by_label label.1).past in
    let test = c.loop-l-test.true in
    omega arith

pub returns-clause-state : goal.returns-clause-state
returns-clause-state c = λ e numbers start p state.
    set_far e c.args.graphs c.requires.first c.requires.second c.args.k c.args.index.now.labels.of.items numbers start p c.args.number c.loop-l.l c.loop-l.sweep c.loop-l-test.false (c.loop-l.invariant.state e numbers start p state)
