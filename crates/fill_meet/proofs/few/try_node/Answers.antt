use Rattle.std.proofs.Common.{◌≡◌, ◌+◌, get_or, Some, slice_get, refl, ap, ◌∙◌, subst, arith}
use Rattle.std.proofs.lemmas.Option.{slice_get-get_or}
use Rattle.fill_arena.specs.declared.entry.Entry.TheVariants.{Atoms}
use Rattle.fill_meet.specs.Groups.{IsFirstFrom}
use Rattle.fill_meet.proofs.Fews.{few_next, few_node, few_on, few_step}
use Rattle.fill_meet.proofs.Lists.{here, same_value}
use Rattle.fill_meet.proofs.Sweeps.{columns, ends_within, rows_within}
use Rattle.fill_meet.proofs.Words.{place}
use Rattle.fill_meet.proofs.few.try_node.Goals as goal

pub loop-l-init : goal.loop-l-init
loop-l-init c =
    let g = c.args.graphs in
    let edges = c.requires.edges in
    let groups = c.requires.groups in
    let next = c.first-l.ensures groups.keys groups.groups in
    record {
      verdicts = c.requires.verdicts;
      state = few_on c.args.arena.now g edges.first edges.second c.args.k c.args.v groups.keys 0 c.first-l.result c.args.few.now.sweep groups.are next
          (few_node c.args.arena.now g edges.first edges.second c.args.k c.args.v c.args.few.now.sweep c.requires.state);
      from = λ y hy. next.here y.from (groups.are.each c.first-l.result y hy);
    }

pub atoms-items-requires : goal.atoms-items-requires
atoms-items-requires c =
    let xs = c.args.graphs.xs.now in
    c.requires.edges.left c.args.k (get_or xs c.args.k c.index-graphs-k.result) (slice_get-get_or xs c.args.k c.index-graphs-k.result c.requires.within)

pub try_edges-requires-clause-left : goal.try_edges-requires-clause-left
try_edges-requires-clause-left c =
    let xs = c.args.graphs.xs.now in
    let hx = here _ _ _ c.requires.within c.index-xs-k.is in
    let same = same_value xs c.args.k c.args.k (get_or xs c.args.k c.index-graphs-k.result) c.index-xs-k.result refl (slice_get-get_or xs c.args.k c.index-graphs-k.result c.requires.within) hx in
    subst (λ z. slice_get c.args.arena.now z.atoms ≡ Some (Atoms c.atoms-items.result.now)) same c.atoms-items.ensures

pub try_edges-requires-clause-right : goal.try_edges-requires-clause-right
try_edges-requires-clause-right c = c.requires.edges.right c.loop-l.l _ (here _ _ _ c.loop-l-test.true c.index-ys-l.is)

pub try_edges-requires-clause-place : goal.try_edges-requires-clause-place
try_edges-requires-clause-place c =
    let g = c.args.graphs in
    let edges = c.requires.edges in
    let hx = here _ _ _ c.requires.within c.index-xs-k.is in
    let hy = here _ _ _ c.loop-l-test.true c.index-ys-l.is in
    place g.height g.width c.loop-l.few.sweep.reached c.loop-l.invariant.state.room c.index-xs-k.result.to c.index-ys-l.result.to (rows_within g.xs.now g.ys.now g.height g.width edges.first edges.second c.args.k _ hx).1
    (columns g.xs.now g.ys.now g.height g.width edges.first edges.second c.loop-l.l _ hy).1

pub try_edges-requires-clause-from : goal.try_edges-requires-clause-from
try_edges-requires-clause-from c =
    let g = c.args.graphs in
    let edges = c.requires.edges in
    let hx = here _ _ _ c.requires.within c.index-xs-k.is in
    let hy = here _ _ _ c.loop-l-test.true c.index-ys-l.is in
    let less = (ends_within g.xs.now g.ys.now g.height g.width edges.first edges.second c.args.k c.loop-l.l _ _ hx hy).0 in
    let fits = c.requires.nodes in
    omega arith

pub try_edges-requires-clause-to : goal.try_edges-requires-clause-to
try_edges-requires-clause-to c =
    let g = c.args.graphs in
    let edges = c.requires.edges in
    let hx = here _ _ _ c.requires.within c.index-xs-k.is in
    let hy = here _ _ _ c.loop-l-test.true c.index-ys-l.is in
    let less = (ends_within g.xs.now g.ys.now g.height g.width edges.first edges.second c.args.k c.loop-l.l _ _ hx hy).1 in
    let fits = c.requires.nodes in
    omega arith

pub loop-l-preserved : goal.loop-l-preserved
loop-l-preserved c =
    let g = c.args.graphs in
    let edges = c.requires.edges in
    let hx = here _ _ _ c.requires.within c.index-xs-k.is in
    let hy = here _ _ _ c.loop-l-test.true c.index-ys-l.is in
    let groups = c.requires.groups in
    let key = groups.are.each c.loop-l.l _ hy ∙ ap Some (c.loop-l.invariant.from _ hy) in
    let next : IsFirstFrom groups.keys c.args.v (c.loop-l.l + 1) c.next-l.result = c.next-l.ensures groups.keys c.args.v groups.groups key in
    record {
      verdicts = c.in_ok-try_edges.ensures.verdicts;
      state = few_on c.args.arena.now g edges.first edges.second c.args.k c.args.v groups.keys (c.loop-l.l + 1) c.next-l.result c.try_edges.new.few.sweep groups.are next
          (few_step c.args.arena.now g edges.first edges.second c.args.k c.args.v c.loop-l.l _ _ hx hy c.loop-l.few.sweep c.loop-l.invariant.state c.try_edges.new.few.sweep c.in_ok-try_edges.ensures.tie);
      from = λ y at. next.here y.from (groups.are.each c.next-l.result y at);
    }

pub loop-l-smaller : goal.loop-l-smaller
loop-l-smaller c =
    let hy = here _ _ _ c.loop-l-test.true c.index-ys-l.is in
    let groups = c.requires.groups in
    let key = groups.are.each c.loop-l.l _ hy ∙ ap Some (c.loop-l.invariant.from _ hy) in
    let past = (c.next-l.ensures groups.keys c.args.v groups.groups key).past in
    let test = c.loop-l-test.true in
    omega arith

pub returns-clause-state : goal.returns-clause-state
returns-clause-state c = few_next c.args.arena.now c.args.graphs c.requires.edges.first c.requires.edges.second c.args.k c.args.v c.loop-l.l c.loop-l.few.sweep c.loop-l-test.false c.loop-l.invariant.state
