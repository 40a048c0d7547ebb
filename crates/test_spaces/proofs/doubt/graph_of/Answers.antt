use Rattle.std.proofs.Common.{List, length, sym, subst}
use Rattle.fill_arena.specs.WellMade.{IsGraphOf}
use Rattle.fill_arena.specs.declared.entry.Edge.{Edge}
use Rattle.test_spaces.proofs.Doubted.{if_ok, sample_graph}
use Rattle.test_spaces.proofs.doubt.graph_of.Goals as goal

pub intern_graph-requires : goal.intern_graph-requires
intern_graph-requires g c =
    let now = c.args.arena.now in
    subst (λ (es : List Edge). IsGraphOf now (length now) 3 es) (sym c.in_ok-edges.ensures) (sample_graph now c.args.first c.args.second c.requires.first c.requires.second)

pub returns : goal.returns
returns g c = if_ok c.intern_graph.result c.intern_graph.ensures.ok (λ graph h. (_, _, h))
