use Rattle.std.proofs.Common.{◌<◌, length, refl, subst, ◌∙◌}
use Rattle.std.proofs.Math.ListN.{set, length-set}
use Rattle.fill_arena.proofs.Scan.{here}
use Rattle.fill_arena.specs.Best.{IsLesser}
use Rattle.fill_tree.specs.Order.{chain_rank}
use Rattle.fill_arena.proofs.Items.{set_here, set_apart}
use Rattle.fill_rank.proofs.Cheap.{link_cheap}
use Rattle.fill_rank.proofs.Walk.{edge_step, edge_beaten}
use Rattle.fill_rank.proofs.LowerBounds.{best_bound}
use Rattle.fill_tree.specs.Cost.{atom_cost}
use Rattle.fill_tree.specs.Meaning.{atom_tree}
use Rattle.fill_arena.specs.Stands.{AtomStands}
use Rattle.fill_rank.proofs.graph.take_edge.Goals as goal

pub returns-clause-best : goal.returns-clause-best
returns-clause-best c last others first are =
    let old = c.args.rests.now.items in
    let e = c.args.edge in
    let emptied = set old e.from c.take-before.new.self in
    let made = c.lesser.result in
    let lt : e.from < length emptied = simp length-set c.requires.from in
    edge_step c.args.prices.now c.args.arena.now e others last first old (set emptied e.from made) c.index_mut.result.now c.index-5.result.now c.in_ok-along.along made c.in_ok-atom.atom are
    (here old e.from c.index_mut.result.now c.requires.from c.index_mut.ensures.value) (here old e.to c.index-5.result.now c.requires.to c.index-5.ensures)
    c.in_ok-atom.ensures.best c.in_ok-along.ensures (subst (λ o. IsLesser chain_rank o c.in_ok-along.along made) c.take-before.ensures.value c.lesser.ensures)
    (set_here emptied e.from made lt) (λ n apart. set_apart emptied e.from made n apart ∙ set_apart old e.from c.take-before.new.self n apart)

pub put_atom-requires : goal.put_atom-requires
put_atom-requires c =
    let old = c.args.rests.now.items in
    let e = c.args.edge in
    let h = c.requires.cheap in
    let next = c.index-5.result.now in
    link_cheap c.args.prices.now c.args.arena.now e h.0 h.1 h.3 c.in_ok-atom.atom c.in_ok-atom.ensures.best.has next (h.2.each e.to next (here old e.to next c.requires.to c.index-5.ensures))

pub returns-then-is_beaten-clause-best : goal.returns-then-is_beaten-clause-best
returns-then-is_beaten-clause-best c last others first are =
    let old = c.args.rests.now.items in
    let e = c.args.edge in
    edge_beaten c.args.prices.now c.args.arena.now e others last first old c.index.result.now c.index-2.result.now c.bound_of-bound.result are (here old e.from c.index.result.now c.requires.from c.index.ensures)
    (here old e.to c.index-2.result.now c.requires.to c.index-2.ensures) c.bound_of-bound.ensures.least (c.if-is_beaten.ensures refl)

pub returns-then-is_dearer-clause-best : goal.returns-then-is_dearer-clause-best
returns-then-is_dearer-clause-best c last others first are =
    let old = c.args.rests.now.items in
    let e = c.args.edge in
    let arena = c.args.arena.now in
    let prices = c.args.prices.now in
    let a = atom_tree c.in_ok-atom.atom in
    edge_beaten prices arena e others last first old c.index-3.result.now c.index-4.result.now (atom_cost prices a) are (here old e.from c.index-3.result.now c.requires.from c.index-3.ensures)
    (here old e.to c.index-4.result.now c.requires.to c.index-4.ensures) (best_bound prices (AtomStands arena e.atoms) a c.in_ok-atom.ensures.best) (c.if-is_dearer.ensures refl)
