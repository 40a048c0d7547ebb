use Rattle.std.proofs.Common.{ℕ, ◌<◌, length, refl, sym, ap, ◌∙◌, arith}
use Rattle.fill_arena.specs.Named.{edge_names}
use Rattle.fill_arena.specs.declared.entry.Edge.{Edge}
use Rattle.fill_arena.proofs.Scan.{here}
use Rattle.fill_arena.proofs.Zips.{each_of_flat}
use Rattle.fill_arena.proofs.marks.mark_edges.Goals as goal

pub bounds-marks-index : goal.bounds-marks-index
bounds-marks-index c =
    let edges = c.args.edges.now in
    let edge = c.index-edges-i.result in
    let there = here edges c.loop-i.i edge c.loop-i-test.true c.index-edges-i.is in
    let lt = each_of_flat (λ (n : ℕ). n < length c.args.marks.now) edge_names edges c.requires c.loop-i.i edge there 0 edge.atoms refl in
    let same = c.index.ensures ∙ ap (λ (e : Edge). e.atoms) (sym c.index-edges-i.is) in
    let long = c.loop-i.auto.marks in
    omega arith
