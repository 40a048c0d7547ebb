use Rattle.fill_split.specs.Standing.{spots}
use Rattle.fill_split.proofs.Prefixes.{Rebuilt}
use Rattle.fill_split.proofs.prefix.rebuild.Given as goal

abbrev pub invariant-loop-i : goal.invariant-loop-i
invariant-loop-i g l =
    let m = g.M.Maker in
    Rebuilt (m.stands l.maker) (m.fits (m.base l.maker)) (m.weight (m.base l.maker)) l.kept (spots l.kept l.places) l.i l.branches.items
