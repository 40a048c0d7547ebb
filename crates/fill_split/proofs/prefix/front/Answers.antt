use Rattle.fill_split.proofs.Coming.{stand_of}
use Rattle.fill_split.proofs.prefix.front.Goals as goal

pub returns-clause-stands : goal.returns-clause-stands
returns-clause-stands g c =
    let m = g.M.Maker in
    let b = m.base c.args.maker.now in
    λ items s.
    rw (c.in_ok-copied.ensures, c.in_ok-copied_places.ensures)
    (stand_of (m.stands c.args.maker.now) c.args.before.now.rule (m.fits b) (m.weight b) items _ _ _ s (c.in_ok-rebuild.ensures c.args.before.now.rule items s.branches s.came))
