use Rattle.fill_split.proofs.Coming.{stand_start}
use Rattle.fill_split.proofs.folds.Folds.new.Goals as goal

pub returns-clause-stands : goal.returns-clause-stands
returns-clause-stands g c =
    let m = g.M.Maker in
    λ maker. stand_start (m.stands maker) c.args.rule (m.fits (m.base maker)) (m.weight (m.base maker)) _ _ _ c.new.ensures.items c.new-2.ensures c.new-3.ensures.items
