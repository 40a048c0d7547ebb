use Rattle.std.proofs.Common.{ℕ, ◌∙◌, sym, subst}
use Rattle.fill_split.specs.Standing.{StandsBy}
use Rattle.fill_split.specs.Changes.{changed}
use Rattle.fill_split.specs.Refusals.{Unplaceable}
use Rattle.fill_split.proofs.Marks.{marks_cut}
use Rattle.fill_split.proofs.Coming.{traced}
use Rattle.fill_split.proofs.Resting.{stand_places}
use Rattle.fill_split.proofs.Alike.{folds_stay}
use Rattle.fill_split.proofs.folds.Folds.refold.Goals as goal

pub regroup-requires-clause-stands : goal.regroup-requires-clause-stands
regroup-requires-clause-stands g c =
    let m = g.M.Maker in
    let b = m.base c.args.maker.now in
    let f = c.args.self.now in
    let r = c.requires.stands in
    (r.0, traced (m.stands c.args.maker.now) f.rule (m.fits b) (m.weight b) r.0 f.kept.items f.places f.branches.items r.1, r.2)

pub returns-in-Ok-clause-others : goal.returns-in-Ok-clause-others
returns-in-Ok-clause-others g c = folds_stay g.M.Maker c.args.maker.now c.regroup.new.maker c.in-Ok.ensures.base c.in-Ok.ensures.older

pub returns-in-Ok-clause-cost : goal.returns-in-Ok-clause-cost
returns-in-Ok-clause-cost g c =
    let m = g.M.Maker in
    let b = m.base c.args.maker.now in
    let f = c.args.self.now in
    λ items s. c.in-Ok.ensures.cost items (traced (m.stands c.args.maker.now) f.rule (m.fits b) (m.weight b) items f.kept.items f.places f.branches.items s)

pub returns-in-Ok-clause-folds : goal.returns-in-Ok-clause-folds
returns-in-Ok-clause-folds g c =
    let m = g.M.Maker in
    let b = m.base c.args.maker.now in
    let f = c.args.self.now in
    λ items s.
    subst (λ b. StandsBy (m.stands c.regroup.new.maker) (m.fits b) (m.weight b) (changed c.args.change c.args.at items) c.in-Ok.folds) (sym c.in-Ok.ensures.base)
    (c.in-Ok.ensures.folds items (traced (m.stands c.args.maker.now) f.rule (m.fits b) (m.weight b) items f.kept.items f.places f.branches.items s))

pub returns-in-Ok-clause-placed : goal.returns-in-Ok-clause-placed
returns-in-Ok-clause-placed g c =
    let m = g.M.Maker in
    let b = m.base c.args.maker.now in
    let f = c.args.self.now in
    let o = c.in-Ok.folds in
    λ items s.
    let t = c.in-Ok.ensures.folds items (traced (m.stands c.args.maker.now) f.rule (m.fits b) (m.weight b) items f.kept.items f.places f.branches.items s) in
    subst (λ r. (j : ℕ) → Unplaceable r (m.fits b) (m.weight b) (changed c.args.change c.args.at items) j → ⊥) c.in-Ok.ensures.rule
    (stand_places (m.stands c.regroup.new.maker) o.rule (m.fits b) (m.weight b)
    (λ k l h. subst (λ b. m.fits b l) c.in-Ok.ensures.base (g.met.M.Maker.stands_fit c.regroup.new.maker k l h))
    (changed c.args.change c.args.at items) o.kept.items o.places o.branches.items t)

pub returns-clause-marks : goal.returns-clause-marks
returns-clause-marks g c =
    marks_cut g.M.Maker.no_later c.mark-mark.result c.mark-mark.ensures.latest c.in-Err.ensures.marks c.cut.ensures.marks c.cut.ensures.marked c.cut.ensures.only_marked

pub returns-clause-others : goal.returns-clause-others
returns-clause-others g c =
    let k = c.mark-mark.result in
    folds_stay g.M.Maker c.args.maker.now c.cut.new.self (c.cut.ensures.base ∙ c.in-Err.ensures.base)
    (λ v l s. c.cut.ensures.stands v l (c.in-Err.ensures.marks.marks k v l c.mark-mark.ensures.valid (c.mark-mark.ensures.stands v l s)))

pub returns-clause-cost : goal.returns-clause-cost
returns-clause-cost g c =
    let m = g.M.Maker in
    let b = m.base c.args.maker.now in
    let f = c.args.self.now in
    λ items s. c.in-Err.ensures.cost items (traced (m.stands c.args.maker.now) f.rule (m.fits b) (m.weight b) items f.kept.items f.places f.branches.items s)

pub returns-clause-refused : goal.returns-clause-refused
returns-clause-refused g c =
    let m = g.M.Maker in
    let b = m.base c.args.maker.now in
    let f = c.args.self.now in
    λ items s. c.in-Err.ensures.refused items (traced (m.stands c.args.maker.now) f.rule (m.fits b) (m.weight b) items f.kept.items f.places f.branches.items s)
