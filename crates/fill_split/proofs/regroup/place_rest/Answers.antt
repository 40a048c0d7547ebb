use Rattle.std.proofs.Common.{arith, ◌∙◌, sym, subst, List, ◌++◌, ◌∷◌, [], take}
use Rattle.fill_split.specs.Placement.{OpensNinth}
use Rattle.fill_split.specs.Standing.{StandsBy, rule_of}
use Rattle.fill_split.proofs.Zips.{here, zip_some}
use Rattle.fill_split.proofs.Marks.{marks_trans}
use Rattle.fill_split.proofs.Resting.{grows_more, grows_no_more, grows_end}
use Rattle.fill_split.proofs.regroup.place_rest.Goals as goal

pub place-requires-clause-stands : goal.place-requires-clause-stands
place-requires-clause-stands g c =
    let m = g.M.Maker in
    let i = c.loop-i.invariant in
    let r = c.requires.stands in
    (take c.loop-i.i r.0, subst (λ b. StandsBy (m.stands c.loop-i.maker) (m.fits b) (m.weight b) (take c.loop-i.i r.0) c.loop-i.folds) (sym i.base) (i.grows.stand r.0 r.1 r.2))

pub place-requires-clause-single : goal.place-requires-clause-single
place-requires-clause-single g c =
    let m = g.M.Maker in
    let at = here _ _ _ c.loop-i-test.true c.index-singles-i.is in
    let r = c.requires.stands in
    let q = zip_some (λ k x. m.stands c.args.maker.now k (x ∷ [])) c.args.singles.now r.0 c.loop-i.i _ r.1 at in
    (q.0, c.loop-i.invariant.older _ (q.0 ∷ []) q.2)

pub returns-in-Ok-false-clause-refused : goal.returns-in-Ok-false-clause-refused
returns-in-Ok-false-clause-refused g c =
    let m = g.M.Maker in
    let i = c.loop-i.invariant in
    let at = here _ _ _ c.loop-i-test.true c.index-singles-i.is in
    let placed = rw c.in-Ok-false.field-0-test at c.in-Ok-false.ensures.placed in
    let ninth = subst (λ b. (seen : List g.row.M-Item.Denot) (x : g.row.M-Item.Denot) → StandsBy (m.stands c.loop-i.maker) (m.fits b) (m.weight b) seen c.loop-i.folds → m.stands c.loop-i.maker c.index-singles-i.result (x ∷ []) → OpensNinth (rule_of c.loop-i.folds) (m.fits b) (m.weight b) seen x) i.base placed in
    let b = m.base c.args.maker.now in
    grows_no_more (m.stands c.args.maker.now) (m.stands c.loop-i.maker) (m.stands c.place.new.maker) (m.fits b) (m.weight b) _ _ _ _ _ i.grows i.older _ at
    (g.met.M.Maker.stands_fit c.args.maker.now) c.loop-i.auto.i ninth

pub loop-i-preserved : goal.loop-i-preserved
loop-i-preserved g c =
    let m = g.M.Maker in
    let i = c.loop-i.invariant in
    let e = c.in-Ok-true.ensures in
    let at = here _ _ _ c.loop-i-test.true c.index-singles-i.is in
    let placed = rw c.in-Ok-true.field-0-test at e.placed in
    let stand = subst (λ b. (seen : List g.row.M-Item.Denot) (x : g.row.M-Item.Denot) → StandsBy (m.stands c.loop-i.maker) (m.fits b) (m.weight b) seen c.loop-i.folds → m.stands c.loop-i.maker c.index-singles-i.result (x ∷ []) → StandsBy (m.stands c.place.new.maker) (m.fits b) (m.weight b) (seen ++ x ∷ []) c.place.new.folds) i.base placed in
    let b = m.base c.args.maker.now in
    record {
      base = e.base ∙ i.base;
      older = λ k l s. e.older k l (i.older k l s);
      marks = marks_trans i.marks e.marks;
      cost = let a = e.cost in let b = i.cost in let d = c.loop-i.auto.i in omega arith;
      grows = grows_more (m.stands c.args.maker.now) (m.stands c.loop-i.maker) (m.stands c.place.new.maker) (m.fits b) (m.weight b) _ _ _ _ _ i.grows i.older _ at c.place.new.folds e.rule stand;
    }

pub returns-clause-folds : goal.returns-clause-folds
returns-clause-folds g c =
    let m = g.M.Maker in
    let b = m.base c.args.maker.now in
    grows_end (m.stands c.args.maker.now) (m.stands c.loop-i.maker) (m.fits b) (m.weight b) _ _ _ _ _ c.loop-i.invariant.grows c.loop-i-test.false
