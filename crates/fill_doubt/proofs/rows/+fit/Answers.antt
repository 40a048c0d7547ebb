use Rattle.std.proofs.Common.{◌∷◌, [], List, map, false, refl, sym, ap, ◌∙◌}
use Rattle.std.proofs.lemmas.Bool.{false≢true}
use Rattle.fill_doubt.proofs.Appended.{no_items}
use Rattle.fill_doubt.proofs.Ways.{fit_by, fit_none, fit_with, fit_without}
use Rattle.fill_doubt.proofs.rows.+fit.Goals as goal

pub returns-in_default : goal.returns-in_default
returns-in_default n c =
    fit_by c.is_last.result c.args.conditions.now [] (map (λ cell. cell.now) c.args.cells.now) (map (λ cell. cell.now) c.args.cells.now) c.args.part (no_items c.args.conditions.now c.in_default.ensures.cases) refl c.is_last.ensures

pub returns-in_default-split_first : goal.returns-in_default-split_first
returns-in_default-split_first n c =
    fit_by false c.args.conditions.now (c.in-Some.first.now ∷ c.in-Some.rest.now) (map (λ cell. cell.now) c.args.cells.now) [] c.args.part c.in-Some.ensures.cases.0
    (ap (λ (xs : List _). map (λ cell. cell.now) xs) (no_items c.args.cells.now c.in_default-split_first.ensures.cases))
    ((λ t. absurd (false≢true t)), (λ h. absurd (fit_none c.in-Some.first.now c.in-Some.rest.now c.args.part h)))

pub returns-then-has : goal.returns-then-has
returns-then-has n c =
    let first = c.in-Some.first.now in
    let rest = c.in-Some.rest.now in
    let t = c.in-Some-split_first.cell.now.now in
    let ts = map (λ cell. cell.now) c.in-Some-split_first.others.now in
    let with = fit_with first rest t ts c.args.part (c.has.ensures.0 c.if-has.true) in
    fit_by c.fit.result c.args.conditions.now (first ∷ rest) (map (λ cell. cell.now) c.args.cells.now) (t ∷ ts) c.args.part c.in-Some.ensures.cases.0
    (ap (λ (xs : List _). map (λ cell. cell.now) xs) c.in-Some-split_first.ensures.cases.0)
    ((λ b. with.0 (c.fit.ensures.0 b)), (λ h. c.fit.ensures.1 (with.1 h)))

pub returns : goal.returns
returns n c =
    let first = c.in-Some.first.now in
    let rest = c.in-Some.rest.now in
    let t = c.in-Some-split_first.cell.now.now in
    let ts = map (λ cell. cell.now) c.in-Some-split_first.others.now in
    let without = fit_without first rest t ts c.args.part (λ h. false≢true (sym c.if-has.false ∙ c.has.ensures.1 h)) (c.has-2.ensures.0 c.if-not-has.false) in
    fit_by c.fit-2.result c.args.conditions.now (first ∷ rest) (map (λ cell. cell.now) c.args.cells.now) (t ∷ ts) c.args.part c.in-Some.ensures.cases.0
    (ap (λ (xs : List _). map (λ cell. cell.now) xs) c.in-Some-split_first.ensures.cases.0)
    ((λ b. without.0 (c.fit-2.ensures.0 b)), (λ h. c.fit-2.ensures.1 (without.1 h)))
