use Rattle.std.proofs.Common.{◌≡◌, ◌<◌, ◌^◌, Some, sym, ◌∙◌, subst}
use Rattle.std.proofs.lemmas.Result.{on_ok_weaker}
use Rattle.fill_text.specs.Data.{cell_at}
use Rattle.fill_sources.specs.Origins.{IsInput}
use Rattle.fill_sources.specs.declared.texts.Origin.TheVariants.{Col}
use Rattle.fill_reach.proofs.CellLaws.{some_same}
use Rattle.fill_sources.proofs.Growing.{grown_same}
use Rattle.fill_sources.proofs.found.put_input.Goals as goal

pub returns-clause-grown : goal.returns-clause-grown
returns-clause-grown c =
    let on = c.args.on.now in
    let t = c.in-Some.text.now in
    let cell : cell_at on.sheet.now on.row c.args.column ≡ Some t = sym c.in-Some.ensures in
    let fits : c.args.column < 2 ^ 32 = c.ranges.column.fits in
    on_ok_weaker c.put.result
    (λ grown.
    grown_same c.args.texts.now.named.items c.put.new.self.named.items (λ v o. (v ≡ t) × (o ≡ Col c.args.column)) (IsInput on c.args.column) grown
    (λ v o. (
      λ s. (some_same v t (sym s.1 ∙ cell), s.2),
      λ p. (fits, subst (λ u. cell_at on.sheet.now on.row c.args.column ≡ Some u) (sym p.0) cell, p.1),
    )))
    c.put.ensures.grown
