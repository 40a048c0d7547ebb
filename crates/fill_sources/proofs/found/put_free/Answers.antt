use Rattle.std.proofs.Common.{◌≡◌, Some, sym, ◌∙◌, subst}
use Rattle.std.proofs.lemmas.Result.{on_ok_weaker}
use Rattle.std.proofs.lemmas.Bool.{false≢true}
use Rattle.std.proofs.lemmas.Bool.Decides.{Decides-eqb}
use Rattle.std.proofs.lemmas.List.{get_or_default}
use Rattle.std.proofs.lemmas.List.Elements.{contains_decides}
use Rattle.fill_text.specs.Data.{table_cell_at}
use Rattle.fill_reach.specs.Spots.{IsFree}
use Rattle.fill_reach.proofs.CellLaws.{some_same}
use Rattle.fill_sources.specs.Origins.{IsFreeIn}
use Rattle.fill_sources.specs.declared.texts.Origin.TheVariants.{Cell}
use Rattle.fill_sources.proofs.Growing.{grown_same}
use Rattle.fill_sources.proofs.found.put_free.Goals as goal

pub returns-clause-grown : goal.returns-clause-grown
returns-clause-grown c =
    let tables = c.args.on.now.tables.now in
    let r = c.args.at.now in
    let t = c.in-Some.text.now in
    let cell : table_cell_at tables r.table r.row c.args.column ≡ Some t = sym c.in-Some.ensures in
    let wide = c.requires.last in
    let free : IsFree tables r.table r.key c.args.column = (c.args.key.now, wide.0, c.requires.key, wide.1, c.requires.first, wide.2, λ h. false≢true (sym c.if-contains.false ∙ (contains_decides _ Decides-eqb c.args.key.now c.args.column c.contains.result c.contains.ensures.cases).1 (h.0, h.1, λ d. get_or_default c.args.key.now h.0 d c.args.column h.1 ∙ h.2))) in
    on_ok_weaker c.put.result
    (λ grown.
    grown_same c.args.texts.now.named.items c.put.new.self.named.items (λ v o. (v ≡ t) × (o ≡ Cell r c.args.column)) (IsFreeIn tables r c.args.column) grown
    (λ v o. (
      λ s. (some_same v t (sym s.1 ∙ cell), s.2),
      λ p. (free, subst (λ u. table_cell_at tables r.table r.row c.args.column ≡ Some u) (sym p.0) cell, p.1),
    )))
    c.put.ensures.grown
