use Rattle.std.proofs.Common.{◌≡◌, ◌↔◌, Some, sym, ap, subst, ◌∙◌}
use Rattle.fill_tree.specs.Tree.{more}
use Rattle.fill_tree.specs.Value.{AtomIs, IsValue}
use Rattle.fill_object.specs.Wants.{RestAgrees}
use Rattle.fill_object.specs.declared.wanted.Wanted.TheVariants.{Any, Other, Value}
use Rattle.fill_object.proofs.Wanting.{value_some, other_none, other_some}
use Rattle.fill_object.proofs.wanted.Wanted.after.Goals as goal

pub returns-in-Value-Some : goal.returns-in-Value-Some
returns-in-Value-Some c on a q is =
    let answer = c.args.answer.now in
    let has = subst (λ o. IsValue (AtomIs on.sheet.now on.tables.now on.row a) o) c.in-Value-Some.is-1 is in
    subst (λ w. RestAgrees on answer Value q ↔ RestAgrees on answer w (more a q)) (sym c.in-Value-Some.is-0) (value_some on answer a q c.in-Value-Some.field-0-1 has)

pub returns-in-Other-None : goal.returns-in-Other-None
returns-in-Other-None c on a q is =
    let answer = c.args.answer.now in
    let none = subst (λ o. IsValue (AtomIs on.sheet.now on.tables.now on.row a) o) c.in-Other-None.is-1 is in
    subst (λ w. RestAgrees on answer Any q ↔ RestAgrees on answer w (more a q)) (sym c.in-Other-None.is-0) (other_none on answer a q c.in-Other-None.field-0-0 none)

pub returns-in-Other-Some : goal.returns-in-Other-Some
returns-in-Other-Some c on a q is =
    let answer = c.args.answer.now in
    let t = c.as_slice.result.now in
    let has = subst (λ o. IsValue (AtomIs on.sheet.now on.tables.now on.row a) o) (c.in-Other-Some.is-1 ∙ ap Some (sym c.as_slice.ensures)) is in
    let wanted : c.args.self ≡ Other c.in-Other-Some.from = c.in-Other-Some.is-0 in
    subst (λ w. RestAgrees on answer c.after_text.result q ↔ RestAgrees on answer w (more a q)) (sym wanted)
    (other_some on answer a q c.in-Other-Some.from t c.after_text.result has c.after_text.ensures)
