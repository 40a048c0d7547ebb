use Rattle.std.proofs.Common.{[], ◌∷◌, All, Contains, refl, subst, sym, ◌∙◌}
use Rattle.std.proofs.lemmas.Bool.{false≢true}
use Rattle.std.proofs.lemmas.List.Elements.{All-nil}
use Rattle.fill_apply.specs.Columns.{literal_columns}
use Rattle.fill_apply.proofs.FirstOthers.{one_column, one_in, two_columns, two_in}
use Rattle.fill_apply.proofs.columns.other_column.Goals as goal

pub returns-then-not-is_among : goal.returns-then-not-is_among
returns-then-not-is_among c =
    ([], literal_columns c.args.g.now.second, refl, All-nil (Contains c.args.inputs.now), λ h. false≢true (sym c.if-not-is_among.true ∙ c.is_among.ensures.1 h))

pub returns-in_default : goal.returns-in_default
returns-in_default c =
    let first = c.is_among.ensures.0 c.if-not-is_among.false in
    subst (All (Contains c.args.inputs.now)) (sym (one_column c.args.g.now c.in_default.is)) (one_in c.args.inputs.now _ first)

pub returns-then-is_among : goal.returns-then-is_among
returns-then-is_among c =
    let first = c.is_among.ensures.0 c.if-not-is_among.false in
    let second = c.is_among-2.ensures.0 c.if-is_among.true in
    subst (All (Contains c.args.inputs.now)) (sym (two_columns c.args.g.now c.in-Some.second c.in-Some.is)) (two_in c.args.inputs.now _ _ first second)

pub returns-else-is_among : goal.returns-else-is_among
returns-else-is_among c =
    let first = c.is_among.ensures.0 c.if-not-is_among.false in
    (c.args.g.now.first.column ∷ [], [], two_columns c.args.g.now c.in-Some.second c.in-Some.is, one_in c.args.inputs.now c.args.g.now.first.column first, λ h. false≢true (sym c.if-is_among.false ∙ c.is_among-2.ensures.1 h))
