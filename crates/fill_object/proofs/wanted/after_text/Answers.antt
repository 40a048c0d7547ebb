use Rattle.std.proofs.Common.{inl, inr, length, drop, refl, sym, ◌∙◌}
use Rattle.std.proofs.lemmas.Bool.Decides.{Decides-eqb}
use Rattle.std.proofs.lemmas.Slice.Eq.{starts_is}
use Rattle.fill_object.proofs.wanted.after_text.Goals as goal

pub returns-then-starts_with : goal.returns-then-starts_with
returns-then-starts_with c =
    let s = starts_is Decides-eqb _ _ _ c.starts_with.ensures.value in
    inl (drop (length c.args.text.now) c.end_of.result.now, sym c.end_of.ensures ∙ s.0 c.if-starts_with.true, refl)

pub returns-else-starts_with : goal.returns-else-starts_with
returns-else-starts_with c =
    let s = starts_is Decides-eqb _ _ _ c.starts_with.ensures.value in
    inr ((λ rest e. let yes = s.1 rest (c.end_of.ensures ∙ e) in let not = c.if-starts_with.false in cc), refl)
