use Rattle.std.proofs.Common.{sym, ◌∙◌}
use Rattle.std.proofs.lemmas.Slice.Eq.{starts_is}
use Rattle.std.proofs.lemmas.Bool.Decides.{Decides-eqb}
use Rattle.fill_doubt.proofs.pass.has_piece.Goals as goal

pub returns : goal.returns
returns c =
    let s = starts_is Decides-eqb _ _ _ c.starts_with.ensures.value in
    let back = c.split_at.ensures.back in (
      λ h. (_, sym back ∙ s.0 h),
      λ r. s.1 r.0 (back ∙ r.1),
    )
