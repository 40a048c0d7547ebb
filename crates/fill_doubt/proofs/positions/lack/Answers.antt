use Rattle.std.proofs.Common.{None, sym, ◌∙◌}
use Rattle.std.proofs.lemmas.Bool.{false≢true}
use Rattle.std.proofs.Common.{inl, inr, ⊎_elim}
use Rattle.fill_doubt.proofs.positions.lack.Goals as goal

pub returns-then-lefts : goal.returns-then-lefts
returns-then-lefts c = (
  (λ t. inl (c.if-lefts.true, c.is_some.ensures.0 t)),
  (λ h. c.is_some.ensures.1 (⊎_elim (λ l. l.1) (λ r. (None, r.0)) h)),
)

pub returns-then-rights : goal.returns-then-rights
returns-then-rights c = (
  (λ t. inr (c.if-rights.true, c.is_some-then-rights.ensures.0 t)),
  (λ h. ⊎_elim (λ l. absurd (false≢true (sym c.if-lefts.false ∙ l.0))) (λ r. c.is_some-then-rights.ensures.1 r.1) h),
)

pub returns : goal.returns
returns c = (
  (λ t. absurd (false≢true t)),
  (λ h. ⊎_elim (λ l. absurd (false≢true (sym c.if-lefts.false ∙ l.0))) (λ r. absurd (false≢true (sym c.if-rights.false ∙ r.0))) h),
)
