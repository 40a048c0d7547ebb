use Rattle.std.proofs.Common.{None, inl, inr, ⊎_elim, sym, ◌∙◌}
use Rattle.std.proofs.lemmas.Bool.{false≢true}
use Rattle.fill_doubt.proofs.Ways.{lack_none}
use Rattle.fill_doubt.proofs.conditions.lack.Goals as goal

pub returns-then-first : goal.returns-then-first
returns-then-first c = λ rest lacks some. (
  (λ t. (lack_none c.args.first.now rest).0 (inl (c.if-first.true, some.0 t))),
  (λ h. ⊎_elim (λ l. some.1 l.1) (λ r. some.1 (None, r.0)) ((lack_none c.args.first.now rest).1 h)),
)

pub returns-then-not-lacks : goal.returns-then-not-lacks
returns-then-not-lacks c = λ rest lacks some. (
  (λ t. absurd (false≢true t)),
  (λ h. ⊎_elim (λ l. absurd (false≢true (sym c.if-first.false ∙ l.0))) (λ r. absurd (false≢true (sym c.if-not-lacks.true ∙ lacks.1 r.0))) ((lack_none c.args.first.now rest).1 h)),
)

pub returns : goal.returns
returns c = λ rest lacks some. (
  (λ t. (lack_none c.args.first.now rest).0 (inr (lacks.0 c.if-not-lacks.false, c.is_some.ensures.0 t))),
  (λ h. c.is_some.ensures.1 (⊎_elim (λ l. absurd (false≢true (sym c.if-first.false ∙ l.0))) (λ r. r.1) ((lack_none c.args.first.now rest).1 h))),
)
