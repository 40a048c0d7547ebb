use Rattle.std.proofs.Common.{sym, ◌∙◌}
use Rattle.std.proofs.lemmas.Bool.{false≢true}
use Rattle.fill_doubt.proofs.Ways.{have_front}
use Rattle.fill_doubt.proofs.conditions.have.Goals as goal

pub returns-then-not-some : goal.returns-then-not-some
returns-then-not-some c = λ rest some. (
  (λ t. absurd (false≢true t)),
  (λ h. absurd (false≢true (sym c.if-not-some.true ∙ some.1 ((have_front c.args.first.now rest).1 h).1))),
)

pub returns : goal.returns
returns c = λ rest some. (
  (λ t. (have_front c.args.first.now rest).0 (c.is_some.ensures.0 t, some.0 c.if-not-some.false)),
  (λ h. c.is_some.ensures.1 ((have_front c.args.first.now rest).1 h).0),
)
