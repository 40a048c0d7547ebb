use Rattle.fill_tokens.specs.Span.{Begins}
use Rattle.fill_tokens.proofs.CountLaws.{count_unique, count_mono}
use Rattle.fill_tokens.proofs.laws.match_counts_are_unique.Goals as goal

pub returns-clause-one : goal.returns-clause-one
returns-clause-one c = λ r t. count_unique (Begins r t)

pub returns-clause-monotone : goal.returns-clause-monotone
returns-clause-monotone c = λ r t. count_mono (Begins r t)
