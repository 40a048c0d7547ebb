use Rattle.fill_tokens.proofs.SpanLaws.{one_end, one_start, within}
use Rattle.fill_tokens.proofs.laws.tokens_span_one_piece.Goals as goal

pub returns-clause-end : goal.returns-clause-end
returns-clause-end c = one_end

pub returns-clause-start : goal.returns-clause-start
returns-clause-start c = one_start

pub returns-clause-within : goal.returns-clause-within
returns-clause-within c = within
