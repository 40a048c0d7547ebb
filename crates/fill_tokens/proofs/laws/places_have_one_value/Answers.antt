use Rattle.fill_tokens.proofs.ValueLaws.{one_value, value_within}
use Rattle.fill_tokens.proofs.laws.places_have_one_value.Goals as goal

pub returns-clause-one : goal.returns-clause-one
returns-clause-one c = one_value

pub returns-clause-within : goal.returns-clause-within
returns-clause-within c = value_within
