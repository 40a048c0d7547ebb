use Rattle.std.proofs.Common.{◌≡◌, ◌≢◌, ◌<◌, ℕ, slice_get, Some}
use Rattle.fill_tokens.specs.Token.{token_name}
use Rattle.fill_tokens.specs.declared.token.Token.{Token}
use Rattle.fill_tokens.proofs.token.Token.from_name.Given as goal

abbrev pub invariant-loop-token : goal.invariant-loop-token
invariant-loop-token l = (i : ℕ) (t : Token) → i < l.token-index → slice_get l.token-items i ≡ Some t → token_name t ≢ l.name
