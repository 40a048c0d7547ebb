use Rattle.std.proofs.Common.{◌≡◌, ◌∷◌, take}
use Rattle.fill_print.specs.Reading.{Halts}
use Rattle.fill_tokens.specs.declared.token.TheConstants.Token.{ALL}
use Rattle.fill_tokens.specs.declared.token.Token.TheVariants.{Digits}
use Rattle.fill_print.specs.Tokens.{TokenOf, tokens_of}
use Rattle.fill_print.proofs.read.tokens.read_token.Given as goal

abbrev pub invariant-loop-token : goal.invariant-loop-token
invariant-loop-token l = record {
  halts : Halts (TokenOf (tokens_of l.notation) l.start l.finish (Digits ∷ take l.token-index l.token-items)) l.bytes l.left;
  items : l.token-items ≡ ALL;
}
