-- The tokens of a sequence, one after the other.
use Rattle.std.proofs.Common.{◌≡◌, ◌<◌, ◌≤◌, ◌+◌, ℕ, List, length, slice_get, Some, All, take, subst, sym}
use Rattle.std.proofs.lemmas.List.{take_all}
use Rattle.std.proofs.lemmas.List.Elements.{All-more}
use Rattle.std.proofs.lemmas.Option.{get_or_from_slice_get}
use Rattle.fill_tokens.specs.TokenSet.{IsTokenOf}
use Rattle.fill_tokens.specs.declared.token.Token.{Token}
use Rattle.fill_tokens.specs.declared.token_set.TokenSet.{TokenSet}

pub tokens_more : (token_set : TokenSet) (r : List Token) (i : ℕ) (x : Token) → i < length r → slice_get r i ≡ Some x →
    All (IsTokenOf token_set) (take i r) → IsTokenOf token_set x → All (IsTokenOf token_set) (take (i + 1) r)
tokens_more token_set r i x l e h k = All-more (IsTokenOf token_set) r i x l h (subst (IsTokenOf token_set) (sym (get_or_from_slice_get r i x x e)) k)

pub tokens_all : (token_set : TokenSet) (r : List Token) (i : ℕ) → length r ≤ i → All (IsTokenOf token_set) (take i r) → All (IsTokenOf token_set) r
tokens_all token_set r i l h = subst (All (IsTokenOf token_set)) (take_all i r l) h

pub token_within : (token_set : TokenSet) (r : List Token) (i : ℕ) (x : Token) → i < length r → slice_get r i ≡ Some x →
    All (IsTokenOf token_set) r → IsTokenOf token_set x
token_within token_set r i x l e h = subst (IsTokenOf token_set) (get_or_from_slice_get r i x x e) (h i x l)
