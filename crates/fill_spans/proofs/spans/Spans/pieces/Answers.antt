use Rattle.std.proofs.Common.{◌≡◌, ◌-◌, ◌<◌, ◌≤◌, List, ℕ, arith, length, refl, sym, subst, slice_get, Some}
use Rattle.std.proofs.lemmas.Option.{slice_get_read}
use Rattle.fill_tokens.proofs.SeqOrder.{number_some}
use Rattle.fill_tokens.proofs.TokenLaws.{number_within}
use Rattle.fill_tokens.specs.Token.{token_number}
use Rattle.fill_tokens.specs.declared.token.TheConstants.{TOKEN_COUNT}
use Rattle.fill_tokens.specs.TokenSet.{IsTokenOf}
use Rattle.fill_spans.specs.declared.pieces.Pieces.{Pieces}
use Rattle.fill_spans.specs.Pieces.{ArePieces}
use Rattle.fill_spans.specs.View.{SpansView}
use Rattle.fill_spans.proofs.spans.Spans.pieces.Goals as goal

pub returns : goal.returns
returns c =
    let token = c.args.token in
    let rows : List Pieces = c.self.inside.rows.items in
    let row : Pieces = c.index.result.now in
    let some = number_some c.args.token in
    let most : token_number token ≤ TOKEN_COUNT = number_within token in
    let few = subst (λ (v : SpansView). IsTokenOf v.token_set token) (sym c.self.view_is) c.requires in
    let i : ℕ = c.from.result - 1 in
    let within : i < length rows = omega (arith, c.self.invariant.many) in
    let at : slice_get rows i ≡ Some row = slice_get_read rows (length rows) i row refl within c.index.ensures in
    subst (λ (v : SpansView). ArePieces token v.text row) c.self.view_is (c.self.invariant.each i row token at (omega arith) few)
