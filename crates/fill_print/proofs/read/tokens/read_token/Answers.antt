use Rattle.std.proofs.Common.{◌≡◌, ◌∷◌, ◌+◌, min, take, get_or, refl, sym, ap, subst, ◌∙◌}
use Rattle.fill_print.specs.Reading.{Halts, Plain}
use Rattle.fill_tokens.specs.Token.{token_name}
use Rattle.fill_tokens.specs.declared.token.TheConstants.Token.{ALL}
use Rattle.fill_tokens.specs.declared.token.Token.TheVariants.{Start, Digits}
use Rattle.fill_print.specs.Tokens.{TokenOf, tokens_of}
use Rattle.fill_print.proofs.TokenNames.{digits_come, token_takes, token_start, next_more, next_passed, token_end, digits_of}
use Rattle.fill_print.proofs.read.tokens.read_token.Goals as goal

pub returns-in-Ok : goal.returns-in-Ok
returns-in-Ok c = token_takes (tokens_of c.args.notation) c.args.start c.args.finish Digits c.args.bytes.now c.in-Ok.rest.now (digits_come (tokens_of c.args.notation) c.args.start c.args.finish (digits_of c.args.notation)) c.in-Ok.ensures

pub loop-token-init : goal.loop-token-init
loop-token-init c = record { halts = token_start (tokens_of c.args.notation) (digits_of c.args.notation) c.args.start c.args.finish c.args.bytes.now c.in-Err-Bad.left (rw c.in-Err-Bad.field-0-is at c.in-Err-Bad.ensures); items = refl }

pub loop-token-preserved-then-not-can_come : goal.loop-token-preserved-then-not-can_come
loop-token-preserved-then-not-can_come c = record {
  halts = next_passed (tokens_of c.args.notation) c.args.start c.args.finish ALL Start c.loop-token.token-index c.args.bytes.now c.loop-token.left c.loop-token-test.true (sym c.can_come.ensures ∙ c.if-not-can_come.true) c.loop-token.invariant.halts;
  items = refl;
}

pub loop-token-preserved : goal.loop-token-preserved
loop-token-preserved c =
    let t = get_or ALL c.loop-token.token-index Start in
    let name : c.as_bytes.result.now ≡ token_name t = c.as_bytes.ensures.value ∙ c.name.ensures in
    let halt : Halts (Plain c.as_bytes.result.now) c.args.bytes.now c.in-Err-Bad-word.other = rw c.in-Err-Bad-word.field-0-is at c.in-Err-Bad-word.ensures in
    let nearest : c.nearer-left.result ≡ min c.loop-token.left c.in-Err-Bad-word.other = c.nearer-left.ensures ∙ ap (λ x. min c.loop-token.left x) c.in-Err-Bad-word.other-is in
    record {
      halts = subst (λ n. Halts (TokenOf (tokens_of c.args.notation) c.args.start c.args.finish (Digits ∷ take (c.loop-token.token-index + 1) ALL)) c.args.bytes.now n) (sym nearest) (next_more (tokens_of c.args.notation) c.args.start c.args.finish ALL Start c.loop-token.token-index c.args.bytes.now c.loop-token.left c.in-Err-Bad-word.other c.loop-token-test.true (sym c.can_come.ensures ∙ c.if-not-can_come.false) c.loop-token.invariant.halts
          (subst (λ w. Halts (Plain w) c.args.bytes.now c.in-Err-Bad-word.other) name halt));
      items = refl;
    }

pub returns : goal.returns
returns c = token_end (tokens_of c.args.notation) c.args.start c.args.finish c.loop-token.token-index c.args.bytes.now c.loop-token.left c.loop-token-test.false c.loop-token.invariant.halts
