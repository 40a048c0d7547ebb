use Rattle.std.proofs.Common.{◌∷◌, ◌++◌, [], ap, sym, ◌∙◌, arith}
use Rattle.fill_print.proofs.Sides.{one_token, two_tokens}
use Rattle.fill_print.proofs.read.seqs.with_token.Goals as goal

pub returns-then-size-eq1 : goal.returns-then-size-eq1
returns-then-size-eq1 c = c.two.ensures ∙ ap (λ ts. ts ++ c.args.token ∷ []) (sym (one_token c.args.tokens.now c.token-first.result (sym c.len-size.ensures.value ∙ c.if-size-eq1.true) c.token-first.ensures))

pub returns : goal.returns
returns c =
    let size = c.len-size.ensures.value in
    let small = c.requires in
    let some = c.if-size-eq0.false in
    let more = c.if-size-eq1.false in
    c.three.ensures ∙ ap (λ ts. ts ++ c.args.token ∷ []) (sym (two_tokens c.args.tokens.now c.token-first.result c.token-second.result (omega (arith, size, small, some, more)) c.token-first.ensures c.token-second.ensures))
