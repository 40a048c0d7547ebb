use Rattle.std.proofs.Common.{◌≡◌, ◌∙◌, arith, length, ap, ◌++◌, ◌∷◌, []}
use Rattle.fill_tokens.proofs.SeqOrder.{one_is, two_is}
use Rattle.fill_places.proofs.lefts.followed.Goals as goal

pub returns-in-1 : goal.returns-in-1
returns-in-1 c =
    let e : length c.args.seq.now ≡ 1 = omega (arith, c.in-1.is) in
    c.two.ensures ∙ ap (λ z. z ++ c.args.token ∷ []) (one_is c.args.seq.now c.token.result e c.token.ensures)

pub returns-in_default : goal.returns-in_default
returns-in_default c =
    let e : length c.args.seq.now ≡ 2 = omega arith in
    c.three.ensures ∙ ap (λ z. z ++ c.args.token ∷ []) (two_is c.args.seq.now c.token-in_default.result c.token-in_default-2.result e c.token-in_default.ensures c.token-in_default-2.ensures)
