use Rattle.std.proofs.Common.{◌≡◌, length, ap, sym, ◌∙◌}
use Rattle.fill_tokens.specs.Token.{token_number}
use Rattle.fill_arena.specs.Hash.{mixed, token_hash}
use Rattle.fill_arena.proofs.Folds.{fold_next}
use Rattle.fill_arena.proofs.hash.hash_seq.Goals as goal

pub loop-i-preserved : goal.loop-i-preserved
loop-i-preserved c =
    let t = c.token.result in
    let s = c.args.seq.now in
    let number : c.from.result ≡ token_number t = cc in
    c.mix-made-in-loop-i.ensures ∙ ap (λ n. mixed c.loop-i.made n) number ∙ ap (λ h. mixed h (token_number t)) c.loop-i.invariant ∙ sym (fold_next token_hash (mixed c.args.hash (length s)) s c.loop-i.i t c.token.ensures)
