use Rattle.std.proofs.Common.{codes, true, false, arith}
use Rattle.fill_print.specs.Grammar.{greatest, Matched}
use Rattle.fill_print.specs.Numbers.{Number}
use Rattle.fill_print.specs.Reading.{Plain}
use Rattle.fill_print.specs.Seqs.{TokenSeq, AtStart}
use Rattle.fill_print.proofs.Chains.{exit, fails_in, both, done, in_first, in_rest, both_spelled, gives_spelled, plain_one, plain_spelled}
use Rattle.fill_print.proofs.Decimals.{number_one, number_spelled}
use Rattle.fill_print.proofs.Sequences.{token_seq_one, token_seq_spelled}
use Rattle.fill_print.specs.Tokens.{tokens_of}
use Rattle.fill_print.proofs.TokenNames.{digits_of}
use Rattle.fill_print.proofs.read.guards.matched.Goals as goal

pub returns-in_err-rest : goal.returns-in_err-rest
returns-in_err-rest c = exit _ _ _ _ (Plain (codes "Match(")) c.args.bytes.now c.from_residual.ensures.1 c.in_err-rest.ensures
    (λ left h. in_first h (λ u. both_spelled (number_spelled greatest 44 (omega arith)) (λ n. both_spelled (plain_spelled (codes "[")) (λ u. both_spelled (token_seq_spelled (tokens_of c.args.notation) (digits_of c.args.notation) true true false 2 (omega arith)) (λ r. both_spelled (plain_spelled (codes ",")) (λ u. both_spelled (number_spelled 3 41 (omega arith)) (λ n. gives_spelled _)))))))

pub returns-in_err-column : goal.returns-in_err-column
returns-in_err-column c = exit _ _ _ _ (Number greatest 44) c.in_ok-rest.rest.now c.from_residual-in_err-column.ensures.1 c.in_err-column.ensures
    (λ left h. in_rest (plain_one (codes "Match(")) c.in_ok-rest.ensures (in_first h (λ n. both_spelled (plain_spelled (codes "[")) (λ u. both_spelled (token_seq_spelled (tokens_of c.args.notation) (digits_of c.args.notation) true true false 2 (omega arith)) (λ r. both_spelled (plain_spelled (codes ",")) (λ u. both_spelled (number_spelled 3 41 (omega arith)) (λ n. gives_spelled _)))))))

pub returns-in_err-rest-2 : goal.returns-in_err-rest-2
returns-in_err-rest-2 c = exit _ _ _ _ (Plain (codes "[")) c.in_ok-column.rest.now c.from_residual-in_err-rest-2.ensures.1 c.in_err-rest-2.ensures
    (λ left h. in_rest (plain_one (codes "Match(")) c.in_ok-rest.ensures (in_rest (number_one greatest 44 (omega arith) (omega arith)) c.in_ok-column.ensures (in_first h (λ u. both_spelled (token_seq_spelled (tokens_of c.args.notation) (digits_of c.args.notation) true true false 2 (omega arith)) (λ r. both_spelled (plain_spelled (codes ",")) (λ u. both_spelled (number_spelled 3 41 (omega arith)) (λ n. gives_spelled _)))))))

pub returns-in-Err : goal.returns-in-Err
returns-in-Err c = fails_in (TokenSeq (tokens_of c.args.notation) true true (AtStart 2 false)) (Matched (tokens_of c.args.notation) c.args.negated) c.in_ok-rest-2.rest.now c.args.bytes.now c.in-Err.e
    (λ left h. in_rest (plain_one (codes "Match(")) c.in_ok-rest.ensures (in_rest (number_one greatest 44 (omega arith) (omega arith)) c.in_ok-column.ensures (in_rest (plain_one (codes "[")) c.in_ok-rest-2.ensures (in_first h (λ r. both_spelled (plain_spelled (codes ",")) (λ u. both_spelled (number_spelled 3 41 (omega arith)) (λ n. gives_spelled _))))))) c.in-Err.ensures

pub returns-in_err-rest-3 : goal.returns-in_err-rest-3
returns-in_err-rest-3 c = exit _ _ _ _ (Plain (codes ",")) c.in-Ok.read.1.now c.from_residual-in_err-rest-3.ensures.1 c.in_err-rest-3.ensures
    (λ left h. in_rest (plain_one (codes "Match(")) c.in_ok-rest.ensures (in_rest (number_one greatest 44 (omega arith) (omega arith)) c.in_ok-column.ensures (in_rest (plain_one (codes "[")) c.in_ok-rest-2.ensures (in_rest (token_seq_one (tokens_of c.args.notation) true true (AtStart 2 false)) c.in-Ok.ensures (in_first h (λ u. both_spelled (number_spelled 3 41 (omega arith)) (λ n. gives_spelled _)))))))

pub returns-in_err-least : goal.returns-in_err-least
returns-in_err-least c = exit _ _ _ _ (Number 3 41) c.in_ok-rest-3.rest.now c.from_residual-in_err-least.ensures.1 c.in_err-least.ensures
    (λ left h. in_rest (plain_one (codes "Match(")) c.in_ok-rest.ensures (in_rest (number_one greatest 44 (omega arith) (omega arith)) c.in_ok-column.ensures (in_rest (plain_one (codes "[")) c.in_ok-rest-2.ensures (in_rest (token_seq_one (tokens_of c.args.notation) true true (AtStart 2 false)) c.in-Ok.ensures (in_rest (plain_one (codes ",")) c.in_ok-rest-3.ensures (in_first h (λ n. gives_spelled _)))))))

pub returns : goal.returns
returns c = both c.in_ok-rest.ensures (both c.in_ok-column.ensures (both c.in_ok-rest-2.ensures (both c.in-Ok.ensures (both c.in_ok-rest-3.ensures (both c.in_ok-least.ensures done)))))
