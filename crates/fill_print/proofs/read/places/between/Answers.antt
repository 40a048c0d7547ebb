use Rattle.std.proofs.Common.{codes, true, false, rules, arith, sym, subst, w32, FitsSigned}
use Rattle.std.proofs.lemmas.Int.{to_z-of_z}
use Rattle.fill_tokens.specs.declared.place.Place.TheVariants.{Pos}
use Rattle.fill_print.specs.Grammar.{Between, not_empty}
use Rattle.fill_print.specs.Ints.{Int}
use Rattle.fill_print.specs.Reading.{Plain, Takes}
use Rattle.fill_print.specs.Seqs.{TokenSeq, AtStart}
use Rattle.fill_print.proofs.Chains.{exit, fails_in, both, done, in_first, in_rest, both_spelled, gives_spelled, plain_one, plain_spelled}
use Rattle.fill_print.proofs.Sequences.{token_seq_one, token_seq_spelled}
use Rattle.fill_print.proofs.Signs.{int_spelled}
use Rattle.fill_print.specs.Tokens.{tokens_of}
use Rattle.fill_print.proofs.TokenNames.{digits_of}
use Rattle.fill_print.proofs.read.places.between.Goals as goal

pub returns-in_err-rest : goal.returns-in_err-rest
returns-in_err-rest c = exit _ _ _ _ (Plain (codes "Pos([")) c.args.bytes.now c.from_residual.ensures.1 c.in_err-rest.ensures
    (λ left h. in_first h (λ u. both_spelled (token_seq_spelled (tokens_of c.args.notation) (digits_of c.args.notation) true false true 3 (omega arith)) (λ r. both_spelled (plain_spelled (codes ",[")) (λ u. both_spelled (token_seq_spelled (tokens_of c.args.notation) (digits_of c.args.notation) false true (not_empty r) 3 (omega arith)) (λ q. both_spelled (plain_spelled (codes ",")) (λ u. both_spelled (int_spelled false 41) (λ z. gives_spelled _)))))))

pub returns-in-Err : goal.returns-in-Err
returns-in-Err c = fails_in (TokenSeq (tokens_of c.args.notation) true false (AtStart 3 true)) (Between (tokens_of c.args.notation)) c.in_ok-rest.rest.now c.args.bytes.now c.in-Err.e
    (λ left h. in_rest (plain_one (codes "Pos([")) c.in_ok-rest.ensures (in_first h (λ r. both_spelled (plain_spelled (codes ",[")) (λ u. both_spelled (token_seq_spelled (tokens_of c.args.notation) (digits_of c.args.notation) false true (not_empty r) 3 (omega arith)) (λ q. both_spelled (plain_spelled (codes ",")) (λ u. both_spelled (int_spelled false 41) (λ z. gives_spelled _))))))) c.in-Err.ensures

pub returns-in_err-rest-2 : goal.returns-in_err-rest-2
returns-in_err-rest-2 c = exit _ _ _ _ (Plain (codes ",[")) c.in-Ok.read.1.now c.from_residual-in_err-rest-2.ensures.1 c.in_err-rest-2.ensures
    (λ left h. in_rest (plain_one (codes "Pos([")) c.in_ok-rest.ensures (in_rest (token_seq_one (tokens_of c.args.notation) true false (AtStart 3 true)) c.in-Ok.ensures (in_first h (λ u. both_spelled (token_seq_spelled (tokens_of c.args.notation) (digits_of c.args.notation) false true (not_empty c.in-Ok.read.0) 3 (omega arith)) (λ q. both_spelled (plain_spelled (codes ",")) (λ u. both_spelled (int_spelled false 41) (λ z. gives_spelled _)))))))

pub returns-in-Err-right_seq : goal.returns-in-Err-right_seq
returns-in-Err-right_seq c = fails_in (TokenSeq (tokens_of c.args.notation) false true (AtStart 3 (not_empty c.in-Ok.read.0))) (Between (tokens_of c.args.notation)) c.in_ok-rest-2.rest.now c.args.bytes.now c.in-Err-right_seq.e
    (λ left h. in_rest (plain_one (codes "Pos([")) c.in_ok-rest.ensures (in_rest (token_seq_one (tokens_of c.args.notation) true false (AtStart 3 true)) c.in-Ok.ensures (in_rest (plain_one (codes ",[")) c.in_ok-rest-2.ensures (in_first h (λ q. both_spelled (plain_spelled (codes ",")) (λ u. both_spelled (int_spelled false 41) (λ z. gives_spelled _))))))) c.in-Err-right_seq.ensures

pub returns-in_err-rest-3 : goal.returns-in_err-rest-3
returns-in_err-rest-3 c = exit _ _ _ _ (Plain (codes ",")) c.in-Ok-right_seq.read.1.now c.from_residual-in_err-rest-3.ensures.1 c.in_err-rest-3.ensures
    (λ left h. in_rest (plain_one (codes "Pos([")) c.in_ok-rest.ensures (in_rest (token_seq_one (tokens_of c.args.notation) true false (AtStart 3 true)) c.in-Ok.ensures (in_rest (plain_one (codes ",[")) c.in_ok-rest-2.ensures (in_rest (token_seq_one (tokens_of c.args.notation) false true (AtStart 3 (not_empty c.in-Ok.read.0))) c.in-Ok-right_seq.ensures (in_first h (λ u. both_spelled (int_spelled false 41) (λ z. gives_spelled _)))))))

pub returns-in_err-count : goal.returns-in_err-count
returns-in_err-count c = exit _ _ _ _ (Int false 41) c.in_ok-rest-3.rest.now c.from_residual-in_err-count.ensures.1 c.in_err-count.ensures
    (λ left h. in_rest (plain_one (codes "Pos([")) c.in_ok-rest.ensures (in_rest (token_seq_one (tokens_of c.args.notation) true false (AtStart 3 true)) c.in-Ok.ensures (in_rest (plain_one (codes ",[")) c.in_ok-rest-2.ensures (in_rest (token_seq_one (tokens_of c.args.notation) false true (AtStart 3 (not_empty c.in-Ok.read.0))) c.in-Ok-right_seq.ensures (in_rest (plain_one (codes ",")) c.in_ok-rest-3.ensures (in_first h (λ z. gives_spelled _)))))))

pub returns : goal.returns
returns c =
    let fits : FitsSigned w32 c.in_ok-count.count = search rules in
    subst (λ z. Takes (Between (tokens_of c.args.notation)) c.args.bytes.now (Pos c.in-Ok.read.0 c.in-Ok-right_seq.read.0 z) c.in_ok-count.rest.now) (sym (to_z-of_z w32 c.in_ok-count.count fits))
    (both c.in_ok-rest.ensures (both c.in-Ok.ensures (both c.in_ok-rest-2.ensures (both c.in-Ok-right_seq.ensures (both c.in_ok-rest-3.ensures (both c.in_ok-count.ensures done))))))
