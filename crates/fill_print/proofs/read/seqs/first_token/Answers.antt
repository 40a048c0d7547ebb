use Rattle.std.proofs.Common.{◌∷◌, ap, ◌∙◌}
use Rattle.fill_print.specs.Tokens.{TokenFront, tokens_of}
use Rattle.fill_print.proofs.Chains.{exit, in_first, gives_spelled, via_halts}
use Rattle.fill_print.specs.Seqs.{AtStart}
use Rattle.fill_print.proofs.Sequences.{start_token, start_empty, start_closed, bracket}
use Rattle.fill_print.proofs.TokenNames.{digits_of}
use Rattle.fill_print.proofs.read.seqs.first_token.Goals as goal

pub returns-in-None : goal.returns-in-None
returns-in-None c = start_empty (tokens_of c.args.notation) (digits_of c.args.notation) c.args.starts c.args.ends c.args.room c.args.may_end c.args.bytes.now c.requires c.in-None.ensures

pub returns-then-may_end : goal.returns-then-may_end
returns-then-may_end c = bracket (tokens_of c.args.notation) c.args.starts c.args.ends (AtStart c.args.room c.args.may_end) c.args.bytes.now c.in-Some.after.now c.if-may_end.true (c.in-Some.ensures ∙ ap (λ x. x ∷ c.in-Some.after.now) c.if-byte-eq93.true)

pub returns-then-byte-eq93 : goal.returns-then-byte-eq93
returns-then-byte-eq93 c = start_closed (tokens_of c.args.notation) (digits_of c.args.notation) c.args.starts c.args.ends c.args.room c.args.may_end c.args.bytes.now c.in-Some.after.now c.requires c.if-may_end.false (c.in-Some.ensures ∙ ap (λ x. x ∷ c.in-Some.after.now) c.if-byte-eq93.true)

pub returns-in_err-token-in-Some : goal.returns-in_err-token-in-Some
returns-in_err-token-in-Some c = exit _ _ _ _ (TokenFront (tokens_of c.args.notation) c.args.starts c.args.ends) c.args.bytes.now c.from_residual.ensures.1 c.in_err-token-in-Some.ensures
    (λ left h. via_halts (start_token (tokens_of c.args.notation) c.args.starts c.args.ends c.args.room c.in-Some.byte c.args.may_end c.requires c.if-byte-eq93.false) c.in-Some.ensures (in_first h (λ t. gives_spelled _)))
