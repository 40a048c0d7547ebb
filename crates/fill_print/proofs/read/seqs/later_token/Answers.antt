use Rattle.std.proofs.Common.{◌∷◌, false, refl, ap, ◌∙◌, arith, codes}
use Rattle.fill_print.specs.Seqs.{Later}
use Rattle.fill_print.specs.Tokens.{TokenFront, tokens_of}
use Rattle.fill_print.proofs.Chains.{exit, both, done, in_first, in_rest, gives_spelled, plain_one, plain_takes, via, via_halts}
use Rattle.fill_print.proofs.Sequences.{later_at, later_empty, later_halts, bracket}
use Rattle.fill_print.proofs.read.seqs.later_token.Goals as goal

pub returns-in-None : goal.returns-in-None
returns-in-None c = later_empty (tokens_of c.args.notation) c.args.starts c.args.ends c.args.room c.args.bytes.now c.in-None.ensures

pub returns-then-byte-eq93 : goal.returns-then-byte-eq93
returns-then-byte-eq93 c = bracket (tokens_of c.args.notation) c.args.starts c.args.ends (Later c.args.room) c.args.bytes.now c.in-Some.after.now refl (c.in-Some.ensures ∙ ap (λ x. x ∷ c.in-Some.after.now) c.if-byte-eq93.true)

pub returns-then-room-eq0 : goal.returns-then-room-eq0
returns-then-room-eq0 c = later_halts (tokens_of c.args.notation) c.args.starts c.args.ends c.args.room c.in-Some.byte c.args.bytes.now c.in-Some.after.now c.in-Some.ensures c.if-byte-eq93.false (λ e. c.if-room-eq0.true)

pub returns-in_err-token-in-Some : goal.returns-in_err-token-in-Some
returns-in_err-token-in-Some c =
    let blank = c.in-Some.ensures ∙ ap (λ x. x ∷ c.in-Some.after.now) c.if-byte-eq32.true in
    exit _ _ _ _ (TokenFront (tokens_of c.args.notation) false c.args.ends) c.in-Some.after.now c.from_residual.ensures.1 c.in_err-token-in-Some.ensures
    (λ left h. via_halts (later_at (tokens_of c.args.notation) c.args.starts c.args.ends c.args.room (omega arith)) blank (in_rest (plain_one (codes " ")) (plain_takes (codes " ") c.args.bytes.now c.in-Some.after.now blank) (in_first h (λ t. gives_spelled _))))

pub returns-then-byte-eq32 : goal.returns-then-byte-eq32
returns-then-byte-eq32 c =
    let blank = c.in-Some.ensures ∙ ap (λ x. x ∷ c.in-Some.after.now) c.if-byte-eq32.true in
    via (later_at (tokens_of c.args.notation) c.args.starts c.args.ends c.args.room (omega arith)) (both (plain_takes (codes " ") c.args.bytes.now c.in-Some.after.now blank) (both c.in_ok-token-in-Some.ensures done))

pub returns-else-byte-eq32 : goal.returns-else-byte-eq32
returns-else-byte-eq32 c = later_halts (tokens_of c.args.notation) c.args.starts c.args.ends c.args.room c.in-Some.byte c.args.bytes.now c.in-Some.after.now c.in-Some.ensures c.if-byte-eq93.false (λ e. absurd (c.if-byte-eq32.false e))
