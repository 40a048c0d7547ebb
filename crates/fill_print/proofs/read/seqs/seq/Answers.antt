use Rattle.std.proofs.Common.{◌≡◌, ◌<◌, ◌+◌, ◌∷◌, [], ◌++◌, length, length-append, Some, sym, subst, ap, ◌∙◌, arith}
use Rattle.fill_print.specs.Reading.{Takes}
use Rattle.fill_print.specs.Seqs.{AtStart, Later, Spot, TokenStep, TokenSeq, after_token, room_after}
use Rattle.fill_print.proofs.Chains.{Leads, exit, leads_start, leads_more, leads_end, leads_halts}
use Rattle.fill_print.proofs.Sequences.{seq_step_one, seq_completes}
use Rattle.fill_print.proofs.Sides.{room_less}
use Rattle.fill_print.specs.Tokens.{tokens_of}
use Rattle.fill_print.proofs.read.seqs.seq.Goals as goal

pub returns-in_err-next : goal.returns-in_err-next
returns-in_err-next c =
    let p : Spot = AtStart c.args.room c.args.may_be_empty in
    exit _ _ _ _ (TokenStep (tokens_of c.args.notation) c.args.starts c.args.ends p) c.args.bytes.now c.from_residual.ensures.1 c.in_err-next.ensures
    (λ left h. leads_halts (TokenStep (tokens_of c.args.notation) c.args.starts c.args.ends) after_token (TokenSeq (tokens_of c.args.notation) c.args.starts c.args.ends p) p (seq_completes (tokens_of c.args.notation) c.args.starts c.args.ends p) [] c.args.bytes.now c.args.bytes.now left (leads_start (TokenSeq (tokens_of c.args.notation) c.args.starts c.args.ends p) c.args.bytes.now) h)

pub returns-in_default : goal.returns-in_default
returns-in_default c =
    let p : Spot = AtStart c.args.room c.args.may_be_empty in
    subst (λ xs. Takes (TokenSeq (tokens_of c.args.notation) c.args.starts c.args.ends p) c.args.bytes.now xs c.in_ok-next.after.now) (sym c.empty.ensures)
    (leads_end (TokenStep (tokens_of c.args.notation) c.args.starts c.args.ends) after_token (TokenSeq (tokens_of c.args.notation) c.args.starts c.args.ends p) p [] c.args.bytes.now c.args.bytes.now c.in_ok-next.after.now (leads_start (TokenSeq (tokens_of c.args.notation) c.args.starts c.args.ends p) c.args.bytes.now)
    (subst (λ x. Takes (TokenStep (tokens_of c.args.notation) c.args.starts c.args.ends p) c.args.bytes.now x c.in_ok-next.after.now) c.in_default.is c.in_ok-next.ensures))

pub loop-next-init : goal.loop-next-init
loop-next-init c =
    let p : Spot = AtStart c.args.room c.args.may_be_empty in
    let t = c.in-Some.token in
    let read : Takes (TokenStep (tokens_of c.args.notation) c.args.starts c.args.ends p) c.args.bytes.now (Some t) c.in_ok-next.after.now = subst (λ x. Takes (TokenStep (tokens_of c.args.notation) c.args.starts c.args.ends p) c.args.bytes.now x c.in_ok-next.after.now) c.in-Some.is c.in_ok-next.ensures in
    let items : c.one-tokens.result ≡ t ∷ [] = c.one-tokens.ensures in
    let room : room_after c.args.room t ≡ c.room_with-left.result = sym c.room_with-left.ensures in
    let less = room_less c.args.room t c.requires.some in
    record {
      read = subst (λ n. Leads (TokenSeq (tokens_of c.args.notation) c.args.starts c.args.ends p) (TokenSeq (tokens_of c.args.notation) c.args.starts c.args.ends (Later n)) c.one-tokens.result c.args.bytes.now c.in_ok-next.after.now) room
          (subst (λ xs. Leads (TokenSeq (tokens_of c.args.notation) c.args.starts c.args.ends p) (TokenSeq (tokens_of c.args.notation) c.args.starts c.args.ends (after_token p t)) xs c.args.bytes.now c.in_ok-next.after.now) (sym items)
          (leads_more (TokenStep (tokens_of c.args.notation) c.args.starts c.args.ends) after_token (TokenSeq (tokens_of c.args.notation) c.args.starts c.args.ends p) p (seq_step_one (tokens_of c.args.notation) c.args.starts c.args.ends p) [] t c.args.bytes.now c.args.bytes.now c.in_ok-next.after.now (leads_start (TokenSeq (tokens_of c.args.notation) c.args.starts c.args.ends p) c.args.bytes.now) read));
      few = (let n : length c.one-tokens.result ≡ 1 = ap length items in let f = c.requires.few in omega (arith, n, f, less, room));
    }

pub returns-in_err-next-2 : goal.returns-in_err-next-2
returns-in_err-next-2 c =
    let p : Spot = AtStart c.args.room c.args.may_be_empty in
    let q : Spot = Later c.loop-next.left in
    exit _ _ _ _ (TokenStep (tokens_of c.args.notation) c.args.starts c.args.ends q) c.loop-next.rest.now c.from_residual-in_err-next-2.ensures.1 c.in_err-next-2.ensures
    (λ left h. leads_halts (TokenStep (tokens_of c.args.notation) c.args.starts c.args.ends) after_token (TokenSeq (tokens_of c.args.notation) c.args.starts c.args.ends p) q (seq_completes (tokens_of c.args.notation) c.args.starts c.args.ends q) c.loop-next.tokens c.args.bytes.now c.loop-next.rest.now left c.loop-next.invariant.read h)

pub returns-in_default-next : goal.returns-in_default-next
returns-in_default-next c =
    let p : Spot = AtStart c.args.room c.args.may_be_empty in
    let q : Spot = Later c.loop-next.left in
    leads_end (TokenStep (tokens_of c.args.notation) c.args.starts c.args.ends) after_token (TokenSeq (tokens_of c.args.notation) c.args.starts c.args.ends p) q c.loop-next.tokens c.args.bytes.now c.loop-next.rest.now c.in_ok-next-2.after.now c.loop-next.invariant.read
    (subst (λ x. Takes (TokenStep (tokens_of c.args.notation) c.args.starts c.args.ends q) c.loop-next.rest.now x c.in_ok-next-2.after.now) c.in_default-next.is c.in_ok-next-2.ensures)

pub with_token-tokens-requires : goal.with_token-tokens-requires
with_token-tokens-requires c =
    let q : Spot = Later c.loop-next.left in
    let t = c.in-Some-next.token in
    let read : Takes (TokenStep (tokens_of c.args.notation) c.args.starts c.args.ends q) c.loop-next.rest.now (Some t) c.in_ok-next-2.after.now = subst (λ x. Takes (TokenStep (tokens_of c.args.notation) c.args.starts c.args.ends q) c.loop-next.rest.now x c.in_ok-next-2.after.now) c.in-Some-next.is c.in_ok-next-2.ensures in
    let some : 0 < c.loop-next.left = (read.spelled []).0 in
    let few = c.loop-next.invariant.few in
    omega (arith, some, few)

pub loop-next-preserved : goal.loop-next-preserved
loop-next-preserved c =
    let p : Spot = AtStart c.args.room c.args.may_be_empty in
    let q : Spot = Later c.loop-next.left in
    let t = c.in-Some-next.token in
    let read : Takes (TokenStep (tokens_of c.args.notation) c.args.starts c.args.ends q) c.loop-next.rest.now (Some t) c.in_ok-next-2.after.now = subst (λ x. Takes (TokenStep (tokens_of c.args.notation) c.args.starts c.args.ends q) c.loop-next.rest.now x c.in_ok-next-2.after.now) c.in-Some-next.is c.in_ok-next-2.ensures in
    let some : 0 < c.loop-next.left = (read.spelled []).0 in
    let less = room_less c.loop-next.left t some in
    let items : c.with_token-tokens.result ≡ c.loop-next.tokens ++ t ∷ [] = c.with_token-tokens.ensures in
    let size : length c.with_token-tokens.result ≡ length c.loop-next.tokens + 1 = ap length items ∙ length-append c.loop-next.tokens (t ∷ []) in
    let room : c.room_with-left-in-loop-next.result ≡ room_after c.loop-next.left t = c.room_with-left-in-loop-next.ensures in
    let few = c.loop-next.invariant.few in
    record {
      read = subst (λ n. Leads (TokenSeq (tokens_of c.args.notation) c.args.starts c.args.ends p) (TokenSeq (tokens_of c.args.notation) c.args.starts c.args.ends (Later n)) c.with_token-tokens.result c.args.bytes.now c.in_ok-next-2.after.now) (sym room)
          (subst (λ xs. Leads (TokenSeq (tokens_of c.args.notation) c.args.starts c.args.ends p) (TokenSeq (tokens_of c.args.notation) c.args.starts c.args.ends (after_token q t)) xs c.args.bytes.now c.in_ok-next-2.after.now) (sym items)
          (leads_more (TokenStep (tokens_of c.args.notation) c.args.starts c.args.ends) after_token (TokenSeq (tokens_of c.args.notation) c.args.starts c.args.ends p) q (seq_step_one (tokens_of c.args.notation) c.args.starts c.args.ends q) c.loop-next.tokens t c.args.bytes.now c.loop-next.rest.now c.in_ok-next-2.after.now c.loop-next.invariant.read read));
      few = omega (arith, size, less, room, few);
    }
