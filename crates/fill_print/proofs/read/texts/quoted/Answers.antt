use Rattle.std.proofs.Common.{rules, ◌≡◌, true, [], ◌++◌, arith, ◌∷◌, sym, subst, ap, ◌∙◌, Some}
use Rattle.std.specs.Prelude.{encode_utf8, string_bytes}
use Rattle.std.specs.Str.{chars}
use Rattle.std.proofs.lemmas.Grind.{common_steps}
use Rattle.fill_print.specs.Reading.{Takes}
use Rattle.fill_print.specs.Texts.{CharStep, and_then_may_end, Quoted}
use Rattle.fill_print.proofs.Chains.{Leads, exit, leads_start, leads_more, leads_end, leads_halts}
use Rattle.fill_print.proofs.Quotes.{step_one, text_completes, step_shrinks}
use Rattle.std.proofs.lemmas.Str.{IsUtf8-string_bytes}
use Rattle.fill_print.proofs.Strings.{chars_more, no_chars}
use Rattle.fill_print.proofs.read.texts.quoted.Goals as goal

pub loop-spelled-init : goal.loop-spelled-init
loop-spelled-init c = subst (λ x. Leads (Quoted c.args.may_be_empty) (Quoted c.args.may_be_empty) x c.args.bytes.now c.args.bytes.now) (sym (no_chars (string_bytes c.new-spelled.result) (search rules))) (leads_start (Quoted c.args.may_be_empty) c.args.bytes.now)

pub returns-in_err-next : goal.returns-in_err-next
returns-in_err-next c =
    exit _ _ _ _ (CharStep c.loop-spelled.may_end) c.loop-spelled.rest.now c.from_residual.ensures.1 c.in_err-next.ensures
    (λ left h. leads_halts CharStep and_then_may_end (Quoted c.args.may_be_empty) c.loop-spelled.may_end (text_completes c.loop-spelled.may_end) (chars (string_bytes c.loop-spelled.spelled)) c.args.bytes.now c.loop-spelled.rest.now left c.loop-spelled.invariant h)

pub returns-in_default : goal.returns-in_default
returns-in_default c =
    let text : c.in-Ok.text ≡ (chars (string_bytes c.loop-spelled.spelled)) = c.in-Ok.ensures.ok ∙ ap chars c.as_bytes.ensures.value in
    subst (λ x. Takes (Quoted c.args.may_be_empty) c.args.bytes.now x c.in_ok-next.after.now) (sym text)
    (leads_end CharStep and_then_may_end (Quoted c.args.may_be_empty) c.loop-spelled.may_end (chars (string_bytes c.loop-spelled.spelled)) c.args.bytes.now c.loop-spelled.rest.now c.in_ok-next.after.now c.loop-spelled.invariant
    (subst (λ x. Takes (CharStep c.loop-spelled.may_end) c.loop-spelled.rest.now x c.in_ok-next.after.now) c.in_default.is c.in_ok-next.ensures))

pub loop-spelled-preserved : goal.loop-spelled-preserved
loop-spelled-preserved c =
    let read : Takes (CharStep c.loop-spelled.may_end) c.loop-spelled.rest.now (Some c.in-Some.c) c.in_ok-next.after.now = subst (λ x. Takes (CharStep c.loop-spelled.may_end) c.loop-spelled.rest.now x c.in_ok-next.after.now) c.in-Some.is c.in_ok-next.ensures in
    let pushed : string_bytes c.push.new.self ≡ string_bytes c.loop-spelled.spelled ++ encode_utf8 c.in-Some.c = grind (arith, common_steps) in
    let items : chars (string_bytes c.push.new.self) ≡ (chars (string_bytes c.loop-spelled.spelled)) ++ c.in-Some.c ∷ [] = ap chars pushed ∙ chars_more (string_bytes c.loop-spelled.spelled) c.in-Some.c (IsUtf8-string_bytes c.loop-spelled.spelled) (read.spelled []).0 in
    subst (λ x. Leads (Quoted c.args.may_be_empty) (Quoted true) x c.args.bytes.now c.in_ok-next.after.now) (sym items)
    (leads_more CharStep and_then_may_end (Quoted c.args.may_be_empty) c.loop-spelled.may_end (step_one c.loop-spelled.may_end) (chars (string_bytes c.loop-spelled.spelled)) c.in-Some.c c.args.bytes.now c.loop-spelled.rest.now c.in_ok-next.after.now c.loop-spelled.invariant read)

pub loop-spelled-smaller : goal.loop-spelled-smaller
loop-spelled-smaller c = step_shrinks c.loop-spelled.may_end c.in-Some.c c.loop-spelled.rest.now c.in_ok-next.after.now (subst (λ x. Takes (CharStep c.loop-spelled.may_end) c.loop-spelled.rest.now x c.in_ok-next.after.now) c.in-Some.is c.in_ok-next.ensures)
