use Rattle.std.proofs.Common.{◌≡◌, sym, ◌∙◌, arith, Ok, true, subst}
use Rattle.std.specs.Fmt.{decimal}
use Rattle.std.proofs.lemmas.Fmt.{parse-decimal}
use Rattle.fill_numbers.proofs.Numbers.{decimal_text, number_of_decimal, number_of_others}
use Rattle.fill_numbers.proofs.number.number_in.Goals as goal

pub returns-in_default : goal.returns-in_default
returns-in_default c = sym (number_of_others c.args.bytes.now (λ n lt e. c.in_default.ensures.cases.0 (decimal_text n c.args.bytes.now lt e)))

pub returns-in_default-parse : goal.returns-in_default-parse
returns-in_default-parse c = sym (number_of_others c.args.bytes.now (λ n lt e.
    let read : c.parse.result ≡ Ok n = parse-decimal 32 n c.in-Ok.text.now c.parse.result lt (omega arith) (c.in-Ok.ensures.cases.0 ∙ sym e) c.parse.ensures.value.0 in
    let not : _ ≡ _ = c.in_default-parse.is in
    cc))

pub returns-then-not-is_decimal : goal.returns-then-not-is_decimal
returns-then-not-is_decimal c = sym (number_of_others c.args.bytes.now (λ n lt e.
    let read : c.parse.result ≡ Ok n = parse-decimal 32 n c.in-Ok.text.now c.parse.result lt (omega arith) (c.in-Ok.ensures.cases.0 ∙ sym e) c.parse.ensures.value.0 in
    let same : n ≡ c.in-Ok-parse.number = let is : _ ≡ _ = c.in-Ok-parse.is in cc in
    let holds : c.is_decimal.result ≡ true = c.is_decimal.ensures.1 (subst (λ m. decimal m ≡ c.args.bytes.now) same e) in
    let not : _ ≡ _ = c.if-not-is_decimal.true in
    cc))

pub returns : goal.returns
returns c = sym (number_of_decimal c.in-Ok-parse.number c.args.bytes.now (omega arith) (c.is_decimal.ensures.0 c.if-not-is_decimal.false))
