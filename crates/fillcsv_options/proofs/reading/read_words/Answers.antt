use Rattle.std.proofs.Common.{map, string_bytes, subst, sym, ◌∙◌}
use Rattle.fillcsv_options.specs.Words.{IsRefusedBy}
use Rattle.fillcsv_options.proofs.OneKind.{asks_run, asks_sheet}
use Rattle.fillcsv_options.proofs.reading.read_words.Goals as goal

pub returns-in-Ok-clause-answer : goal.returns-in-Ok-clause-answer
returns-in-Ok-clause-answer c =
    asks_run (map string_bytes c.args.words.now) _ c.wants_rule.ensures c.if-wants_rule.true ∙ c.in-Ok.ensures

pub returns-in-Err-clause-answer : goal.returns-in-Err-clause-answer
returns-in-Err-clause-answer c =
    subst (λ m. IsRefusedBy m c.in-Err.why) (sym (asks_run (map string_bytes c.args.words.now) _ c.wants_rule.ensures c.if-wants_rule.true)) c.in-Err.ensures

pub returns-in-Ok-sheet_words-clause-answer : goal.returns-in-Ok-sheet_words-clause-answer
returns-in-Ok-sheet_words-clause-answer c =
    asks_sheet (map string_bytes c.args.words.now) _ c.wants_rule.ensures c.if-wants_rule.false ∙ c.in-Ok-sheet_words.ensures.answer

pub returns-in-Err-sheet_words-clause-answer : goal.returns-in-Err-sheet_words-clause-answer
returns-in-Err-sheet_words-clause-answer c =
    subst (λ m. IsRefusedBy m c.in-Err-sheet_words.why) (sym (asks_sheet (map string_bytes c.args.words.now) _ c.wants_rule.ensures c.if-wants_rule.false)) c.in-Err-sheet_words.ensures.answer
