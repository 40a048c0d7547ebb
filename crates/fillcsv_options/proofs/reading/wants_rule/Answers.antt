use Rattle.std.proofs.Common.{sym, string_bytes, ◌∙◌}
use Rattle.fillcsv_options.specs.Words.{is_rule_word}
use Rattle.fillcsv_options.proofs.Parts.{any_mapped}
use Rattle.fillcsv_options.proofs.reading.wants_rule.Goals as goal

pub returns : goal.returns
returns c = c.has_rule_word.ensures ∙ sym (any_mapped string_bytes is_rule_word c.args.words.now)
