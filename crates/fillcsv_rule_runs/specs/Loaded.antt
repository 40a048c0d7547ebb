-- Rules with their tables.
use Rattle.std.specs.Prelude.{List}
use Rattle.fill_text.specs.Data.{TableData}
use Rattle.fillcsv_rules.specs.Rule.{RuleData, rule_data}
use Rattle.fillcsv_rule_runs.specs.declared.loaded.LoadedRule.{LoadedRule}

-- a rule, and the tables that it looks up in
pub record LoadedData : Type 0 where
  pub rule : RuleData
  pub tables : List TableData

-- what a rule of the code with its tables stands for
abbrev pub loaded_data : LoadedRule → LoadedData
loaded_data l = record { rule = rule_data l.rule; tables = l.tables }
