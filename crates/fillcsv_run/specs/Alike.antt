-- What a saved rule gives on the sheet that it was learned on.
use Rattle.fill_tree.specs.Switch.{SwitchTree}
use Rattle.fillcsv_rule_runs.specs.Loaded.{LoadedData}
use Rattle.fillcsv_options.specs.Words.{AskedData}
use Rattle.fillcsv_run.specs.Opening.{SheetRead}
use Rattle.fillcsv_run.specs.Saved.{frame_of, rule_with}

-- the rule that is saved with this program, and the tables that it was learned with
abbrev pub learned : AskedData → SheetRead → SwitchTree → LoadedData
learned asked read switch = record { rule = rule_with (frame_of asked read) switch; tables = read.tables }
