-- The rule that a run saves, and what its store holds then.
use Rattle.std.specs.Prelude.{◌≡◌, ℕ, List, map, Bool, true, false, Option, None, Some, option_map}
use Rattle.fill_records.specs.Records.{field_of}
use Rattle.fill_sheet.specs.Columns.{rising}
use Rattle.fill_tree.specs.Switch.{SwitchTree}
use Rattle.fill_tree.specs.declared.user.Example.{Example}
use Rattle.fill_space.specs.declared.ground.Ground.{Ground}
use Rattle.fill_session.specs.Answers.{switch_of}
use Rattle.fill_session.specs.Branches.{AreBranches, BranchData}
use Rattle.fill_output.specs.Fields.{Fields}
use Rattle.fill_files.specs.Saves.{SavedFiles, with_file}
use Rattle.fillcsv_rules.specs.Rule.{RuleData, rule_text}
use Rattle.fillcsv_rules.specs.declared.rule.Names.{Names}
use Rattle.fillcsv_options.specs.Words.{AskedData, LookupData, New, TargetData, There}
use Rattle.fillcsv_run.specs.Opening.{SheetRead, header_of, records_in}

-- the name of the column that is filled
abbrev pub output_name : TargetData → ℕ → Fields → List ℕ
output_name (There word) column header = field_of column header
output_name (New name) column header = name

-- what a rule has beside its program: the columns, which are those that it reads in rising order and the one that it fills, with
-- their names where the header of a sheet names them, and the tables that it looks up in
pub record FrameData : Type 0 where
  pub names : Option Names
  pub inputs : List ℕ
  pub output : ℕ
  pub lookups : List LookupData

-- their names in a header
abbrev pub rule_names : AskedData → SheetRead → Fields → Names
rule_names asked read header = record {
  inputs = map (λ column. field_of column header) (rising read.choice.from);
  output = output_name asked.to read.choice.to header;
}

-- the frame of the rule for a sheet
abbrev pub frame_of : AskedData → SheetRead → FrameData
frame_of asked read = record {
  names = option_map (rule_names asked read) (header_of asked.header (records_in read.bytes));
  inputs = rising read.choice.from;
  output = read.choice.to;
  lookups = asked.lookups;
}

-- that of the rule that is to be saved, if one is
abbrev pub saving_of : AskedData → SheetRead → Option FrameData
saving_of asked read = option_map (λ path. frame_of asked read) asked.save

-- the rule of a frame and a program
abbrev pub rule_with : FrameData → SwitchTree → RuleData
rule_with frame switch = record { names = frame.names; inputs = frame.inputs; output = frame.output; lookups = frame.lookups; switch = switch }

-- the text that is saved: that of the rule which is learned from these examples, where it is to be saved and there is one
abbrev pub IsSavedText : Option FrameData → Ground → List Example → Option (List ℕ) → Type 0
IsSavedText None g examples text = text ≡ None
IsSavedText (Some frame) g examples text = (branches : List BranchData) × AreBranches g examples branches
    × (text ≡ option_map (λ switch. rule_text (rule_with frame switch)) (switch_of branches))

-- a rule is to be saved, and there is none
abbrev pub lacks_rule : Option (List ℕ) → Option (List ℕ) → Bool
lacks_rule (Some path) None = true
lacks_rule _ _ = false

-- what a store holds, and how many saves failed
pub record StoreAt : Type 0 where
  pub files : SavedFiles
  pub faults : ℕ

-- the files of a store once a text is saved under a path
abbrev pub stored : Option (List ℕ) → Option (List ℕ) → SavedFiles → SavedFiles
stored (Some path) (Some text) files = with_file path text files
stored _ _ files = files
