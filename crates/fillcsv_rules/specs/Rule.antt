-- Rules as plain data, and the lines of their files.
use Rattle.std.specs.Prelude.{◌≡◌, ℕ, ◌≤◌, List, [], ◌∷◌, ◌++◌, length, map, All, Contains, Option, None, Some, IfSome, IsTrue, codes}
use Rattle.std.specs.Fmt.{decimal}
use Rattle.std.specs.List.{flat_map}
use Rattle.std.specs.Str.{is_utf8}
use Rattle.std.specs.List.Sorted.{IsStrictlyIncreasing}
use Rattle.fill_sheet.specs.Columns.{IsColumn}
use Rattle.fill_sheet.specs.Report.{record_text}
use Rattle.fill_sheet.specs.declared.columns.TheConstants.{MOST_INPUTS}
use Rattle.fill_tree.specs.Switch.{SwitchTree, switch_tree}
use Rattle.fill_print.specs.Notation.{switch_text}
use Rattle.fill_apply.specs.Saved.{columns_read}
use Rattle.fillcsv_options.specs.Words.{IsLookup, Key, LookupData, Table, lookup_data}
use Rattle.fillcsv_rules.specs.Lookups.{lookup_line}
use Rattle.fillcsv_rules.specs.declared.rule.Names.{Names}
use Rattle.fillcsv_rules.specs.declared.rule.Rule.{Rule}

-- a rule: the names of its columns where the sheet that it was learned on had a header, the columns that it reads and the one
-- that it fills as they stood there, the tables that it looks up in with their keys, and the conditional program
pub record RuleData : Type 0 where
  pub names : Option Names
  pub inputs : List ℕ
  pub output : ℕ
  pub lookups : List LookupData
  pub switch : SwitchTree

-- what a rule of the code stands for
abbrev pub rule_data : Rule → RuleData
rule_data r = record { names = r.names; inputs = r.inputs.items; output = r.output; lookups = map lookup_data r.lookups.items; switch = switch_tree r.switch }

-- the names are as many as the columns
abbrev pub AreNamesOf : List ℕ → Option Names → Type 0
AreNamesOf inputs names = IfSome names (λ n. length n.inputs ≡ length inputs)

-- a rule's file can hold the table or the key: its texts are UTF-8, and its columns have 32 bits
abbrev pub IsNamed : LookupData → Type 0
IsNamed (Table name file) = IsTrue (is_utf8 name) × IsTrue (is_utf8 file)
IsNamed (Key table columns) = IsTrue (is_utf8 table) × All (λ column. column ≤ 4294967295) columns

-- what is true of each rule
pub record IsRule (r : RuleData) : Type 0 where
  pub some : 1 ≤ length r.inputs
  pub few : length r.inputs ≤ MOST_INPUTS
  pub columns : All IsColumn r.inputs
  pub rises : IsStrictlyIncreasing r.inputs
  pub output : IsColumn r.output
  pub apart : ¬ (Contains r.inputs r.output)
  pub names : AreNamesOf r.inputs r.names
  pub lookups : All IsLookup r.lookups
  pub reads : All (Contains r.inputs) (columns_read r.switch.cases)

-- the lines of a rule's file that a header adds: one before the columns, and the names after them
abbrev pub header_lines : Option Names → List (List (List ℕ))
header_lines None = []
header_lines (Some names) = (codes "header" ∷ []) ∷ []

abbrev pub names_lines : Option Names → List (List (List ℕ))
names_lines None = []
names_lines (Some names) = (codes "names" ∷ names.inputs ++ names.output ∷ []) ∷ []

-- the lines of a rule's file, each the list of its fields
abbrev pub rule_lines : RuleData → List (List (List ℕ))
rule_lines r =
    (codes "rule" ∷ codes "1" ∷ []) ∷ header_lines r.names
    ++ (codes "inputs" ∷ map decimal r.inputs) ∷ (codes "output" ∷ decimal r.output ∷ []) ∷ names_lines r.names
    ++ map lookup_line r.lookups ++ (codes "switch" ∷ switch_text r.switch ∷ []) ∷ []

-- the bytes of a rule's file
unfoldable pub rule_text : RuleData → List ℕ
rule_text r = flat_map record_text (rule_lines r)
