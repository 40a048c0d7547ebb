-- What the generated session opens: its script, and its sheet, of the number of rows that the command tells.
use Rattle.std.specs.Prelude.{ℕ, [], ◌∷◌, map, codes, Some, false}
use Rattle.std.specs.List.{range_with_len}
use Rattle.fill_text.specs.Data.{RowData, SheetData}
use Rattle.fill_sheet.specs.Sheet.{unless_empty}
use Rattle.fill_tree.specs.declared.profile.TheConstants.Profile as profile
use Rattle.fill_tree.specs.declared.user.Constants.TheVariants.{Any}
use Rattle.fill_script.specs.declared.script.Entry.TheVariants.{Programs, Count}
use Rattle.fill_script.specs.declared.script.Script.{Script}
use Rattle.fill_open.specs.Made.{made_cell, made_output}
use Rattle.fill_open.specs.declared.session.Ready.{Ready}

-- the row of a line: its one cell, and its output where it has one
abbrev pub made_row : ℕ → RowData
made_row line = record { cells = made_cell line ∷ []; given = unless_empty (made_output line) }

abbrev pub made_rows : ℕ → SheetData
made_rows n = record { inputs = 1 ∷ []; rows = map made_row (range_with_len 1 n) }

-- column 1 is the input, column 2 the output; the programs are asked for, and the counts of states
abbrev pub made_script : Script
made_script = record {
  sheet = codes "made.csv";
  header = false;
  inputs = 1 ∷ [];
  output = Some 2;
  tables = [];
  settings = record { depth = 1; constants = Any; profile = profile.FIRST };
  entries = Programs ∷ Count ∷ [];
}

abbrev pub made_ready : ℕ → Ready
made_ready n = record { script = made_script; sheet = made_rows n; tables = [] }
