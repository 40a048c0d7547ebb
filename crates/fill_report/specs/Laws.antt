-- What the laws of reports say.
use Rattle.std.specs.Prelude.{◌≡◌, ℕ, ◌≤◌, List, Some, take}
use Rattle.fill_sheet.specs.Sheet.{IsSheet}
use Rattle.fill_tables.specs.Tables.{AreTables}
use Rattle.fill_tree.specs.Grammar.{AreSettings}
use Rattle.fill_tree.specs.Switch.{SwitchTree}
use Rattle.fill_tree.specs.declared.user.Example.{Example}
use Rattle.fill_print.specs.Rules.{IsSwitch}
use Rattle.fill_script.specs.declared.script.Entry.{Entry}
use Rattle.fill_space.specs.declared.ground.Ground.{Ground}
use Rattle.fill_session.specs.Answers.{switch_of}
use Rattle.fill_session.specs.Branches.{AreBranches, BranchData}
use Rattle.fill_report.specs.Report.{BeginsReport, IsReport}
use Rattle.fill_report.specs.Runs.{Written}

-- the entries of a script have at most one report
abbrev pub ReportIsOne : Type 0
ReportIsOne = (g : Ground) (entries : List Entry) (w v : Written) → IsReport g entries w → IsReport g entries v → w ≡ v

-- these are the first records of the whole, with no more steps than it may take
abbrev pub IsFrontOf : Written → Written → Type 0
IsFrontOf whole w = (n : ℕ) × (w.records ≡ take n whole.records) × (w.term ≤ whole.term)

-- a beginning of a report is the front of it
abbrev pub BeginningsAreFronts : Type 0
BeginningsAreFronts = (g : Ground) (entries : List Entry) (w whole : Written) → BeginsReport g entries w → IsReport g entries whole → IsFrontOf whole w

-- what settings, sheets and tables keep wherever they are handed in
pub record IsKept (g : Ground) : Type 0 where
  pub settings : AreSettings g.settings
  pub sheet : IsSheet g.sheet
  pub tables : AreTables g.tables

-- the conditional program of branches is one that the notation has by the tokens of the profile
abbrev pub SwitchIsSpelled : Type 0
SwitchIsSpelled = (g : Ground) (examples : List Example) (branches : List BranchData) (s : SwitchTree) →
    IsKept g → AreBranches g examples branches → switch_of branches ≡ Some s → IsSwitch g.settings.profile.tokens s
