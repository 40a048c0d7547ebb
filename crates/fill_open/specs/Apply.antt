-- The steps of applying a saved program: which files it reads, in what order they are checked, and what they open.
use Rattle.std.specs.Prelude.{◌≡◌, ◌⊎◌, ℕ, List, [], None, Some, Result, Contains, string_bytes, ⊤}
use Rattle.fill_text.specs.Data.{SheetData, TableData}
use Rattle.fill_edge.specs.Outside.{Files, Rose}
use Rattle.fill_tree.specs.Switch.{SwitchTree, switch_tree}
use Rattle.fill_script.specs.declared.script.Script.{Script}
use Rattle.fill_apply.specs.Saved.{SavedIs}
use Rattle.fill_apply.specs.declared.error.ApplyError.{ApplyError}
use Rattle.fill_opening.specs.Opened.{Held, Told, Opened, Opening, Unread, Refused, Passed, at_once, and_then, checked}
use Rattle.fill_open.specs.Refusal.{RefusalData, refusal}
use Rattle.fill_open.specs.Steps.{file_opens, script_opens, sheet_opens, tables_open}
use Rattle.fill_opening.specs.Stops.{Counts}
use Rattle.fill_open.specs.declared.apply.Application.{Application}
use Rattle.fill_open.specs.declared.fault.Fault.TheVariants as fault
use Rattle.fill_opening.specs.declared.stop.Stop.{Stop}
use Rattle.fill_opening.specs.declared.stop.Stop.TheVariants as stop

-- the names of the session, of the report with the program, and of the sheet
pub record Names : Type 0 where
  pub session : List ℕ
  pub program : List ℕ
  pub sheet : List ℕ

abbrev pub named : List ℕ → List ℕ → List ℕ → Names
named session program sheet = record { session = session; program = program; sheet = sheet }

-- a conditional program, the sheet on whose rows it is run, and the tables in which it looks up
pub record Applied : Type 0 where
  pub switch : SwitchTree
  pub sheet : SheetData
  pub tables : List TableData

-- what an application of the code stands for
abbrev pub application_data : Application → Applied
application_data a = record { switch = switch_tree a.switch; sheet = a.sheet; tables = a.tables }

-- what comes of a report's bytes
abbrev pub Reading : Type 0
Reading = Result SwitchTree ApplyError

-- the report's bytes are checked, of which this comes
abbrev pub program_in : List ℕ → Reading → Opened RefusalData SwitchTree
program_in program r = checked (λ e. refusal program (fault.Program e)) r

-- what may stop the check of a report's bytes for these inputs; out of memory is free
abbrev pub ProgramRefuses : List ℕ → List ℕ → List ℕ → Stop RefusalData → Type 0
ProgramRefuses inputs program bytes (stop.Unread name) = ⊥
ProgramRefuses inputs program bytes (stop.Refused why) = (r : Reading) × SavedIs inputs bytes r × (program_in program r ≡ Refused why)
ProgramRefuses inputs program bytes stop.NoMemory = ⊤

-- a script, a conditional program and its sheet, and then the tables and keys of the script
abbrev pub with_sheet : Held → Names → Script → SwitchTree → SheetData → Opening RefusalData Applied
with_sheet held names script s sheet =
    and_then (tables_open held names.session [] script.tables) (λ tables. at_once (Passed (record { switch = s; sheet = sheet; tables = tables })))

-- a script and a conditional program, and then the sheet, of which no output is read, and the rest
abbrev pub with_program : Held → Names → Script → SwitchTree → Opening RefusalData Applied
with_program held names script s = and_then (sheet_opens held script None names.sheet) (with_sheet held names script s)

-- a script and the bytes of a report, and then what comes of them and the rest
abbrev pub with_report : Held → Names → Script → Reading → Opening RefusalData Applied
with_report held names script r = and_then (at_once (program_in names.program r)) (with_program held names script)

-- a script, and then the report's file and the rest
abbrev pub with_script : Reading → Names → Held → Script → Opening RefusalData Applied
with_script r names held script = and_then (file_opens held names.program) (λ bytes. with_report held names script r)

-- a session file, the report, of which this comes, its sheet, and then the tables and keys of the session
abbrev pub apply_opens : Reading → Names → Held → Opening RefusalData Applied
apply_opens r names held = and_then (script_opens held names.session) (with_script r names held)

-- this comes of the report, where the steps come to its check
abbrev pub IsReading : Names → Held → Reading → Type 0
IsReading names held r =
    (script : Script) (bytes : List ℕ) → (script_opens held names.session).outcome ≡ Passed script → (file_opens held names.program).outcome ≡ Passed bytes → SavedIs script.inputs bytes r

-- the steps end with this
abbrev pub AppliedIs : Names → Held → Opened RefusalData Applied → Type 0
AppliedIs names held how = (r : Reading) × IsReading names held r × ((apply_opens r names held).outcome ≡ how)

-- the steps come to a file
abbrev pub ComesTo : Names → Held → List ℕ → Type 0
ComesTo names held name = (r : Reading) → IsReading names held r → Contains (apply_opens r names held).reads name

-- the file of the name is the next to read and is not there, or a read of it failed in this call
abbrev pub ApplyUnread : Names → Files → Counts → Counts → List ℕ → Type 0
ApplyUnread names None before now name = Rose (before name) (now name)
ApplyUnread names (Some held) before now name = AppliedIs names held (Unread name) ⊎ (ComesTo names held name × Rose (before name) (now name))

-- what may stop the steps; out of memory is free
abbrev pub ApplyStops : Names → Files → Counts → Counts → Stop RefusalData → Type 0
ApplyStops names files before now (stop.Unread name) = ApplyUnread names files before now (string_bytes name)
ApplyStops names files before now (stop.Refused why) = Told files (λ held. AppliedIs names held (Refused why))
ApplyStops names files before now stop.NoMemory = ⊤
