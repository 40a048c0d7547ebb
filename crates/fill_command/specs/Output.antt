-- What a command writes of what it opened.
use Rattle.std.specs.Prelude.{◌≡◌, ℕ, ◌≤◌, List, ◌∷◌, Option, codes, length, map, take}
use Rattle.std.specs.Fmt.{decimal}
use Rattle.std.specs.Io.KnownBytes.{Appends}
use Rattle.fill_edge.specs.Outside.{AppendsPart}
use Rattle.fill_apply.specs.Applied.{AreAppliedRecords}
use Rattle.fill_open.specs.Apply.{Applied}
use Rattle.fill_open.specs.Command.{CommandData, apply, keys, made, replay}
use Rattle.fill_open.specs.Keys.{AreKeys}
use Rattle.fill_open.specs.declared.session.Ready.{Ready}
use Rattle.fill_output.specs.Fields.{report_text}
use Rattle.fill_output.specs.Fields.{Fields}
use Rattle.fill_report.specs.Report.{BeginsReport, IsReport}
use Rattle.fill_report.specs.Runs.{Written}
use Rattle.fill_space.specs.declared.ground.Ground.{Ground}
use Rattle.fill_command.specs.Asked.{Asked}

-- what a session's programs are learned over
abbrev pub ground_of : Ready → Ground
ground_of r = record { settings = r.script.settings; sheet = r.sheet; tables = r.tables }

-- the record of a key: the numbers of its columns
abbrev pub key_record : List ℕ → Fields
key_record key = codes "key" ∷ map decimal key

-- the records of keys, in order
abbrev pub keys_text : List (List ℕ) → List ℕ
keys_text all = report_text (map key_record all)

-- the records of the first n rows of an application were written, in order
abbrev pub WritesRows : Applied → ℕ → Option (List ℕ) → Option (List ℕ) → Type 0
WritesRows a n old new = (records : List Fields) × AreAppliedRecords a.sheet a.tables a.switch n records × Appends old new (report_text records)

-- a proper prefix of the records of the first n rows was written
abbrev pub WritesPartOfRows : Applied → ℕ → Option (List ℕ) → Option (List ℕ) → Type 0
WritesPartOfRows a n old new = (records : List Fields) × AreAppliedRecords a.sheet a.tables a.switch n records × AppendsPart old new (report_text records)

-- records of which none is a refusal, and which take no step
abbrev pub only : List Fields → Written
only records = record { records = records; refused = 0; term = 0 }

-- an application writes the records of its first n rows
abbrev pub AreRows : Applied → ℕ → Written → Type 0
AreRows a n w = (records : List Fields) × AreAppliedRecords a.sheet a.tables a.switch n records × (w ≡ only records)

-- all that a command writes: the report of a session, the record of each row, or that of each key
abbrev pub WritesAll : (command : CommandData) → Asked command → Written → Type 0
WritesAll (replay name) r w = IsReport (ground_of r) r.script.entries w
WritesAll (made n) r w = IsReport (ground_of r) r.script.entries w
WritesAll (apply names) a w = AreRows a (length a.sheet.rows) w
WritesAll (keys file) tables w = (all : List (List ℕ)) × AreKeys tables all × (w ≡ only (map key_record all))

-- the first records of it
abbrev pub WritesFirst : (command : CommandData) → Asked command → Written → Type 0
WritesFirst (replay name) r w = BeginsReport (ground_of r) r.script.entries w
WritesFirst (made n) r w = BeginsReport (ground_of r) r.script.entries w
WritesFirst (apply names) a w = (n : ℕ) × (n ≤ length a.sheet.rows) × AreRows a n w
WritesFirst (keys file) tables w = (all : List (List ℕ)) × AreKeys tables all × (n : ℕ) × (n ≤ length all) × (w ≡ only (map key_record (take n all)))
