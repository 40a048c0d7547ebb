-- How a run ends, and what it leaves.
use Rattle.std.specs.Prelude.{◌≡◌, ◌⊎◌, ℕ, ◌≤◌, List, Bool, true, false, Option, None, Some, string_bytes, ⊤}
use Rattle.std.specs.Io.KnownBytes.{Keeps}
use Rattle.fill_edge.specs.Outside.{Files, Rose}
use Rattle.fill_open.specs.Command.{CommandData, apply, keys, made, replay}
use Rattle.fill_open.specs.Lines.{refusal_line, unread_line}
use Rattle.fill_opening.specs.Opened.{Told, Opened, Passed, Refused, Unread}
use Rattle.fill_open.specs.Refusal.{RefusalData}
use Rattle.fill_opening.specs.Stops.{Counts}
use Rattle.fill_report.specs.Output.{Writes, WritesPart, WritesRecords}
use Rattle.fill_command.specs.Asked.{Asked, IsRefused, Misses, Opens, StepsEnd, files_of}
use Rattle.fill_command.specs.Output.{WritesAll, WritesFirst}
use Rattle.fill_command.specs.declared.ending.Ending.{Ending}
use Rattle.fill_command.specs.declared.ending.Ending.TheVariants as ending

-- what a run meets, and what it leaves: the files, where they are told, and how many reads of each failed; what the output
-- got, where that is told, and how many writes to it failed; and how many steps were made
pub record World : Type 0 where
  pub files : Files
  pub unread : Counts
  pub out : Option (List ℕ)
  pub unwritten : ℕ
  pub steps : ℕ

abbrev pub world : Files → Counts → Option (List ℕ) → ℕ → ℕ → World
world files unread out unwritten steps = record { files = files; unread = unread; out = out; unwritten = unwritten; steps = steps }

-- nothing was written, and no step made
abbrev pub IsQuiet : World → World → Type 0
IsQuiet a b = Keeps a.out b.out × (b.steps ≡ a.steps)

-- the command opened this and all of it was written, with no more steps than it may take; the flag tells whether some
-- record of it is a refusal
abbrev pub WritesWhole : CommandData → Bool → World → World → Type 0
WritesWhole command refused a b = (x : Asked command) × Opens command a.files x × Writes (WritesAll command x) refused a.out b.out a.steps b.steps

-- the command opened this, and a proper prefix of its first records was written
abbrev pub WritesPrefix : CommandData → World → World → Type 0
WritesPrefix command a b = (x : Asked command) × Opens command a.files x × WritesPart (WritesFirst command x) a.out b.out a.steps b.steps

-- the command opened this, and its first records were written whole
abbrev pub WritesSome : CommandData → World → World → Type 0
WritesSome command a b = (x : Asked command) × Opens command a.files x × WritesRecords (WritesFirst command x) a.out b.out a.steps b.steps

-- a command ends so
abbrev pub Ends : CommandData → World → World → Ending → Type 0
Ends command a b ending.Done = WritesWhole command false a b
Ends command a b ending.Refusing = WritesWhole command true a b
Ends command a b ending.NoCommand = ⊥
Ends command a b (ending.Unread line) =
    (name : List ℕ) × Misses command (files_of command a.files) a.unread b.unread name × (string_bytes line ≡ unread_line name) × IsQuiet a b
Ends command a b ending.Unwritten = WritesPrefix command a b × Rose a.unwritten b.unwritten
Ends command a b (ending.Refused line) = (why : RefusalData) × IsRefused command a.files why × (string_bytes line ≡ refusal_line why) × IsQuiet a b
Ends command a b ending.NoMemory = IsQuiet a b ⊎ WritesSome command a b

-- a run ends so: as the command of its words, or at once where they are none
abbrev pub RunEnds : Option CommandData → World → World → Ending → Type 0
RunEnds None a b e = (e ≡ ending.NoCommand) × IsQuiet a b
RunEnds (Some command) a b e = Ends command a b e

-- steps that end so give one of these statuses
abbrev pub MayGive : {R A : Type 0} → Opened R A → ℕ → Type 0
MayGive (Unread name) status = (status ≡ 3) ⊎ (status ≡ 6)
MayGive (Refused why) status = (status ≡ 5) ⊎ (status ≡ 6) ⊎ (status ≡ 3)
MayGive (Passed x) status = (status ≤ 1) ⊎ (status ≡ 6) ⊎ (status ≡ 3) ⊎ (status ≡ 4)

-- the other way round: what the words and the files say of the status
abbrev pub Gives : Option CommandData → Files → ℕ → Type 0
Gives None files status = status ≡ 2
Gives (Some command) files status = Told (files_of command files) (λ held. (how : Opened RefusalData (Asked command)) → StepsEnd command held how → MayGive how status)

-- the command is a session, which alone makes steps
abbrev pub IsOfSession : Option CommandData → Type 0
IsOfSession None = ⊥
IsOfSession (Some (replay name)) = ⊤
IsOfSession (Some (made n)) = ⊤
IsOfSession (Some (apply names)) = ⊥
IsOfSession (Some (keys file)) = ⊥
