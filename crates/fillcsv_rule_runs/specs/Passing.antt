-- One pass of a rule over records, part by part.
use Rattle.std.specs.Prelude.{◌≡◌, ◌⊎◌, ℕ, ◌+◌, List, [], ◌∷◌, ◌++◌, length, Bool, if◌then◌else◌, ⊤, Option, None, Some, Result, Ok, Err}
use Rattle.std.specs.Io.KnownBytes.{Appends}
use Rattle.fill_edge.specs.Outside.{AppendsPart, Rose}
use Rattle.fill_sheet.specs.Report.{record_text}
use Rattle.fill_sheet.specs.Sheet.{headers}
use Rattle.fill_stream.specs.Records.{Rows}
use Rattle.fill_stream.specs.declared.filter.Ending.{Ending}
use Rattle.fill_stream.specs.declared.filter.Ending.TheVariants as ending
use Rattle.fillcsv_rules.specs.Rule.{RuleData}
use Rattle.fillcsv_rules.specs.declared.rule.Names.{Names}
use Rattle.fillcsv_rule_runs.specs.Filled.{named_head}
use Rattle.fillcsv_rule_runs.specs.Loaded.{LoadedData}
use Rattle.fillcsv_rule_runs.specs.Places.{Misplaced, Missing, Ambiguous, PlacesData, head_of, places_by, places_in}
use Rattle.fillcsv_rule_runs.specs.Run.{IsBad, Writes, WritesPart, WritesSome}
use Rattle.fillcsv_rule_runs.specs.declared.pass.How.{How}
use Rattle.fillcsv_rule_runs.specs.declared.pass.How.TheVariants as how
use Rattle.fillcsv_rule_runs.specs.declared.places.Unplaced.{Unplaced}
use Rattle.fillcsv_rule_runs.specs.declared.places.Unplaced.TheVariants as unplaced
use Rattle.fillcsv_rule_runs.specs.declared.status.Status.{Status}
use Rattle.fillcsv_rule_runs.specs.declared.status.Status.TheVariants as status

-- a byte order mark, or nothing
abbrev pub mark_text : Bool → List ℕ
mark_text marked = if marked then 239 ∷ 187 ∷ 191 ∷ [] else []

-- what a pass that ended so has written of these records
abbrev pub EndsPass : LoadedData → How → List ℕ → Rows → Option (List ℕ) → Option (List ℕ) → Type 0
EndsPass r how.All mark rows old new = Writes r mark rows (length rows) old new
EndsPass r (how.NotText n column) mark rows old new = IsBad r.rule rows n column × Writes r mark rows n old new
EndsPass r (how.Missing name) mark rows old new = (places_in r.rule rows ≡ Err (Missing name.now)) × Appends old new []
EndsPass r (how.Ambiguous name) mark rows old new = (places_in r.rule rows ≡ Err (Ambiguous name.now)) × Appends old new []
EndsPass r how.WriteFault mark rows old new = WritesPart r mark rows old new
EndsPass r how.Broken mark rows old new = WritesSome r mark rows old new

-- the same, where records are known
abbrev pub PassWrites : LoadedData → How → List ℕ → Option Rows → Option (List ℕ) → Option (List ℕ) → Type 0
PassWrites r e mark None old new = ⊤
PassWrites r e mark (Some rows) old new = EndsPass r e mark rows old new

-- how a pass ends whose columns have no places
abbrev pub how_of : Unplaced → How
how_of (unplaced.Missing name) = how.Missing name
how_of (unplaced.Ambiguous name) = how.Ambiguous name
how_of unplaced.NoMemory = how.Broken

-- how a pass can end before it begins, where this comes of the places
abbrev pub FailsAs : {A : Type 0} → Result A Misplaced → How → Type 0
FailsAs placed (how.Missing name) = placed ≡ Err (Missing name.now)
FailsAs placed (how.Ambiguous name) = placed ≡ Err (Ambiguous name.now)
FailsAs placed how.Broken = ⊤
FailsAs placed how.All = ⊥
FailsAs placed (how.NotText n column) = ⊥
FailsAs placed how.WriteFault = ⊥

-- the same, where nothing is known of the places
abbrev pub FailsBefore : How → Type 0
FailsBefore (how.Missing name) = ⊤
FailsBefore (how.Ambiguous name) = ⊤
FailsBefore how.Broken = ⊤
FailsBefore how.All = ⊥
FailsBefore (how.NotText n column) = ⊥
FailsBefore how.WriteFault = ⊥

-- the same of the first of known records
abbrev pub FailsNamed : Names → Option Rows → How → Type 0
FailsNamed names None e = FailsBefore e
FailsNamed names (Some rows) e = FailsAs (places_by names (head_of rows)) e

abbrev pub FailsFirst : RuleData → Option Rows → How → Type 0
FailsFirst r None e = FailsBefore e
FailsFirst r (Some rows) e = FailsAs (places_in r rows) e

-- the first of known records was taken as the header, in which the names have these places, and was put into the buffer
abbrev pub BeginsNamed : Names → Option Rows → Option Rows → PlacesData → List ℕ → List ℕ → Type 0
BeginsNamed names None rest places before now = ⊤
BeginsNamed names (Some rows) rest places before now = (header : List (List ℕ)) × (more : Rows) × (rows ≡ header ∷ more) × (rest ≡ Some more)
    × (places_by names header ≡ Ok places) × (now ≡ before ++ record_text (named_head names places header))

-- the places are found, by the header where there are names, and the buffer holds the mark, and the header
abbrev pub BeginsBy : Option Names → List ℕ → ℕ → List ℕ → Option Rows → Option Rows → PlacesData → List ℕ → Type 0
BeginsBy None inputs output mark rows rest places buffer =
    (rest ≡ rows) × (places ≡ record { sources = inputs; target = output }) × (buffer ≡ mark)
BeginsBy (Some names) inputs output mark rows rest places buffer = BeginsNamed names rows rest places mark buffer

abbrev pub Begins : RuleData → List ℕ → Option Rows → Option Rows → PlacesData → List ℕ → Type 0
Begins r mark rows rest places buffer = BeginsBy r.names r.inputs r.output mark rows rest places buffer

-- how a pass ends whose filtering ended so, after a header or none
abbrev pub after : Ending → Bool → How
after ending.All headed = how.All
after (ending.Refused n column) headed = how.NotText (n + headers headed) column
after ending.WriteFault headed = how.WriteFault
after ending.Broken headed = how.Broken

-- the buffer was written whole, and the pass ends as the filtering did; or a part of it was
abbrev pub Finishes : Ending → Bool → How → Option (List ℕ) → Option (List ℕ) → List ℕ → ℕ → ℕ → Type 0
Finishes e headed h old new buffer before now =
    ((h ≡ how.WriteFault) × AppendsPart old new buffer × Rose before now) ⊎ ((h ≡ after e headed) × Appends old new buffer)

-- how a run ends whose pass ended so, over a source of which a read failed or the last one found the end
abbrev pub status_after : How → Bool → Bool → Status
status_after (how.Missing name) failed ended = status.Missing name
status_after (how.Ambiguous name) failed ended = status.Ambiguous name
status_after (how.NotText n column) failed ended = status.NotText n column
status_after how.WriteFault failed ended = status.WriteFault
status_after how.All failed ended = if failed then status.ReadFault else if ended then status.Done else status.NoMemory
status_after how.Broken failed ended = if failed then status.ReadFault else status.NoMemory
