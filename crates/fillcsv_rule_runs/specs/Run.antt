-- What a run of a rule over a stream writes.
use Rattle.std.specs.Prelude.{◌≡◌, ℕ, ◌≤◌, List, [], ◌∷◌, ◌++◌, length, take, slice_get, if◌then◌else◌, ⊤, ◌⊎◌, Option, None, Some, Ok, Err}
use Rattle.std.specs.List.{flat_map}
use Rattle.std.specs.Io.KnownBytes.{Appends, IsAtEnd}
use Rattle.fill_edge.specs.Outside.{AppendsPart, Rose}
use Rattle.fill_records.specs.Records.{records_of}
use Rattle.fill_records.specs.Texts.{bad_column}
use Rattle.fill_sheet.specs.Report.{record_text}
use Rattle.fill_stream.specs.Fronts.{is_marked}
use Rattle.fillcsv_rules.specs.Rule.{RuleData}
use Rattle.fillcsv_rule_runs.specs.Filled.{AreMade}
use Rattle.fillcsv_rule_runs.specs.Loaded.{LoadedData}
use Rattle.fillcsv_rule_runs.specs.Places.{Missing, Ambiguous, PlacesData, places_in}
use Rattle.fillcsv_rule_runs.specs.declared.status.Status.{Status}
use Rattle.fillcsv_rule_runs.specs.declared.status.Status.TheVariants as status

-- the byte order mark that a text begins with
abbrev pub mark_of : List ℕ → List ℕ
mark_of bytes = if is_marked bytes then 239 ∷ 187 ∷ 191 ∷ [] else []

-- a text that is made of the first n of these records: this mark, and then the records that are made of them
pub record IsTextOf (r : LoadedData) (mark : List ℕ) (rows : List (List (List ℕ))) (n : ℕ) (text : List ℕ) : Type 0 where
  pub places : PlacesData
  pub placed : places_in r.rule rows ≡ Ok places
  pub made : List (List (List ℕ))
  pub makes : AreMade r places r.rule.names (take n rows) made
  pub whole : text ≡ mark ++ flat_map record_text made

-- the record of this number, from 0, has a field that is read and no text; this is the first such column
abbrev pub IsBad : RuleData → List (List (List ℕ)) → ℕ → ℕ → Type 0
IsBad r rows n column = (places : PlacesData) × (fields : List (List ℕ)) × (places_in r rows ≡ Ok places)
    × (slice_get rows n ≡ Some fields) × (bad_column places.sources fields ≡ Some column)

-- the output grew by a text that is made of the first n records
abbrev pub Writes : LoadedData → List ℕ → List (List (List ℕ)) → ℕ → Option (List ℕ) → Option (List ℕ) → Type 0
Writes r mark rows n old new = (text : List ℕ) × IsTextOf r mark rows n text × Appends old new text

-- or by nothing
abbrev pub WritesSome : LoadedData → List ℕ → List (List (List ℕ)) → Option (List ℕ) → Option (List ℕ) → Type 0
WritesSome r mark rows old new = Appends old new [] ⊎ ((n : ℕ) × Writes r mark rows n old new)

-- it grew by a prefix of such a text, which is not all of it
abbrev pub WritesPart : LoadedData → List ℕ → List (List (List ℕ)) → Option (List ℕ) → Option (List ℕ) → Type 0
WritesPart r mark rows old new = (n : ℕ) × (text : List ℕ) × IsTextOf r mark rows n text × AppendsPart old new text

-- what a run that ended so has written of these records
abbrev pub EndWrites : LoadedData → Status → List ℕ → List (List (List ℕ)) → Option (List ℕ) → Option (List ℕ) → Type 0
EndWrites r status.Done mark rows old new = Writes r mark rows (length rows) old new
EndWrites r (status.NotText n column) mark rows old new = IsBad r.rule rows n column × Writes r mark rows n old new
EndWrites r (status.Missing name) mark rows old new = (places_in r.rule rows ≡ Err (Missing name.now)) × Appends old new []
EndWrites r (status.Ambiguous name) mark rows old new = (places_in r.rule rows ≡ Err (Ambiguous name.now)) × Appends old new []
EndWrites r status.ReadFault mark rows old new = WritesSome r mark rows old new
EndWrites r status.WriteFault mark rows old new = WritesPart r mark rows old new
EndWrites r status.NoMemory mark rows old new = WritesSome r mark rows old new

-- the same of a stream whose bytes may be known
abbrev pub RunWrites : LoadedData → Status → Option (List ℕ) → Option (List ℕ) → Option (List ℕ) → Type 0
RunWrites r how None old new = ⊤
RunWrites r how (Some bytes) old new = EndWrites r how (mark_of bytes) (records_of bytes) old new

-- what is left of the source then, and what it counted: a fault after a failed read, and none where all is done
abbrev pub EndsSource : Status → Option (List ℕ) → ℕ → ℕ → Type 0
EndsSource status.Done left before now = IsAtEnd left × (now ≡ before)
EndsSource status.ReadFault left before now = Rose before now
EndsSource (status.NotText n column) left before now = before ≤ now
EndsSource (status.Missing name) left before now = before ≤ now
EndsSource (status.Ambiguous name) left before now = before ≤ now
EndsSource status.WriteFault left before now = before ≤ now
EndsSource status.NoMemory left before now = now ≡ before

-- what the sink counted
abbrev pub EndsSink : Status → ℕ → ℕ → Type 0
EndsSink status.WriteFault before now = Rose before now
EndsSink status.Done before now = before ≤ now
EndsSink status.ReadFault before now = before ≤ now
EndsSink (status.NotText n column) before now = before ≤ now
EndsSink (status.Missing name) before now = before ≤ now
EndsSink (status.Ambiguous name) before now = before ≤ now
EndsSink status.NoMemory before now = before ≤ now

-- the status of a command whose run ended so
abbrev pub code_of : Status → ℕ
code_of status.Done = 0
code_of status.ReadFault = 3
code_of status.WriteFault = 4
code_of (status.Missing name) = 5
code_of (status.Ambiguous name) = 5
code_of (status.NotText n column) = 5
code_of status.NoMemory = 6

-- a command that ended with a status ran as a run does that ends so: by what the stream had and has left, what the source counted,
-- the output, and what that counted
abbrev pub RanAs : LoadedData → ℕ → Option (List ℕ) → Option (List ℕ) → ℕ → ℕ → Option (List ℕ) → Option (List ℕ) → ℕ → ℕ → Type 0
RanAs r code first left before now old new out_before out_now = (how : Status) × (code ≡ code_of how) × RunWrites r how first old new
    × EndsSource how left before now × EndsSink how out_before out_now
