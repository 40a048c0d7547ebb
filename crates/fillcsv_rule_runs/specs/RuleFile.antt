-- Which rule the file of a name has, or why it has none, and how its run ends.
use Rattle.fill_edge.specs.declared.outside.TheConstants.{LARGEST_FILE}
use Rattle.std.specs.Prelude.{◌≡◌, ◌⊎◌, ℕ, ◌≤◌, List, [], ◌++◌, length, ⊤, Option, Ok, Err, codes, string_bytes}
use Rattle.std.specs.Fmt.{decimal}
use Rattle.fill_edge.specs.Outside.{Files, IsFile, IsMissing, IsTooLong, Rose}
use Rattle.fill_opening.specs.Opened.{Told, Passed}
use Rattle.fill_opening.specs.Stops.{Stops}
use Rattle.fill_opening.specs.declared.stop.Stop.TheVariants as stop
use Rattle.fillcsv_tables.specs.Tables.{lookups_open}
use Rattle.fillcsv_rules.specs.File.{FileIs}
use Rattle.fillcsv_rules.specs.Rule.{RuleData}
use Rattle.fillcsv_rules.specs.declared.error.RuleError.TheVariants as error
use Rattle.fillcsv_rule_runs.specs.Loaded.{LoadedData}
use Rattle.fillcsv_rule_runs.specs.Run.{RanAs}
use Rattle.fillcsv_rule_runs.specs.declared.file.NoRule.{NoRule}
use Rattle.fillcsv_rule_runs.specs.declared.file.NoRule.TheVariants as norule

-- the file of a name has the rule
abbrev pub HasRule : Files → List ℕ → RuleData → Type 0
HasRule files name r = (bytes : List ℕ) × IsFile files name bytes × (length bytes ≤ LARGEST_FILE) × FileIs bytes (Ok r)

-- the file of a name has the rule, and the tables that it looks up in open
abbrev pub HasLoaded : Files → List ℕ → LoadedData → Type 0
HasLoaded files name l = HasRule files name l.rule × Told files (λ held. (lookups_open held [] l.rule.lookups).outcome ≡ Passed l.tables)

-- why there is no rule to run in the file of a name, by the reads of each name that failed before and by now. Out of memory is
-- free
abbrev pub HasNoRule : Files → List ℕ → (List ℕ → ℕ) → (List ℕ → ℕ) → NoRule → Type 0
HasNoRule files name before now norule.Unread = IsMissing files name ⊎ Rose (before name) (now name)
HasNoRule files name before now norule.TooLong = IsTooLong files name LARGEST_FILE
HasNoRule files name before now (norule.BadLine n) = (bytes : List ℕ) × IsFile files name bytes × (length bytes ≤ LARGEST_FILE) × FileIs bytes (Err (error.BadLine n))
HasNoRule files name before now (norule.NoTables why) = (r : RuleData) × HasRule files name r × Stops (λ held. lookups_open held [] r.lookups) files before now why
HasNoRule files name before now norule.NoMemory = ⊤

-- the status of a command that has no rule
abbrev pub status_of : NoRule → ℕ
status_of norule.Unread = 3
status_of norule.TooLong = 5
status_of (norule.BadLine n) = 5
status_of (norule.NoTables (stop.Unread file)) = 3
status_of (norule.NoTables (stop.Refused line)) = 5
status_of (norule.NoTables stop.NoMemory) = 6
status_of norule.NoMemory = 6

-- the line of a file that cannot be read
abbrev pub unread_line : List ℕ → List ℕ
unread_line name = codes "fillcsv: " ++ (name ++ codes ": cannot be read\n")

-- the line that says why; of tables it names their file
abbrev pub no_rule_line : List ℕ → NoRule → List ℕ
no_rule_line name norule.Unread = unread_line name
no_rule_line name norule.TooLong = codes "fillcsv: " ++ (name ++ codes ": more than 16777216 bytes\n")
no_rule_line name (norule.BadLine n) = codes "fillcsv: " ++ (name ++ (codes ": line " ++ (decimal n ++ codes " is not understood\n")))
no_rule_line name (norule.NoTables (stop.Unread file)) = unread_line (string_bytes file)
no_rule_line name (norule.NoTables (stop.Refused line)) = line
no_rule_line name (norule.NoTables stop.NoMemory) = codes "fillcsv: out of memory\n"
no_rule_line name norule.NoMemory = codes "fillcsv: out of memory\n"

-- the status and the line are those of a command that has no rule, for this reason or since memory ran out
abbrev pub TellsNoRule : List ℕ → NoRule → ℕ → (List ℕ → Type 0) → Type 0
TellsNoRule name why status Said = (told : NoRule) × ((told ≡ why) ⊎ (told ≡ norule.NoMemory)) × (status ≡ status_of told) × Said (no_rule_line name told)

-- nothing of the stream was read and nothing was written
pub record Untouched (first left : Option (List ℕ)) (before now : ℕ) (old new : Option (List ℕ)) (out_before out_now : ℕ) : Type 0 where
  pub stream : left ≡ first
  pub reads : now ≡ before
  pub written : new ≡ old
  pub writes : out_now ≡ out_before

-- a command with the rule in the file of a name ended with a status: the file has a rule, its tables open, and its run ended so;
-- or there is none to run, and the line says why. By the files, the reads of each name that failed before and by now, the
-- stream and the output as in `RanAs`, and what was said
abbrev pub RanFile : List ℕ → Files → (List ℕ → ℕ) → (List ℕ → ℕ) → ℕ → Option (List ℕ) → Option (List ℕ) → ℕ → ℕ → Option (List ℕ) → Option (List ℕ) → ℕ → ℕ → (List ℕ → Type 0) → Type 0
RanFile name files faults_before faults_now status first left before now old new out_before out_now Said =
    ((l : LoadedData) × HasLoaded files name l × RanAs l status first left before now old new out_before out_now)
    ⊎ ((why : NoRule) × HasNoRule files name faults_before faults_now why × (status ≡ status_of why) × Said (no_rule_line name why)
    × Untouched first left before now old new out_before out_now)
