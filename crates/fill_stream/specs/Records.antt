-- The records that a stream has left.
use Rattle.std.specs.Prelude.{◌≡◌, ℕ, ◌+◌, List, [], ◌∷◌, length, Bool, true, if◌then◌else◌, ⊤, Option, None, Some, option_map}
use Rattle.csv.specs.Reading.{Ready, default_config, records_from, source_of}
use Rattle.csv.specs.declared.reader.Reader.{Reader}
use Rattle.csv.specs.declared.reader.Trim.TheVariants as trim

-- records, each the list of its fields' bytes
abbrev pub Rows : Type 0
Rows = List (List (List ℕ))

-- a reader by csv's defaults, of records of any length, the first of which is no header
pub record IsSet {R : Type 0} (reader : Reader R) : Type 0 where
  pub trims : reader.trim ≡ trim.None
  pub ready : Ready reader
  pub flexible : reader.flexible ≡ true
  pub config : reader.config ≡ default_config

-- the records that a reader has left, where its bytes are known
abbrev pub records_left : {R : Type 0} → (R → Option (List ℕ)) → Reader R → Option Rows
records_left rem reader = option_map (λ xs. records_from default_config (length xs + 1) reader.state xs) (source_of rem reader)

-- the same, none being known of one that is broken
abbrev pub standing : {R : Type 0} → Bool → (R → Option (List ℕ)) → Reader R → Option Rows
standing broken rem reader = if broken then None else records_left rem reader

-- the records that are left, where they are known, and the fields of the one that was read last
pub record Standing : Type 0 where
  pub rest : Option Rows
  pub row : List (List ℕ)

-- known records lose the first one, which has these fields
abbrev pub Took : Option Rows → Option Rows → List (List ℕ) → Type 0
Took None new fields = ⊤
Took (Some rows) new fields = (more : Rows) × (rows ≡ fields ∷ more) × (new ≡ Some more)

-- no known record is left
abbrev pub IsDone : Option Rows → Type 0
IsDone None = ⊤
IsDone (Some rows) = rows ≡ []
