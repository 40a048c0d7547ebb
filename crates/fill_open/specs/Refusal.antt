-- Why a file is refused.
use Rattle.std.specs.Prelude.{ℕ, List}
use Rattle.fill_tables.specs.declared.error.TableError.{TableError}
use Rattle.fill_tables.specs.declared.error.TableError.TheVariants as table
use Rattle.fill_open.specs.declared.fault.Fault.{Fault}
use Rattle.fill_open.specs.declared.fault.Fault.TheVariants as fault

-- the name of a file that is refused, and what is wrong with it
pub record RefusalData : Type 0 where
  pub file : List ℕ
  pub fault : Fault

abbrev pub refusal : List ℕ → Fault → RefusalData
refusal file fault = record { file = file; fault = fault }

-- the refusal of a key that is not added: of the session's line with this number
abbrev pub key_refusal : List ℕ → ℕ → TableError → RefusalData
key_refusal session number e = refusal session (fault.Line number e)

-- the refusal of a table that is not added: of its file, where that spells none, and else of the session's line
abbrev pub table_refusal : List ℕ → ℕ → List ℕ → TableError → RefusalData
table_refusal session number file (table.TooManyRows limit) = refusal file (fault.Table (table.TooManyRows limit))
table_refusal session number file (table.NotUtf8 at column) = refusal file (fault.Table (table.NotUtf8 at column))
table_refusal session number file e = key_refusal session number e
