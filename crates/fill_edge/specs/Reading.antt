-- Why a file was not read.
use Rattle.fill_edge.specs.declared.outside.ReadRefusal.{ReadRefusal}
use Rattle.fill_edge.specs.declared.outside.ReadRefusal.TheVariants as refusal
use Rattle.fill_edge.specs.declared.reading.ReadError.{ReadError}
use Rattle.fill_edge.specs.declared.reading.ReadError.TheVariants as error

-- what becomes of a refused read
abbrev pub read_error : ReadRefusal → ReadError
read_error refusal.Failed = error.ReadFault
read_error refusal.Missing = error.Missing
