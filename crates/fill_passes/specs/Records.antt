-- The records that a pass over a file has left.
use Rattle.std.specs.Prelude.{[], Bool, true, false, Option, Some}
use Rattle.fill_stream.specs.Records.{Rows}

-- none once the end was seen, and else those of the stream, where they are known
abbrev pub left_of : Bool → Option Rows → Option Rows
left_of true rest = Some []
left_of false rest = rest
