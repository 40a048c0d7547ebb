use Rattle.std.proofs.Common.{string_bytes}
use Rattle.fill_edge.specs.Outside.{GivesPiece}
use Rattle.fill_passes.proofs.Pieces.{piece_read}
use Rattle.fill_passes.proofs.file_reader.FileReaderRead.read.Goals as goal

pub returns-in-Ok-clause-bytes : goal.returns-in-Ok-clause-bytes
returns-in-Ok-clause-bytes g c =
    let files = g.C.Cabinet.files c.self.inside.cabinet in
    let name = string_bytes c.self.inside.name in
    let piece : GivesPiece files name c.self.inside.at c.in-Ok.count c.read.new.buf = rw (← c.as_str.ensures.value) c.in-Ok.ensures.piece in
    rw (← c.self.view_is) (piece_read files (g.C.Cabinet.files c.read.new.self) name c.self.inside.at c.in-Ok.count c.read.new.buf c.in-Ok.ensures.files piece)
