use Rattle.std.proofs.Common.{◌≡◌, [], arith, drop, take}
use Rattle.fill_passes.proofs.Aheads.{kept_on, none_left, read_on}
use Rattle.fill_passes.proofs.read_ahead.ReadAheadRead.read.Goals as goal

pub returns-then-is_empty-clause-bytes : goal.returns-then-is_empty-clause-bytes
returns-then-is_empty-clause-bytes g c =
    let pending = drop c.self.inside.at (take c.self.inside.filled c.self.inside.piece.items) in
    let none : pending ≡ [] = none_left c.self.inside.piece.items c.self.inside.at c.self.inside.filled (omega arith) in
    rw (← c.self.view_is) (read_on pending (g.R.Read.remaining c.self.inside.reader) (g.R.Read.remaining c.read.new.self) c.read.result c.read.new.buf none c.read.ensures.bytes)

pub returns-in-Err-clause-bytes : goal.returns-in-Err-clause-bytes
returns-in-Err-clause-bytes g c =
    let pending = drop c.self.inside.at (take c.self.inside.filled c.self.inside.piece.items) in
    let none : pending ≡ [] = none_left c.self.inside.piece.items c.self.inside.at c.self.inside.filled (omega arith) in
    rw (← c.self.view_is) (kept_on pending (g.R.Read.remaining c.self.inside.reader) (g.R.Read.remaining c.read-2.new.self) none c.in-Err.ensures.bytes)
