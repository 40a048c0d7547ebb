use Rattle.std.proofs.Common.{◌∙◌, length, sym, take}
use Rattle.fill_stream.proofs.Marks.{front_given, some_given}
use Rattle.fill_stream.proofs.fronted.FrontedSource.read.Goals as goal

pub returns-clause-bytes : goal.returns-clause-bytes
returns-clause-bytes g c =
    let same = rw c.pending-pending.ensures at c.copy_front-count.ensures.bytes in (
      rw (← c.self.view_is) (front_given (g.S.Source.left c.self.inside.source) (take c.self.inside.filled c.self.inside.front) c.copy_front-count.new.buf c.self.inside.at c.copy_front-count.result same),
      λ none room. absurd (some_given c.pending-pending.result.now c.copy_front-count.result (length c.args.buf.now) c.copy_front-count.ensures.count (sym c.is_empty.ensures ∙ c.if-is_empty.false) none (rw c.copy_front-count.ensures.room at room)),
    )
