use Rattle.std.specs.Io.KnownBytes.{prepend_known}
use Rattle.fillcsv_dialogue.proofs.Cutting.{come_more}
use Rattle.fillcsv_dialogue.proofs.lines.Lines.next.Goals as goal

pub loop-preserved : goal.loop-preserved
loop-preserved g c =
    let both = come_more (prepend_known c.args.self.now.held (g.S.Source.left c.args.source.now)) (prepend_known c.loop.self.held (g.S.Source.left c.loop.source))
    (prepend_known c.read_more.new.held (g.S.Source.left c.read_more.new.source)) (g.S.Source.faults c.args.source.now) (g.S.Source.faults c.loop.source) (g.S.Source.faults c.read_more.new.source)
    c.loop.invariant.come c.loop.invariant.faults (rw c.in-Bytes.is at c.in_ok-read_more.ensures.reads) in
    record { come = both.0; faults = both.1 }
