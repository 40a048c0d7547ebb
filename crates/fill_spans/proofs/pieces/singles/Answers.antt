use Rattle.std.proofs.Common.{arith}
use Rattle.fill_spans.proofs.PieceLaws.{singles_all}
use Rattle.fill_spans.proofs.pieces.singles.Goals as goal

pub returns : goal.returns
returns c = singles_all c.args.c c.args.t.now c.loop-i.i c.loop-i.pieces.starts.items c.loop-i.pieces.ends.items (omega (arith, c.len-i-end.ensures.value)) c.loop-i.invariant
