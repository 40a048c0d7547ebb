use Rattle.std.proofs.Common.{arith}
use Rattle.fillcsv_dialogue.proofs.Cutting.{all_there, no_newline}
use Rattle.fillcsv_dialogue.proofs.lines.newline_in.Goals as goal

pub loop-at-preserved : goal.loop-at-preserved
loop-at-preserved c = no_newline c.args.bytes.now c.loop-at.at (omega arith) c.loop-at.invariant c.if-byte-eq-NEWLINE.false

pub returns : goal.returns
returns c = all_there c.args.bytes.now c.loop-at.at (omega arith) c.loop-at.invariant
