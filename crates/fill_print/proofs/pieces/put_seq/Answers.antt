use Rattle.fill_print.proofs.Names.{names_step}
use Rattle.fill_print.proofs.pieces.put_seq.Goals as goal

pub loop-i-preserved : goal.loop-i-preserved
loop-i-preserved c =
    names_step _ _ _ _ _ c.args.seq.now c.loop-i.i c.token-token.result c.token-token.ensures
    c.in_ok-put-3.ensures c.name-in-loop-i.ensures c.in_ok-put-4.ensures c.loop-i.invariant
