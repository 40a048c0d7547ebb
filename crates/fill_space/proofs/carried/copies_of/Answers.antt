use Rattle.fill_space.proofs.Copies.{replaced_put}
use Rattle.fill_space.proofs.carried.copies_of.Goals as goal

pub loop-i-preserved : goal.loop-i-preserved
loop-i-preserved c = replaced_put c.args.listed.now c.args.new.now _ _ c.loop-i.i c.graph_at.result c.graph_at-in-loop-i.result c.graph_at.ensures c.graph_at-in-loop-i.ensures c.in_ok-put_copy.ensures c.loop-i.invariant
