use Rattle.std.proofs.Common.{◌+◌}
use Rattle.fill_guard.proofs.SeqLaws.{ones_none, ones_more}
use Rattle.fill_guard.proofs.sequences.push_ones.Goals as goal

pub loop-i-init : goal.loop-i-init
loop-i-init c = ones_none c.args.token_set c.args.out.now.items

pub loop-i-preserved : goal.loop-i-preserved
loop-i-preserved c =
    ones_more c.args.token_set c.args.out.now.items c.loop-i.out.items c.push_one.new.out.items (c.loop-i.i + 1) c.token_at.result c.token_at.ensures c.loop-i.invariant
    c.in_ok-push_one.ensures
