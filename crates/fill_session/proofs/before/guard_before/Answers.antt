use Rattle.fill_split.proofs.Zips.{here}
use Rattle.fill_session.proofs.Lasting.{is_told}
use Rattle.fill_session.proofs.before.guard_before.Goals as goal

pub guard_still-requires-clause-told : goal.guard_still-requires-clause-told
guard_still-requires-clause-told c =
    is_told c.args.spaces.now.ground c.args.stood.now c.split_at.result.1.now c.loop-k.k c.index-stood-k.result c.requires.told
    (here c.args.stood.now c.loop-k.k c.index-stood-k.result c.loop-k-test.true c.index-stood-k.is) c.split_at.ensures.back
