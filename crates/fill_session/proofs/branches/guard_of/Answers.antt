use Rattle.fill_session.proofs.Stood.{held_told}
use Rattle.fill_session.proofs.branches.guard_of.Goals as goal

pub guard_before-requires-clause-told : goal.guard_before-requires-clause-told
guard_before-requires-clause-told c =
    let p = c.args.before.now in
    held_told c.args.spaces.now p.examples p.folds p.branches c.requires.before c.as_slice.result.now c.as_slice.ensures
