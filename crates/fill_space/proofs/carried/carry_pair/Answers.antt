use Rattle.std.proofs.Common.{subst}
use Rattle.fill_space.specs.Met.{IsTold}
use Rattle.fill_space.proofs.Copies.{none_carried, some_carried}
use Rattle.fill_space.proofs.carried.carry_pair.Goals as goal

pub returns-in-None : goal.returns-in-None
returns-in-None c = λ before after told renamed done.
    let was = subst (IsTold before c.args.pair.now.0 c.args.pair.now.1) c.in-None.is told in
    c.keep.ensures after done (none_carried before after c.args.renaming.now renamed c.args.pair.now.0 c.args.pair.now.1 c.in-Some.x c.in-Some-renamed.y c.in-Some.ensures c.in-Some-renamed.ensures was)

pub returns-in-Some-renamed-2 : goal.returns-in-Some-renamed-2
returns-in-Some-renamed-2 c = λ before after told renamed done.
    let was = subst (IsTold before c.args.pair.now.0 c.args.pair.now.1) c.in-Some-made.is told in
    c.keep-in-Some-made.ensures after done (some_carried before after c.args.renaming.now renamed c.args.pair.now.0 c.args.pair.now.1 c.in-Some.x c.in-Some-renamed.y c.in-Some.ensures c.in-Some-renamed.ensures
    c.in-Some-made.graph c.in-Some-renamed-2.now c.in-Some-renamed-2.ensures was)
