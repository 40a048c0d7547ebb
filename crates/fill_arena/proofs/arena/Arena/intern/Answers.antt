use Rattle.fill_arena.specs.Index.{IsFree}
use Rattle.fill_arena.proofs.Grown.{pushed_keeps}
use Rattle.fill_arena.proofs.arena.Arena.intern.Goals as goal

pub invariant_of-self : goal.invariant_of-self
invariant_of-self c =
    let free : IsFree c.self.inside.entries c.self.inside.index c.args.entry c.in-Free.slot = rw c.in-Free.is at c.in_ok-number.ensures in
    pushed_keeps c.self.inside.entries c.push.new.entries c.self.inside.index c.push.new.index c.args.entry c.in-Free.slot c.push.result
    c.push.ensures.entries c.push.ensures.slots c.push.ensures.entries_err c.push.ensures.slots_err free (rw (← c.self.view_is) at c.requires) c.self.invariant
