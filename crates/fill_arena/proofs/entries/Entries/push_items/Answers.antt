use Rattle.std.proofs.Common.{length, sym, subst}
use Rattle.fill_arena.specs.Entries.{AreInPool}
use Rattle.fill_arena.proofs.Pooled.{items_pushed}
use Rattle.fill_arena.proofs.entries.Entries.push_items.Goals as goal

pub invariant_of-self-2 : goal.invariant_of-self-2
invariant_of-self-2 c =
    let b = length c.self.inside.places in
    subst (λ l. AreInPool 0 l b) (sym c.in_ok-push.ensures.items) (items_pushed 0 b c.self.inside.stored.items c.args.stored c.requires c.self.invariant)
