use Rattle.std.proofs.Common.{◌≡◌, ℕ, List, Some, sym, subst}
use Rattle.fill_sources.specs.Sets.{part_in}
use Rattle.fill_sources.proofs.memo.Memo.part.Goals as goal

pub returns-in-Some : goal.returns-in-Some
returns-in-Some c on texts d right =
    right.parts (c.args.w.now, c.args.depth) c.in-Some.made.now
    (subst (λ (w : List ℕ). part_in c.args.self.now (w, c.args.depth) ≡ Some c.in-Some.made.now) c.as_slice.ensures (sym c.in-Some.ensures.value))
