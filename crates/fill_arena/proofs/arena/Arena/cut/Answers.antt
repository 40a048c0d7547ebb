use Rattle.std.proofs.Common.{◌≡◌, take, sym, subst}
use Rattle.fill_arena.specs.Contents.{AreDistinct}
use Rattle.fill_arena.specs.Index.{IsIndexed}
use Rattle.fill_arena.specs.WellMade.{IsWellMade}
use Rattle.fill_arena.proofs.Grows.{made_taken}
use Rattle.fill_arena.proofs.Indexed.{distinct_taken, indexed_taken}
use Rattle.fill_arena.proofs.arena.Arena.cut.Goals as goal

pub invariant_of-self : goal.invariant_of-self
invariant_of-self c =
    let entries = c.self.inside.entries in
    let slots = c.self.inside.index in
    let n = c.count-count.result in
    let left : c.cut.new.self ≡ take n entries = c.cut.ensures in (
      subst IsWellMade (sym left) (made_taken entries n c.self.invariant.0),
      subst AreDistinct (sym left) (distinct_taken entries n c.self.invariant.1),
      subst (λ l. IsIndexed l c.cut-2.new.self) (sym left) (subst (λ s. IsIndexed (take n entries) s) (sym c.cut-2.ensures) (indexed_taken entries slots c.self.invariant.2 n)),
    )
