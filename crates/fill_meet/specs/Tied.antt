-- The ties of two graphs, and what finds the items of the second one's sets.
use Rattle.std.specs.Prelude.{◌*◌, List, IfSome}
use Rattle.fill_arena.specs.declared.entry.Entry.{Entry}
use Rattle.fill_meet.specs.Guides.{IsGuide}
use Rattle.fill_meet.specs.Ties.{AreOrdered, AreTies, NameSets}
use Rattle.fill_meet.specs.declared.product.Tied.{Tied}
use Rattle.fill_meet.specs.declared.ties.Graphs.{Graphs}

-- the ties of the graphs, in order, and a guide to the arena
pub record AreTied (c : List Entry) (g : Graphs) (t : Tied) : Type 0 where
  pub ties : AreTies c g.width g.xs.now g.ys.now t.ties
  pub ordered : AreOrdered (g.height * g.width) t.ties
  pub sets : NameSets c t.ties
  pub guide : IfSome t.guide (IsGuide c)
