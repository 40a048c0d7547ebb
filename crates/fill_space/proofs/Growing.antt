-- Spaces stand for the same as their arena grows, and in the longer arena that is then cut back.
use Rattle.std.proofs.Common.{ℕ, List}
use Rattle.fill_tree.specs.declared.user.Example.{Example}
use Rattle.fill_arena.specs.Contents.{Extends, IsGraph}
use Rattle.fill_arena.specs.WellMade.{IsWellMade}
use Rattle.fill_arena.specs.declared.entry.Entry.{Entry}
use Rattle.fill_arena.specs.declared.entry.Entry.TheVariants.{Graph}
use Rattle.fill_arena.proofs.Grows.{programs_stay}
use Rattle.fill_space.specs.Ground.{Ground}
use Rattle.fill_space.specs.Spaces.{SpaceStands, spaces_over}

module _ (g : Ground) (c d : List Entry) (made : IsWellMade c) (on : Extends c d) where
  pub grown : (k : ℕ) (l : List Example) → SpaceStands (spaces_over g c) k l → SpaceStands (spaces_over g d) k l
  grown k l s = record {
    graph = (s.graph.0, s.graph.1, on k (Graph s.graph.0 s.graph.1) s.graph.2);
    exact = λ p. let stay = programs_stay c d made on k p s.graph in ((λ h. (s.exact p).0 (stay.1 h)), (λ h. stay.0 ((s.exact p).1 h)));
    some = s.some;
  }

  pub cut_back : (k : ℕ) (l : List Example) → IsGraph c k → SpaceStands (spaces_over g d) k l → SpaceStands (spaces_over g c) k l
  cut_back k l live s = record {
    graph = live;
    exact = λ p. let stay = programs_stay c d made on k p live in ((λ h. (s.exact p).0 (stay.0 h)), (λ h. stay.1 ((s.exact p).1 h)));
    some = s.some;
  }
