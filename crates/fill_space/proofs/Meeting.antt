-- What was found of two graphs stays so as the arena grows.
use Rattle.std.proofs.Common.{ℕ, List, Option, None, Some}
use Rattle.std.specs.Prelude.{MatchOption, OnSome}
use Rattle.fill_tree.specs.Tree.{Atoms}
use Rattle.fill_arena.specs.Contents.{Extends, IsGraph}
use Rattle.fill_arena.specs.Stands.{ProgramStands}
use Rattle.fill_arena.specs.WellMade.{IsWellMade}
use Rattle.fill_arena.specs.declared.entry.Entry.{Entry}
use Rattle.fill_arena.specs.declared.entry.Entry.TheVariants.{Graph}
use Rattle.fill_arena.proofs.Grows.{programs_stay}
use Rattle.fill_meet.specs.Meet.{IsMeet, NoneInBoth}
use Rattle.fill_space.specs.Met.{IsTold, AreTold}
use Rattle.fill_space.specs.declared.met.Met.{Met}

module _ (c d : List Entry) (made : IsWellMade c) (on : Extends c d) where
  graph_stays : (k : ℕ) → IsGraph c k → IsGraph d k
  graph_stays k g = (g.0, g.1, on k (Graph g.0 g.1) g.2)

  -- what meeting two graphs of the shorter arena came to, in the longer one
  pub told_of_meet : (a b : ℕ) (o : Option ℕ) → IsGraph c a → IsGraph c b → MatchOption o (NoneInBoth c a b) (IsMeet c a b d)
      → OnSome o ((p : Atoms) × ProgramStands c a p × ProgramStands c b p) → IsTold d a b o
  told_of_meet a b None x y h some = record {
    first = graph_stays a x;
    second = graph_stays b y;
    met = λ p both. h p ((programs_stay c d made on a p x).1 both.0, (programs_stay c d made on b p y).1 both.1);
    some = tt;
  }
  told_of_meet a b (Some k) x y h some = record {
    first = graph_stays a x;
    second = graph_stays b y;
    met = (
      h.0,
      λ p. (
        (λ stands. let both = (h.1 p).0 stands in ((programs_stay c d made on a p x).0 both.0, (programs_stay c d made on b p y).0 both.1)),
        (λ both. (h.1 p).1 ((programs_stay c d made on a p x).1 both.0, (programs_stay c d made on b p y).1 both.1)),
      ),
    );
    some = (some.0, (programs_stay c d made on a some.0 x).0 some.1, (programs_stay c d made on b some.0 y).0 some.2);
  }

  told_stays : (a b : ℕ) (o : Option ℕ) → IsTold c a b o → IsTold d a b o
  told_stays a b None t = told_of_meet a b None t.first t.second t.met tt
  told_stays a b (Some k) t = told_of_meet a b (Some k) t.first t.second (
    graph_stays k t.met.0,
    λ p. (
      (λ stands. (t.met.1 p).0 ((programs_stay c d made on k p t.met.0).1 stands)),
      (λ both. (programs_stay c d made on k p t.met.0).0 ((t.met.1 p).1 both)),
    ),
  )
      t.some

  pub all_stay : (met : Met) → AreTold c met → AreTold d met
  all_stay met t = record { each = λ k o h. told_stays k.0 k.1 o (t.each k o h) }
