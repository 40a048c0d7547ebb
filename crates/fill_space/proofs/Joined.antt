-- What graphs of one example, graphs of two spaces and the least of a graph tell of examples.
use Rattle.std.proofs.Common.{ℕ, List, [], ◌∷◌, ◌++◌}
use Rattle.std.specs.Prelude.{◌↔◌}
use Rattle.fill_tree.specs.Chosen.{IsLeast}
use Rattle.fill_tree.specs.Tree.{Atoms}
use Rattle.fill_tree.specs.declared.user.Example.{Example}
use Rattle.fill_tree.proofs.Explained.{together}
use Rattle.fill_arena.specs.Stands.{ProgramStands}
use Rattle.fill_arena.specs.declared.entry.Entry.{Entry}
use Rattle.fill_build.specs.Build.{IsGraphOfExample, NoneExplains}
use Rattle.fill_doubt.specs.Gives.{Differ}
use Rattle.fill_meet.specs.Meet.{IsMeet, NoneInBoth}
use Rattle.fill_space.specs.Doubt.{IsDoubtful}
use Rattle.fill_space.specs.Ground.{Ground, ChosenOn, FitsOn}
use Rattle.fill_space.specs.Spaces.{SpacesData, SpaceStands, spaces_over}

-- the graph of one example is a space of it
pub of_example : (g : Ground) (e : Example) (c : List Entry) (k : ℕ) → IsGraphOfExample g.settings g.sheet g.tables e.row e.text c k
    → SpaceStands (spaces_over g c) k (e ∷ [])
of_example g e c k h = record { graph = h.graph; exact = h.exact; some = h.some }

pub of_no_example : (g : Ground) (e : Example) → NoneExplains g.settings g.sheet g.tables e.row e.text → FitsOn g (e ∷ []) → ⊥
of_no_example g e h fits = h fits.0 fits.1

-- a meet of the graphs of two spaces is a space of both lists
pub of_both : (g : Ground) (c d : List Entry) (a b k : ℕ) (l m : List Example) → SpaceStands (spaces_over g c) a l → SpaceStands (spaces_over g c) b m
    → IsMeet c a b d k → ((p : Atoms) × ProgramStands c a p × ProgramStands c b p) → SpaceStands (spaces_over g d) k (l ++ m)
of_both g c d a b k l m x y met some = record {
  graph = met.0;
  exact = λ p.
      let both = together g.settings g.sheet g.tables l m p in (
        (λ h. let in_both = (met.1 p).0 h in both.1 ((x.exact p).0 in_both.0, (y.exact p).0 in_both.1)),
        (λ h. let explained = both.0 h in (met.1 p).1 ((x.exact p).1 explained.0, (y.exact p).1 explained.1)),
      );
  some = (some.0, (together g.settings g.sheet g.tables l m some.0).1 ((x.exact some.0).0 some.1, (y.exact some.0).0 some.2));
}

pub of_neither : (g : Ground) (c : List Entry) (a b : ℕ) (l m : List Example) → SpaceStands (spaces_over g c) a l → SpaceStands (spaces_over g c) b m
    → NoneInBoth c a b → FitsOn g (l ++ m) → ⊥
of_neither g c a b l m x y none fits =
    let explained = (together g.settings g.sheet g.tables l m fits.0).0 fits.1 in
    none fits.0 ((x.exact fits.0).1 explained.0, (y.exact fits.0).1 explained.1)

-- the least program of a space is the chosen one
pub chosen : (s : SpacesData) (k : ℕ) (p : Atoms) → IsLeast s.ground.settings.profile.prices (ProgramStands s.arena k) p → (l : List Example) → SpaceStands s k l → ChosenOn s.ground l p
chosen s k p h l x = record { has = (x.exact p).0 h.has; least = λ q explains. h.least q ((x.exact q).1 explains) }

-- what stands in a space differs on a row where what explains the examples does
pub doubtful : (s : SpacesData) (k row : ℕ) (l : List Example) → SpaceStands s k l → Differ s.arena s.ground.sheet s.ground.tables row k ↔ IsDoubtful s.ground l row
doubtful s k row l x = (
  λ h. (h.0, h.1, (h.2.0, (x.exact h.2.0).0 h.2.1, h.2.2), (h.3.0, (x.exact h.3.0).0 h.3.1, h.3.2), h.4),
  λ h. (h.0, h.1, (h.2.0, (x.exact h.2.0).1 h.2.1, h.2.2), (h.3.0, (x.exact h.3.0).1 h.3.1, h.3.2), h.4),
)
