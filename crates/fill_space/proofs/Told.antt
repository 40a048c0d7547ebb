-- What calls of the lower crates tell of spaces, where `s` is what the fields are seen as.
use Rattle.std.proofs.Common.{◌≡◌, ◌≤◌, ℕ, List, ◌++◌, length, Bool, Option, Some, None, Result, Ok, Err, subst, sym}
use Rattle.std.specs.Prelude.{◌↔◌, IfOk, IfSome, IsTrue, MatchOption, OnSome}
use Rattle.fill_text.specs.declared.error.NoMemory.{NoMemory}
use Rattle.fill_tree.specs.Chosen.{IsLeast}
use Rattle.fill_tree.specs.Meaning.{program_tree}
use Rattle.fill_tree.specs.Tree.{Atoms}
use Rattle.fill_tree.specs.declared.tree.Program.{Program}
use Rattle.fill_tree.specs.declared.user.Example.{Example}
use Rattle.fill_arena.specs.Contents.{Extends}
use Rattle.fill_arena.specs.Stands.{ProgramStands}
use Rattle.fill_arena.specs.WellMade.{IsWellMade}
use Rattle.fill_arena.specs.declared.entry.Entry.{Entry}
use Rattle.fill_doubt.specs.Gives.{Differ}
use Rattle.fill_meet.specs.Meet.{IsMeet, NoneInBoth}
use Rattle.fill_split.specs.Keeping.{KeepsMarks}
use Rattle.fill_space.specs.Doubt.{IsDoubtful}
use Rattle.fill_space.specs.Ground.{Ground, ChosenOn, ExplainsOn, FitsOn}
use Rattle.fill_space.specs.Spaces.{SpacesData, SpaceStands, spaces_over, first_spaces}
use Rattle.fill_space.proofs.Growing.{grown}
use Rattle.fill_space.proofs.Joined.{of_both, of_neither, chosen, doubtful}
use Rattle.fill_space.proofs.Marks.{marks_stay}

module _ (g : Ground) (c d : List Entry) (s : SpacesData) (is : spaces_over g c ≡ s) where
  pub older_stay : IsWellMade c → Extends c d → (k : ℕ) (l : List Example) → SpaceStands s k l → SpaceStands (spaces_over g d) k l
  older_stay made on k l x = grown g c d made on k l (subst (λ v. SpaceStands v k l) (sym is) x)

  pub older_marks : Extends c d
      → KeepsMarks (λ m. m ≤ length s.arena) (λ m. m ≤ length d)
      (λ m k l. SpaceStands (first_spaces m s) k l) (λ m k l. SpaceStands (first_spaces m (spaces_over g d)) k l)
  older_marks on =
      subst
      (λ v. KeepsMarks (λ m. m ≤ length v.arena) (λ m. m ≤ length d)
      (λ m k l. SpaceStands (first_spaces m v) k l) (λ m k l. SpaceStands (first_spaces m (spaces_over g d)) k l))
      is (marks_stay g c d on)

  pub both_told : (a b : ℕ) (r : Result (Option ℕ) NoMemory)
      → IfOk r (λ made. MatchOption made (NoneInBoth c a b) (IsMeet c a b d))
      → IfOk r (λ made. OnSome made ((p : Atoms) × ProgramStands c a p × ProgramStands c b p))
      → IfOk r (λ made. (l m : List Example) → SpaceStands s a l → SpaceStands s b m
      → MatchOption made (FitsOn s.ground (l ++ m) → ⊥) (λ k. SpaceStands (spaces_over g d) k (l ++ m)))
  both_told a b (Ok None) h some =
      subst (λ (v : SpacesData). (l m : List Example) → SpaceStands v a l → SpaceStands v b m → FitsOn v.ground (l ++ m) → ⊥)
      is (λ l m x y. of_neither g c a b l m x y h)
  both_told a b (Ok (Some k)) h some =
      subst (λ (v : SpacesData). (l m : List Example) → SpaceStands v a l → SpaceStands v b m → SpaceStands (spaces_over g d) k (l ++ m))
      is (λ l m x y. of_both g c d a b k l m x y h some)
  both_told a b (Err want) h some = tt

pub least_told : (s : SpacesData) (k : ℕ) (r : Result Program NoMemory) → IfOk r (λ p. IsLeast s.ground.settings.profile.prices (ProgramStands s.arena k) (program_tree p))
    → IfOk r (λ p. (l : List Example) → SpaceStands s k l → ChosenOn s.ground l (program_tree p))
least_told s k (Ok p) h = λ l x. chosen s k (program_tree p) h l x
least_told s k (Err want) h = tt

pub holds_told : (s : SpacesData) (k : ℕ) (p : Atoms) (b : Bool) → (IsTrue b ↔ ProgramStands s.arena k p)
    → (l : List Example) → SpaceStands s k l → IsTrue b ↔ ExplainsOn s.ground l p
holds_told s k p b h l x = ((λ yes. (x.exact p).0 (h.0 yes)), (λ explains. h.1 ((x.exact p).1 explains)))

pub doubt_told : (s : SpacesData) (k row : ℕ) (r : Result Bool NoMemory)
    → IfOk r (λ b. IsTrue b ↔ Differ s.arena s.ground.sheet s.ground.tables row k)
    → IfOk r (λ b. (l : List Example) → SpaceStands s k l → IsTrue b ↔ IsDoubtful s.ground l row)
doubt_told s k row (Ok b) h = λ l x. let same = doubtful s k row l x in ((λ yes. same.0 (h.0 yes)), (λ differ. h.1 (same.1 differ)))
doubt_told s k row (Err want) h = tt

-- what was made for a list stands for some list
pub some_made : (s : SpacesData) (made : Option ℕ) (none : Type 0) (l : List Example) → MatchOption made none (λ k. SpaceStands s k l)
    → IfSome made (λ k. (l : List Example) × SpaceStands s k l)
some_made s None none l h = tt
some_made s (Some k) none l h = (l, h)
