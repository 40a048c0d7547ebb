-- What is known of pairs of graphs that were met.
use Rattle.std.specs.Prelude.{◌≡◌, ◌↔◌, ℕ, ◌<◌, List, Option, MatchOption, OnSome, Some, nat_eq, slice_get}
use Rattle.std.specs.HashMap.{HashMap, get}
use Rattle.fill_tree.specs.Tree.{Atoms}
use Rattle.fill_arena.specs.Contents.{IsGraph}
use Rattle.fill_arena.specs.Stands.{ProgramStands}
use Rattle.fill_arena.specs.declared.entry.Entry.{Entry}
use Rattle.fill_meet.specs.Meet.{IsMeet, NoneInBoth}
use Rattle.fill_meet.specs.Memory.{AreRight}
use Rattle.fill_space.specs.declared.carried.Renaming.{Renaming}
use Rattle.fill_space.specs.declared.carried.Renaming.TheVariants.{Copied, Cut}
use Rattle.fill_space.specs.declared.met.Met.{Met}

-- both are graphs of the arena, and this is the graph of what stands in both; it is none where nothing does
pub record IsTold (c : List Entry) (a b : ℕ) (made : Option ℕ) : Type 0 where
  pub first : IsGraph c a
  pub second : IsGraph c b
  pub met : MatchOption made (NoneInBoth c a b) (IsMeet c a b c)
  pub some : OnSome made ((p : Atoms) × ProgramStands c a p × ProgramStands c b p)

-- all that is kept is so in the arena
abbrev pub AreTold : List Entry → Met → Type 0
AreTold c met = AreRight (IsTold c) met.table

-- for each graph of the table the one at its place of the second list
pub record AreReplaced {S : Type 0} (old new : List ℕ) (copies : HashMap ℕ ℕ S) : Type 0 where
  pub each : (k n : ℕ) → get nat_eq copies k ≡ Some n → (i : ℕ) × (slice_get old i ≡ Some k) × (slice_get new i ≡ Some n)

-- the graph of the first number has the second one now: after a copy the one that the table gives, after a cut its own, if it came before the mark
abbrev pub IsRenamed : Renaming → ℕ → ℕ → Type 0
IsRenamed (Copied copies) k n = get nat_eq copies k ≡ Some n
IsRenamed (Cut mark) k n = (n ≡ k) × (k < mark)

-- each graph of the first arena that has a number now is a graph of the second one under it, in which the same programs stand
pub record AreRenamed (c d : List Entry) (r : Renaming) : Type 0 where
  pub each : (k n : ℕ) → IsGraph c k → IsRenamed r k n → IsGraph d n × ((p : Atoms) → ProgramStands d n p ↔ ProgramStands c k p)
