-- What is noted of a source while another crate reads it.
use Rattle.std.specs.Prelude.{◌≡◌, ℕ, ◌≤◌, List, Option, Bool, true, false}
use Rattle.std.specs.Io.KnownBytes.{IsAtEnd}
use Rattle.fill_edge.specs.Outside.{Rose}

-- a source, whether a read of it failed, and whether the last one found the end
pub record Tapped (S : Type 0) : Type 0 where
  pub source : S
  pub failed : Bool
  pub ended : Bool

-- how the source's count of faults stands to that at the start, that its bytes are the same, and where the last read found the end it has no byte left
pub record IsNoted (before now : ℕ) (first whole left : Option (List ℕ)) (failed ended : Bool) : Type 0 where
  pub later : before ≤ now
  pub rose : failed ≡ true → Rose before now
  pub same : failed ≡ false → now ≡ before
  pub kept : whole ≡ first
  pub at_end : ended ≡ true → IsAtEnd left
