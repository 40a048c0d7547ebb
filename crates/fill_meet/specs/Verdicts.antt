-- What is told of pairs of sets without a new set.
use Rattle.std.specs.Prelude.{◌≡◌, ℕ, List, Bool, false, Option, IfSome}
use Rattle.fill_arena.specs.Contents.{EachIn}
use Rattle.fill_arena.specs.Stands.{PlaceStands, SourceStands}
use Rattle.fill_arena.specs.declared.entry.Entry.{Entry}
use Rattle.fill_arena.specs.declared.entry.SourceItem.{SourceItem}
use Rattle.fill_arena.specs.declared.entry.SourceItem.TheVariants.{Col, Select}
use Rattle.fill_meet.specs.Meet.{AreApart}
use Rattle.fill_meet.specs.Memory.{AreRight}
use Rattle.fill_meet.specs.Sets.{HaveSameNumbers}
use Rattle.fill_meet.specs.declared.verdicts.Verdict.{Verdict}
use Rattle.fill_meet.specs.declared.verdicts.Verdicts.{Verdicts}

-- where it is told that nothing is in both, nothing is
abbrev pub PlacesTried : List Entry → ℕ → ℕ → Bool → Type 0
PlacesTried c s t may = may ≡ false → AreApart PlaceStands c s t

abbrev pub SourcesTried : List Entry → ℕ → ℕ → Bool → Type 0
SourcesTried c s t may = may ≡ false → AreApart SourceStands c s t

-- what a slot tells is so
abbrev pub IsVerdict : List Entry → Option (Verdict Bool) → Type 0
IsVerdict c r = IfSome r (λ verdict. PlacesTried c verdict.s verdict.t verdict.verdict)

-- what the tables tell is so in the arena
pub record AreVerdicts (c : List Entry) (verdicts : Verdicts) : Type 0 where
  pub places : EachIn (IsVerdict c) verdicts.places.items
  pub sources : AreRight (SourcesTried c) verdicts.sources

-- the same column, or lookups with the same numbers
abbrev pub AreAlike : SourceItem → SourceItem → Type 0
AreAlike (Col m) (Col n) = m ≡ n
AreAlike (Col m) (Select y) = ⊥
AreAlike (Select x) (Col n) = ⊥
AreAlike (Select x) (Select y) = HaveSameNumbers x y
