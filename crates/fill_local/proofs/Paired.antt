-- Two grounds whose rows stand in pairs: what all laws here are proved for.
use Rattle.std.specs.Prelude.{◌≡◌, ◌↔◌, ℕ, List}
use Rattle.std.specs.List.{AllZip}
use Rattle.fill_tree.specs.declared.user.Example.{Example}
use Rattle.fill_local.specs.Local.{HoldSame, IsSameButRows}
use Rattle.fill_space.specs.declared.ground.Ground.{Ground}
use Rattle.fill_session.specs.Branches.{BranchData}

-- rows of a pair hold the same, and no row stands in two pairs
pub record ArePaired (g h : Ground) (Pair : ℕ → ℕ → Type 0) : Type 0 where
  pub same : IsSameButRows g h
  pub cells : (r q : ℕ) → Pair r q → HoldSame g.sheet h.sheet r q
  pub once : (r q a b : ℕ) → Pair r a → Pair q b → (r ≡ q) ↔ (a ≡ b)

-- examples of paired rows, with the same text
pub record SaysSame (Pair : ℕ → ℕ → Type 0) (e d : Example) : Type 0 where
  pub row : Pair e.row d.row
  pub text : e.text ≡ d.text

abbrev pub SaySame : (ℕ → ℕ → Type 0) → List Example → List Example → Type 0
SaySame Pair = AllZip (SaysSame Pair)

-- branches of such examples, with the same guard and program
pub record IsAlike (Pair : ℕ → ℕ → Type 0) (b c : BranchData) : Type 0 where
  pub examples : SaySame Pair b.examples c.examples
  pub guard : b.guard ≡ c.guard
  pub program : b.program ≡ c.program

abbrev pub AreAlike : (ℕ → ℕ → Type 0) → List BranchData → List BranchData → Type 0
AreAlike Pair = AllZip (IsAlike Pair)
