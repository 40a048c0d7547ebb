-- Some rows of a long sheet as a sheet of their own.
use Rattle.std.specs.Prelude.{◌≡◌, ◌≤◌, ℕ, Contains, List, length}
use Rattle.std.specs.List.{AllZip}
use Rattle.fill_tree.specs.declared.user.Example.{Example}
use Rattle.fill_space.specs.declared.ground.Ground.{Ground}
use Rattle.fill_session.specs.State.{SessionData}
use Rattle.fill_local.specs.Local.{IsSameButRows, renumbered}
use Rattle.fillcsv_blocks.specs.Numbers.{HasRow, Rise, number_at}

-- the second ground is over rows of the first, which have these numbers there: all but the rows is the same
pub record IsPart (g h : Ground) (numbers : List ℕ) : Type 0 where
  pub same : IsSameButRows h g
  pub rise : Rise numbers
  pub rows : AllZip (HasRow g.sheet.rows) numbers h.sheet.rows

-- a block: a session over the rows of a part, and which rows of the long sheet these are
pub record BlockData : Type 0 where
  pub session : SessionData
  pub numbers : List ℕ

-- the block has these examples over the long sheet: its own, under the numbers that their rows have there
pub record StandsFor (g : Ground) (block : BlockData) (examples : List Example) : Type 0 where
  pub part : IsPart g block.session.spaces.ground block.numbers
  pub same : examples ≡ renumbered (number_at block.numbers) block.session.examples

-- the row of the block is that of this number in the long sheet
pub record HasNumber (block : BlockData) (number row : ℕ) : Type 0 where
  pub first : 1 ≤ row
  pub last : row ≤ length block.session.spaces.ground.sheet.rows
  pub same : number_at block.numbers row ≡ number
  pub here : Contains block.numbers number
