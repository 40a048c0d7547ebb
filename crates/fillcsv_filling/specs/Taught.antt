-- What a long sheet taught, and what its next block is made of.
use Rattle.std.specs.Prelude.{◌≡◌, ◌≢◌, ◌≤◌, ℕ, List, [], ◌∷◌, ◌++◌, length, Bool, true, false, Option, Result, Ok, Err, ⊤}
use Rattle.fill_text.specs.Data.{TableData}
use Rattle.fill_tree.specs.declared.user.Edit.TheVariants.{Add}
use Rattle.fill_tree.specs.declared.user.Example.{Example}
use Rattle.fill_tree.specs.declared.user.TheConstants.{MOST_EXAMPLES}
use Rattle.fill_space.specs.declared.ground.Ground.{Ground}
use Rattle.fill_session.specs.Edits.{rows_of as example_rows}
use Rattle.fill_session.specs.Outcome.{Answers}
use Rattle.fill_session.specs.declared.error.EditError.{EditError}
use Rattle.fill_session.specs.declared.error.EditError.TheVariants as error
use Rattle.fillcsv_rows.specs.Learned.{AreLearned, Gives, Learns}
use Rattle.fillcsv_rows.specs.declared.learning.Refused.{Refused}
use Rattle.fill_local.specs.Local.{renumbered}
use Rattle.fillcsv_blocks.specs.Accepted.{AreAccepted}
use Rattle.fillcsv_blocks.specs.Blocks.{BlockData, StandsFor}
use Rattle.fillcsv_blocks.specs.Merged.{numbers_of}
use Rattle.fillcsv_blocks.specs.Numbers.{number_at}
use Rattle.fillcsv_blocks.specs.declared.numbered.Numbered.{Numbered}
use Rattle.fillcsv_filling.specs.Long.{AreRows, LongData, ground_of}
use Rattle.fillcsv_filling.specs.declared.learning.Learned.{Learned}
use Rattle.fillcsv_filling.specs.declared.sheet.Basis.{Basis}
use Rattle.fillcsv_filling.specs.declared.sheet.Basis.TheVariants as basis

-- what is learned over with the tables of a block
abbrev pub ground_with : LongData → BlockData → Ground
ground_with s block = ground_of s block.session.spaces.ground.tables

-- the examples of a block, under the numbers of the long sheet
abbrev pub examples_of : BlockData → List Example
examples_of block = renumbered (number_at block.numbers) block.session.examples

-- the tables of a block, or those that stand alone
abbrev pub tables_of : Basis → List TableData
tables_of (basis.Tables tables) = tables
tables_of (basis.Block block) = block.session.spaces.ground.tables

-- the rows of the examples are kept
pub record IsKept (s : LongData) (kept : List Numbered) (examples : List Example) : Type 0 where
  pub rows : AreRows s kept
  pub numbers : numbers_of kept ≡ example_rows examples
  pub few : length kept ≤ MOST_EXAMPLES

-- a block has these examples over the long sheet; tables alone have none
abbrev pub HasLearned : LongData → List Example → Basis → Type 0
HasLearned s examples (basis.Tables tables) = ⊤
HasLearned s examples (basis.Block block) = StandsFor (ground_with s block) block examples

-- the rows of the examples are kept, each example was accepted after those before it, and a block that is there has them
pub record IsTaught (s : LongData) (learned : Learned) (b : Basis) : Type 0 where
  pub kept : IsKept s learned.kept.items learned.examples
  pub accepted : AreAccepted (ground_of s (tables_of b)) learned.examples
  pub stands : HasLearned s learned.examples b

-- all rows were learned from over these tables, and what they taught is there for the next block
pub record Teaches (s : LongData) (over : List TableData) (all : Learned) (b : Basis) : Type 0 where
  pub learned : AreLearned s.typed (ground_of s over) all.examples all.refused
  pub taught : IsTaught s all b
  pub tables : tables_of b ≡ over

-- what some rows taught after what was learned before, which was over the same tables
pub record LearnsRows (s : LongData) (old : Learned) (b : Basis) (rows : List Numbered) (new : Learned) (after : Basis) : Type 0 where
  pub stands : HasLearned s new.examples after
  pub kept : IsKept s new.kept.items new.examples
  pub tables : tables_of after ≡ tables_of b
  pub learns : (here : List Refused) × Learns s.typed (ground_of s (tables_of b)) old.examples (numbers_of rows) new.examples here × (new.refused ≡ old.refused ++ here)

-- a block of the sheet whose examples are of the rows that are kept
pub record IsInStep (s : LongData) (kept : List Numbered) (block : BlockData) : Type 0 where
  pub stands : StandsFor (ground_with s block) block (examples_of block)
  pub numbers : numbers_of kept ≡ example_rows (examples_of block)
  pub few : length kept ≤ MOST_EXAMPLES

-- what some rows of a block taught, of which some are kept now beside those before
pub record LearnsEach (s : LongData) (old : BlockData) (before after : Learned) (rows : List Numbered) (new : BlockData) : Type 0 where
  pub step : IsInStep s after.kept.items new
  pub tables : new.session.spaces.ground.tables ≡ old.session.spaces.ground.tables
  pub learns : (here : List Refused) × Learns s.typed (ground_with s old) (examples_of old) (numbers_of rows) (examples_of new) here × (after.refused ≡ before.refused ++ here)

-- what a row of a block taught that gives this text, or none
pub record LearnsRow (s : LongData) (old : BlockData) (before after : Learned) (row : ℕ) (text : Option (List ℕ)) (new : BlockData) : Type 0 where
  pub step : IsInStep s after.kept.items new
  pub tables : new.session.spaces.ground.tables ≡ old.session.spaces.ground.tables
  pub gives : (here : List Refused) × Gives (ground_with s old) (examples_of old) row text (examples_of new) here × (after.refused ≡ before.refused ++ here)

-- what an addition was answered, over each sheet of which the block has rows
abbrev pub Told : BlockData → BlockData → ℕ → List ℕ → Result ⊤ EditError → Type 0
Told old new row text answer = (g : Ground) (examples : List Example) → StandsFor g old examples
    → (after : List Example) × Answers g examples (Add row text) answer after × StandsFor g new after

-- a text was added to a block; one that was not accepted is among those that are refused now
abbrev pub Adds : BlockData → BlockData → ℕ → List ℕ → List Refused → List Refused → Bool → Type 0
Adds old new row text before after true = Told old new row text (Ok tt) × (after ≡ before)
Adds old new row text before after false = (reason : EditError) × (reason ≢ error.NoMemory) × Told old new row text (Err reason)
    × (after ≡ before ++ (record { row = row; reason = reason }) ∷ [])
