-- When the spaces are compacted after an edit.
use Rattle.std.specs.Prelude.{◌≡◌, ◌+◌, ◌<◌, ℕ, Bool, true, ⊤}
use Rattle.fill_tree.specs.declared.user.Edit.{Edit}
use Rattle.fill_tree.specs.declared.user.Edit.TheVariants.{Add, Correct, Retract, Clear}

-- how far the spaces may grow past twice their size after the last compaction, in sets and graphs
abbrev pub slack : ℕ
slack = 1024

-- the edit leaves spaces behind that a compaction may take; the flag tells whether the history forgets a state by it
abbrev pub LeavesSpaces : Edit → Bool → Type 0
LeavesSpaces (Add row text) forgets = forgets ≡ true
LeavesSpaces (Correct row text) forgets = ⊤
LeavesSpaces (Retract row) forgets = ⊤
LeavesSpaces Clear forgets = ⊥

-- a compaction is due after the edit, with spaces of this size that had the last size after the last compaction
pub record IsCompactionDue (edit : Edit) (forgets : Bool) (size last : ℕ) : Type 0 where
  pub leaves : LeavesSpaces edit forgets
  pub grown : last + last + slack < size
