-- The row that is read, and what was found of sets there.
use Rattle.std.specs.Prelude.{◌≡◌, ℕ, ◌≤◌, Some, length}
use Rattle.std.specs.HashMap.{get}
use Rattle.std.specs.Bool.{nat_eq}
use Rattle.fill_arena.specs.Stands.{AtomStands, SourceStands, PartStands}
use Rattle.fill_object.specs.Kinds.{atoms_on, sources_on}
use Rattle.fill_object.specs.Leasts.{AreLeasts}
use Rattle.fill_object.specs.Spots.{AreSpotted}
use Rattle.fill_object.specs.declared.memo.Memo.{Memo}
use Rattle.fill_object.specs.declared.row.OnRow.{OnRow}

-- the sheet has the row
pub record IsOnRow (on : OnRow) : Type 0 where
  pub first : 1 ≤ on.row
  pub last : on.row ≤ length on.sheet.now.rows

-- what was found is so
pub record IsMemoOf (on : OnRow) (memo : Memo) : Type 0 where
  pub sources : (s : ℕ) (o : _) → get nat_eq memo.sources s ≡ Some o → AreLeasts (sources_on on) (SourceStands on.arena.now s) o.value.items
  pub parts : (s : ℕ) (o : _) → get nat_eq memo.parts s ≡ Some o → AreLeasts (atoms_on on) (PartStands on.arena.now s) o.value.items
  pub atoms : (s : ℕ) (o : _) → get nat_eq memo.atoms s ≡ Some o → AreLeasts (atoms_on on) (AtomStands on.arena.now s) o.value.items
  pub spots : AreSpotted on.prices.now on.arena.now memo.spots
