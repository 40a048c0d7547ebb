use Rattle.std.proofs.Common.{◌≡◌, ℕ, suc, List, length, slice_get, Some}
use Rattle.fill_keys.specs.Ranks.{AreRanks}
use Rattle.fill_keys.proofs.ranks.RankedTable.new.Given as goal

abbrev pub invariant-loop-column : goal.invariant-loop-column
invariant-loop-column l = record {
  count : suc (length l.columns.items) ≡ l.column;
  each : (c : ℕ) (ranks : List ℕ) → slice_get l.columns.items c ≡ Some ranks → AreRanks l.tables l.table (suc c) ranks;
}
