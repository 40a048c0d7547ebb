use Rattle.std.proofs.Common.{◌≡◌, suc, length, bytes_eq}
use Rattle.std.specs.HashMap.{get_by}
use Rattle.fill_text.specs.Data.{table_cell_at}
use Rattle.fill_keys.proofs.MetLaws.{RankedSoFar}
use Rattle.fill_keys.proofs.ranks.ranks_of.Given as goal

abbrev pub invariant-loop-row : goal.invariant-loop-row
invariant-loop-row l = record {
  count : suc (length l.ranks) ≡ l.row;
  ranked : RankedSoFar (λ row. table_cell_at l.tables l.table row l.column) (λ t. get_by (λ k. bytes_eq t k.now) l.firsts) l.ranks;
}
