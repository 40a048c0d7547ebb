use Rattle.std.proofs.Common.{◌≡◌, ◌<◌, drop, map}
use Rattle.fill_keys.specs.Ranks.{number_after, number_of, rank_in}
use Rattle.fill_keys.proofs.ranks.RankedTable.number.Given as goal

abbrev pub invariant-loop-i : goal.invariant-loop-i
invariant-loop-i l = record {
  after : number_after l.number (map (rank_in l.self.columns.items l.row) (drop l.i l.columns)) ≡ number_of (map (rank_in l.self.columns.items l.row) l.columns);
  none : l.i < 1 → l.number < 1;
  one : l.i < 2 → l.number < 65536;
  two : l.i < 3 → l.number < 4294967296;
}
