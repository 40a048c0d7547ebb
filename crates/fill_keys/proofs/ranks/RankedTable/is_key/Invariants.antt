use Rattle.std.proofs.Common.{map, nat_eq}
use Rattle.std.specs.HashSet.{contains}
use Rattle.fill_keys.specs.Ranks.{number_of, rank_in}
use Rattle.fill_keys.proofs.MetLaws.{MetSoFar}
use Rattle.fill_keys.proofs.ranks.RankedTable.is_key.Given as goal

abbrev pub invariant-loop-row : goal.invariant-loop-row
invariant-loop-row l = MetSoFar (λ k. number_of (map (rank_in l.self.columns.items k) l.columns)) l.row (λ v. contains nat_eq l.numbers_so_far v)
