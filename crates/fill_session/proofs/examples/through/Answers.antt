use Rattle.std.proofs.Common.{nat_le, rules}
use Rattle.std.proofs.lemmas.List.Sorted.{IsPartitionPoint-from_clause, IsPartitionedBy-leb}
use Rattle.fill_tree.specs.declared.user.Example.{Example}
use Rattle.fill_session.proofs.Rising.{is_count, not_falling}
use Rattle.fill_session.proofs.examples.through.Goals as goal

pub returns-clause-count : goal.returns-clause-count
returns-clause-count c =
    is_count (λ (x : Example). nat_le x.row c.args.row) c.args.examples.now c.partition_point.result c.partition_point.ensures.bound
    (IsPartitionPoint-from_clause (λ (x : Example). nat_le x.row c.args.row) c.args.examples.now c.partition_point.result c.partition_point.ensures.partitioned
    (IsPartitionedBy-leb (λ (x : Example). x.row) c.args.examples.now c.args.row (not_falling c.args.examples.now c.requires)) (λ a r q k. search rules))
