use Rattle.std.proofs.Common.{nat_lt, rules}
use Rattle.std.proofs.lemmas.List.Sorted.{IsPartitionPoint-from_clause, IsPartitionedBy-ltb}
use Rattle.cc_holds.specs.declared.block_rows.BlockRow.{BlockRow}
use Rattle.cc_holds.proofs.BlockRows.{rows-rise, place-at}
use Rattle.cc_holds.proofs.block_rows.place_of.Goals as goal

pub returns : goal.returns
returns c =
    let point = IsPartitionPoint-from_clause (λ (row : BlockRow). nat_lt row.block c.args.block) _ _ c.partition_point.ensures.partitioned
    (IsPartitionedBy-ltb (λ (row : BlockRow). row.block) _ c.args.block (rows-rise _ c.requires)) (λ a r q k. search rules) in
    place-at c.args.block c.args.rows.now _ c.partition_point.ensures.bound point
