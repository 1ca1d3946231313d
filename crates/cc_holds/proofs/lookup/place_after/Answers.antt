use Rattle.std.proofs.Common.{nat_le, rules}
use Rattle.std.proofs.lemmas.List.Sorted.{IsPartitionPoint-from_clause, IsPartitionedBy-leb}
use Rattle.cc_holds.specs.declared.holds.KeptHold.{KeptHold}
use Rattle.cc_holds.proofs.Places.{place-after}
use Rattle.cc_holds.proofs.lookup.place_after.Goals as goal

pub returns-clause-value : goal.returns-clause-value
returns-clause-value c =
    let point = IsPartitionPoint-from_clause (λ (h : KeptHold). nat_le h.row.id c.args.id) _ _ c.partition_point.ensures.partitioned
    (IsPartitionedBy-leb (λ (h : KeptHold). h.row.id) _ c.args.id c.requires) (λ a r q k. search rules) in
    place-after c.args.holds.now c.args.id _ point c.partition_point.ensures.bound
