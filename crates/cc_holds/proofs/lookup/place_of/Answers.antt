-- By the place of the search: past the last hold, at the hold of the id, or at one of a greater id.
use Rattle.std.proofs.Common.{nat_lt, rules, arith}
use Rattle.std.proofs.lemmas.Bool.Decides.{nat_tests}
use Rattle.std.proofs.lemmas.List.Sorted.{IsPartitionPoint-from_clause, IsPartitionedBy-ltb}
use Rattle.cc_holds.specs.declared.holds.KeptHold.{KeptHold}
use Rattle.cc_holds.proofs.Places.{place-found, place-other, place-past}
use Rattle.cc_holds.proofs.lookup.place_of.Goals as goal

pub returns-then-place-holds-clause-value : goal.returns-then-place-holds-clause-value
returns-then-place-holds-clause-value c =
    let point = IsPartitionPoint-from_clause (λ (h : KeptHold). nat_lt h.row.id c.args.id) _ _ c.partition_point-place.ensures.partitioned
    (IsPartitionedBy-ltb (λ (h : KeptHold). h.row.id) _ c.args.id c.requires) (λ a r q k. search rules) in
    place-past c.args.holds.now c.args.id c.partition_point-place.result point (omega arith)

pub returns-then-hold-id-clause-value : goal.returns-then-hold-id-clause-value
returns-then-hold-id-clause-value c =
    let point = IsPartitionPoint-from_clause (λ (h : KeptHold). nat_lt h.row.id c.args.id) _ _ c.partition_point-place.ensures.partitioned
    (IsPartitionedBy-ltb (λ (h : KeptHold). h.row.id) _ c.args.id c.requires) (λ a r q k. search rules) in
    place-found c.args.holds.now c.args.id c.partition_point-place.result c.index-holds-place.result point c.index-holds-place.is
    (omega (arith, c.partition_point-place.ensures.bound)) (grind (arith, nat_tests))

pub returns-else-hold-id-clause-value : goal.returns-else-hold-id-clause-value
returns-else-hold-id-clause-value c =
    let point = IsPartitionPoint-from_clause (λ (h : KeptHold). nat_lt h.row.id c.args.id) _ _ c.partition_point-place.ensures.partitioned
    (IsPartitionedBy-ltb (λ (h : KeptHold). h.row.id) _ c.args.id c.requires) (λ a r q k. search rules) in
    place-other c.args.holds.now c.args.id c.partition_point-place.result c.index-holds-place.result c.requires point c.index-holds-place.is
    (omega (arith, c.partition_point-place.ensures.bound)) (grind (arith, nat_tests))
