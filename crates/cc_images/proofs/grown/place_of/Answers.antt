-- By the place of the search: past the last byte, at the page's, or at one of a later page.
use Rattle.std.proofs.Common.{◌/◌, ◌<◌, nat_lt, length, ◌∙◌, rules, arith}
use Rattle.std.proofs.lemmas.Bool.Decides.{nat_tests}
use Rattle.std.proofs.lemmas.List.{get_or_default}
use Rattle.std.proofs.lemmas.List.Sorted.{IsPartitionPoint-from_clause, IsPartitionedBy-ltb}
use Rattle.cc_images.proofs.GrownPlaces.{in-order, none-past, none-other}
use Rattle.cc_images.proofs.grown.place_of.Goals as goal

pub returns-then-place-len-clause-none : goal.returns-then-place-len-clause-none
returns-then-place-len-clause-none c = λ is.
    let point = IsPartitionPoint-from_clause (λ byte. nat_lt (byte / 4096) c.args.page) _ _ c.partition_point-place.ensures.partitioned
    (IsPartitionedBy-ltb (λ byte. byte / 4096) _ c.args.page (in-order c.args.bytes.now.items c.requires)) (λ a r q k. search rules) in
    none-past c.args.bytes.now.items c.args.page c.partition_point-place.result point (omega (arith, c.args.bytes.now.ok.0))

pub returns-then-byte-page-clause-some : goal.returns-then-byte-page-clause-some
returns-then-byte-page-clause-some c =
    let within : c.partition_point-place.result < length c.args.bytes.now.items = omega (arith, c.partition_point-place.ensures.bound, c.args.bytes.now.ok.0) in
    (within, grind (arith, nat_tests, c.index-byte.ensures ∙ get_or_default c.args.bytes.now.items c.partition_point-place.result c.index-byte.result.now 0 within))

pub returns-else-byte-page-clause-none : goal.returns-else-byte-page-clause-none
returns-else-byte-page-clause-none c = λ is.
    let point = IsPartitionPoint-from_clause (λ byte. nat_lt (byte / 4096) c.args.page) _ _ c.partition_point-place.ensures.partitioned
    (IsPartitionedBy-ltb (λ byte. byte / 4096) _ c.args.page (in-order c.args.bytes.now.items c.requires)) (λ a r q k. search rules) in
    let within : c.partition_point-place.result < length c.args.bytes.now.items = omega (arith, c.partition_point-place.ensures.bound, c.args.bytes.now.ok.0) in
    none-other c.args.bytes.now.items c.args.page c.partition_point-place.result point c.requires
    within (grind (arith, nat_tests, c.index-byte.ensures ∙ get_or_default c.args.bytes.now.items c.partition_point-place.result c.index-byte.result.now 0 within))
