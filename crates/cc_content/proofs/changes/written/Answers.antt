-- The write leaves the blocks mapped, so the range may be used after it; the pages stand for the written bytes.
use Rattle.std.proofs.Common.{◌-◌, length, get_or, None, Some, ap, subst, ◌∙◌}
use Rattle.std.specs.List.{list_all}
use Rattle.cc_entry.specs.Pages.{whole_range, blocks_of}
use Rattle.cc_resident.specs.Residents.{is_block_among}
use Rattle.cc_content.specs.Done.{UsesBlocks, used_if}
use Rattle.cc_content.proofs.KeptBlocks.{kept-all_mapped}
use Rattle.cc_content.proofs.ChangesStand.{stands-written, Changed, Changed-then}
use Rattle.cc_content.proofs.changes.written.Goals as goal

pub use_range-requires : goal.use_range-requires
use_range-requires c =
    let r = whole_range c.args.at (length c.args.bytes.now) in
    ap (λ order. list_all (λ b. is_block_among b order) (blocks_of r)) c.write.ensures.blocks
    ∙ kept-all_mapped c.args.pages.now r c.requires.resident

pub returns-then-uses : goal.returns-then-uses
returns-then-uses c = λ opening h pass call reply was is uses starts mapped.
    let m = c.args.pages.now in
    let at = c.args.at in
    let bytes = c.args.bytes.now in
    let r = whole_range at (length bytes) in
    let changed =
    Changed-then m c.write.new.self c.use_range.new.self r (λ i. get_or bytes (i - at) 0)
    (Some r) c.write.ensures.bytes c.write.ensures.blocks c.write.ensures.quota c.write.ensures.size
    (record { pages = c.use_range.ensures.pages; quota = c.use_range.ensures.quota; size = c.use_range.ensures.size }) c.use_range.ensures.blocks c.use_range.ensures.shared in
    stands-written opening h pass call reply m c.use_range.new.self at bytes (Some r) changed was
    (kept-all_mapped m r c.requires.resident)
    is (subst (λ u. UsesBlocks h pass call reply (used_if u r)) c.if-uses.true uses) starts mapped

pub returns-else-uses : goal.returns-else-uses
returns-else-uses c = λ opening h pass call reply was is uses starts mapped.
    let m = c.args.pages.now in
    let at = c.args.at in
    let bytes = c.args.bytes.now in
    let r = whole_range at (length bytes) in
    let changed : Changed m c.write.new.self r (λ i. get_or bytes (i - at) 0) None =
    record { bytes = c.write.ensures.bytes; blocks = c.write.ensures.blocks; quota = c.write.ensures.quota; size = c.write.ensures.size } in
    stands-written opening h pass call reply m c.write.new.self at bytes None changed was tt
    is (subst (λ u. UsesBlocks h pass call reply (used_if u r)) c.if-uses.false uses) starts mapped
