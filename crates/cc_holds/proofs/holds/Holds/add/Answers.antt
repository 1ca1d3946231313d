use Rattle.std.proofs.Common.{ap, ◌∙◌, nat_lt, length, arith}
use Rattle.std.specs.List.{position_or_len}
use Rattle.cc_entry.specs.Pages.{blocks_of}
use Rattle.cc_holds.specs.Holds.{row_range}
use Rattle.cc_holds.proofs.HoldBlocks.{kept-added}
use Rattle.cc_holds.proofs.KeptBlocks.{range-of}
use Rattle.cc_holds.proofs.holds.Holds.add.Goals as goal

pub invariant_of-self-2 : goal.invariant_of-self-2
invariant_of-self-2 c =
    kept-added _ c.self.inside.holds.items c.self.inside.blocks c.add.new.self c.place_after-place.result c.block_range-first.result.0 c.block_range-first.result.1 c.insert_reserved.ensures.items c.reserve.ensures.items
    (c.place_after-place.ensures.value ∙ ap (position_or_len (λ h. nat_lt c.args.hold.id h.row.id)) (c.deref.ensures.value ∙ c.reserve.ensures.items))
    (omega (arith, c.place_after-place.ensures.within, ap length (c.deref.ensures.value ∙ c.reserve.ensures.items))) c.block_range-first.ensures.in_order
    (c.block_range-first.ensures.blocks ∙ ap blocks_of (range-of (row_range c.args.hold) c.from.ensures c.end_of.ensures)) c.in_ok-add.ensures.ok c.self.invariant
