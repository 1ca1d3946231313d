use Rattle.std.proofs.Common.{arith, ◌∙◌}
use Rattle.std.specs.Mem.Slots.{slots_filled, slots_len, slots_counts}
use Rattle.cc_board.proofs.Closing.{filled_after, emptied_after, taken_more}
use Rattle.cc_board.proofs.board.take_out.Goals as goal

pub loop-slot-preserved : goal.loop-slot-preserved
loop-slot-preserved g c = let i = c.loop-slot.invariant in let row = c.loop-slot.closed.slots in let long = (slots_counts row).1 in let others = c.take.ensures.others in let low = c.loop-slot-test.true in
    record {
      filled = rw others.1 (rw others.2 (filled_after (slots_filled row) c.loop-slot.slot (slots_len row) i.filled));
      emptied = rw others.1 (emptied_after (slots_filled row) c.loop-slot.slot (omega arith) i.emptied);
      items = others.0 ∙ i.items;
      count = others.2 ∙ i.count;
      taken = rw (c.push_reserved.ensures.items, i.taken) (taken_more _ c.loop-slot.slot _ _ (rw (← i.items) c.take.ensures.value) (omega arith));
      within = omega arith;
      room = omega arith;
    }
