use Rattle.std.proofs.Common.{◌≡◌, ℕ, ◌-◌, ◌<◌, ◌≤◌, false, get_or, take}
use Rattle.std.specs.Prelude.{vec_capacity}
use Rattle.std.specs.Mem.Slots.{slots_filled, slots_items, slots_len}
use Rattle.std.specs.Mem.Slots.Ownership.{Filled}
use Rattle.cc_board.proofs.board.take_out.Given as goal

abbrev pub invariant-loop-slot : goal.invariant-loop-slot
invariant-loop-slot g l = record {
  filled : Filled (slots_filled l.closed.slots) l.slot (slots_len l.closed.slots);
  emptied : (k : ℕ) → k < l.slot → get_or (slots_filled l.closed.slots) k false ≡ false;
  items : slots_items l.closed.slots ≡ slots_items l.fn.closed.slots;
  count : slots_len l.closed.slots ≡ slots_len l.fn.closed.slots;
  taken : l.room.items ≡ take l.slot (slots_items l.fn.closed.slots);
  within : l.slot ≤ slots_len l.closed.slots;
  room : slots_len l.closed.slots ≤ vec_capacity l.room;
}

abbrev pub decreases-loop-slot : goal.decreases-loop-slot
decreases-loop-slot g l = slots_len l.closed.slots - l.slot
