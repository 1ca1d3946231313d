use Rattle.std.proofs.Common.{◌≡◌, true, ◌++◌}
use Rattle.std.specs.Prelude.{is_some, vec_capacity}
use Rattle.std.specs.List.{list_all}
use Rattle.cc_turns.proofs.SlotSteps.{Returns, kept, picked, device_of, book_of, log_of, journal_of}
use Rattle.cc_turns.proofs.slots.Emptied.put_together.Given as goal

abbrev pub invariant-loop-slot : goal.invariant-loop-slot
invariant-loop-slot g l = record {
  full : list_all is_some l.slots.items ≡ true;
  disks : Returns device_of l.fn.slots.items l.slots.items l.disks.items (vec_capacity l.disks);
  books : Returns book_of l.fn.slots.items l.slots.items l.books.items (vec_capacity l.books);
  logs : Returns log_of l.fn.slots.items l.slots.items l.logs.items (vec_capacity l.logs);
  journal : picked journal_of l.slots.items ++ kept l.journal ≡ picked journal_of l.fn.slots.items;
}

abbrev pub decreases-loop-slot : goal.decreases-loop-slot
decreases-loop-slot g l = goal.left-loop-slot g l
