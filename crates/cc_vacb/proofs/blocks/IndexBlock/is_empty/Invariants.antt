use Rattle.std.proofs.Common.{◌≡◌, take, count_by}
use Rattle.cc_vacb.specs.Slots.{is_used}
use Rattle.cc_vacb.proofs.blocks.IndexBlock.is_empty.Given as goal

abbrev pub invariant-loop-slot : goal.invariant-loop-slot
invariant-loop-slot l = count_by is_used (take l.slot-index l.slot-items) ≡ 0
