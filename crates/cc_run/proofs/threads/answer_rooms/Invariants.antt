-- The rooms of the callers above this one are there.
use Rattle.std.proofs.Common.{◌≡◌, ℕ, ◌+◌, ◌-◌, ◌≤◌, length}
use Rattle.std.specs.Prelude.{slice_get, vec_capacity}
use Rattle.std.specs.declared.option.Option.TheVariants.{Some}
use Rattle.std.specs.declared.vec.Vec.{Vec}
use Rattle.std.specs.Global.{Global}
use Rattle.cc_entry.specs.declared.answer.Answer.{Answer}
use Rattle.cc_turns.specs.Places.{IsRoomFor}
use Rattle.cc_run.specs.Callers.{count_of_caller}
use Rattle.cc_run.proofs.threads.answer_rooms.Given as goal

abbrev pub invariant-loop-caller : goal.invariant-loop-caller
invariant-loop-caller l = record {
  counted : length l.rooms.items + l.caller ≡ 16;
  room : 16 ≤ vec_capacity l.rooms;
  each : (n : ℕ) (room : Vec Answer Global) → slice_get l.rooms.items n ≡ Some room → IsRoomFor (count_of_caller (16 - n) l.lines) room.items (vec_capacity room);
}

abbrev pub decreases-loop-caller : goal.decreases-loop-caller
decreases-loop-caller l = l.caller
