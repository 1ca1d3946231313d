-- The callers split so far have a number, a room and names each, taken from the last on; pass 0 knows how many.
use Rattle.std.proofs.Common.{◌≡◌, ◌≤◌, ◌+◌, ◌-◌, ◌++◌, ℕ, suc, Bool, List, length, vec_capacity}
use Rattle.std.specs.Prelude.{slice_get}
use Rattle.std.specs.Global.{Global}
use Rattle.std.specs.declared.vec.Vec.{Vec}
use Rattle.std.specs.declared.option.Option.TheVariants.{Some}
use Rattle.cc_entry.specs.declared.answer.Answer.{Answer}
use Rattle.cc_lines.specs.Holds.{NamesState}
use Rattle.cc_run.specs.Threads.{CallerIsMade}
use Rattle.cc_run.specs.declared.callers.Caller.{Caller}
use Rattle.cc_run.proofs.threads.split_all.Given as goal

abbrev pub invariant-loop-room : goal.invariant-loop-room
invariant-loop-room g l = record {
  gone : List (Vec Answer Global);
  left : l.rooms.items ++ gone ≡ l.initial.rooms.items;
  counted : length l.rooms.items + l.number ≡ 16;
  names_gone : List NamesState;
  names_left : l.names.items ++ names_gone ≡ l.initial.names.items;
  names_counted : length l.names.items ≡ length l.rooms.items;
  names_room : vec_capacity l.names ≡ vec_capacity l.initial.names;
  as_many : length l.callers.items ≡ l.number;
  room : 16 ≤ vec_capacity l.callers;
  drawn : Bool;
  first : l.first ≡ record l.initial.first { knows = record l.initial.first.knows { made = l.number + 1; drawn = drawn } };
  each : (n : ℕ) (caller : Caller g.row.D.Denot g.row.L.Denot g.row.Q.Denot) → slice_get l.callers.items n ≡ Some caller →
      (one : Vec Answer Global) × (own : NamesState) × (slice_get l.initial.rooms.items (15 - n) ≡ Some one)
      × (slice_get l.initial.names.items (15 - n) ≡ Some own) × CallerIsMade l.board l.initial.first (suc n) one own caller;
}

abbrev pub decreases-loop-room : goal.decreases-loop-room
decreases-loop-room g l = length l.rooms.items
