use Rattle.std.proofs.Common.{◌≡◌, ◌+◌, [], length, reverse, drop}
use Rattle.std.specs.Prelude.{vec_capacity}
use Rattle.cc_turns.specs.Desk.{LogIsHome}
use Rattle.cc_world.specs.World.{AreAt}
use Rattle.cc_world.proofs.places.logs_of.Given as goal

abbrev pub invariant-loop-file : goal.invariant-loop-file
invariant-loop-file g l = record {
  logs : AreAt (length l.logs.items) (LogIsHome g.L.LogFile.told g.L.LogFile.faults l.fn.files.items []) l.logs.items;
  left : reverse l.files.items ≡ drop (length l.logs.items) l.fn.files.items;
  counted : length l.files.items + length l.logs.items ≡ length l.fn.files.items;
  room : vec_capacity l.logs ≡ vec_capacity l.fn.logs;
  capacity : vec_capacity l.files ≡ vec_capacity l.fn.files;
}

abbrev pub decreases-loop-file : goal.decreases-loop-file
decreases-loop-file g l = goal.left-loop-file g l
