use Rattle.std.proofs.Common.{◌≡◌, ◌≤◌, length, take}
use Rattle.std.specs.Prelude.{vec_capacity}
use Rattle.cc_restarts.specs.Restarting.{LogsRestarted}
use Rattle.cc_restarts.proofs.logs.restart_logs.Given as goal

abbrev pub invariant-loop-restart : goal.invariant-loop-restart
invariant-loop-restart g l = record {
  long : length l.ended.items ≡ l.restart-index;
  room : vec_capacity l.ended ≡ vec_capacity l.initial.ended;
  disks_count : length l.disks ≡ length l.fn.disks;
  logs_count : length l.logs ≡ length l.fn.logs;
  restarted : LogsRestarted g.D.Told.told g.D.Told.faults g.L.LogFile.told g.L.LogFile.faults l.streams (take l.restart-index l.restarts) l.ended.items l.fn.disks l.disks l.fn.logs l.logs;
}
