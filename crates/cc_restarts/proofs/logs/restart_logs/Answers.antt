use Rattle.std.proofs.Common.{◌+◌, ◌∙◌, ap, get_or, length}
use Rattle.std.proofs.lemmas.List.{length-append, length-set}
use Rattle.cc_restarts.proofs.Counts.{one-fallen}
use Rattle.cc_restarts.proofs.Restarts.{restarted-next}
use Rattle.cc_restarts.proofs.logs.restart_logs.Goals as goal

pub loop-restart-preserved : goal.loop-restart-preserved
loop-restart-preserved g c =
    let told = g.D.Told.told in
    let faults = g.D.Told.faults in
    let log_told = g.L.LogFile.told in
    let log_count = g.L.LogFile.faults in
    let before = c.loop-restart.invariant in
    let was = get_or c.loop-restart.logs c.from.result c.index-logs-from.result in
    let now = c.restart_log-answer.new.log in
    let items = c.push_reserved.ensures.items in
    record {
      long = ap length items ∙ (length-append c.loop-restart.ended.items _ ∙ ap (λ k. k + 1) before.long);
      room = c.push_reserved.ensures.capacity ∙ before.room;
      disks_count =
          (one-fallen told faults log_told log_count _ c.args.streams.now c.restart_log-answer.result c.loop-restart.disks c.restart_log-answer.new.disks was now c.restart_log-answer.ensures).count
          ∙ before.disks_count;
      logs_count = length-set c.loop-restart.logs c.from.result now ∙ before.logs_count;
      restarted = restarted-next told faults log_told log_count c.args.streams.now c.args.restarts.now c.loop-restart.restart-index _ c.loop-restart.ended.items c.push_reserved.new.self.items
          c.args.disks.now c.loop-restart.disks c.restart_log-answer.new.disks c.args.logs.now c.loop-restart.logs c.from.result c.index-logs-from.result now c.restart_log-answer.result
          c.loop-restart-test.true c.requires.handles before.logs_count before.restarted c.from.ensures items c.restart_log-answer.ensures;
    }
