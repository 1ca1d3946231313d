-- The streams were synced, and the record logged.
use Rattle.cc_shim.proofs.Checkpointing.{all-synced}
use Rattle.cc_shim.proofs.checkpoints.log_synced.Goals as goal

pub returns-in-Ok : goal.returns-in-Ok
returns-in-Ok g c =
    let w = g.T.Turns.standing c.args.turns.now in
    let v = g.T.Turns.standing c.sync_all.new.turns in
    let x = g.T.Turns.standing c.log_record.new.turns in
    record { ends = all-synced w v c.args.handle c.args.found.now c.args.spelled.now x c.log_record.result c.in-Ok.ensures.ends c.log_record.ensures.ends }
