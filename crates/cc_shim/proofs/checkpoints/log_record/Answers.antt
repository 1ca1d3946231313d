-- The record was appended, and the log flushed; or it was not appended.
use Rattle.cc_shim.proofs.Checkpointing.{record-logged, record-unlogged}
use Rattle.cc_shim.proofs.checkpoints.log_record.Goals as goal

pub returns-in-Ok : goal.returns-in-Ok
returns-in-Ok g c =
    let w = g.T.Turns.standing c.args.turns.now in
    let v = g.T.Turns.standing c.log_append.new.turns in
    let x = g.T.Turns.standing c.flush_record.new.turns in
    record { ends = record-logged w v c.args.handle c.args.spelled.now x c.in-Ok.lsn c.flush_record.result c.in-Ok.ensures.ends c.flush_record.ensures.ends }

pub returns-in-Err : goal.returns-in-Err
returns-in-Err g c =
    let w = g.T.Turns.standing c.args.turns.now in
    let v = g.T.Turns.standing c.log_append.new.turns in
    record { ends = record-unlogged w v c.args.handle c.args.spelled.now c.in-Err.error c.note_others.ensures.few c.in-Err.ensures.ends }
