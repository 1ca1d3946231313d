-- The log was flushed, or not.
use Rattle.cc_shim.proofs.Checkpointing.{record-flushed, record-unflushed}
use Rattle.cc_shim.proofs.checkpoints.flush_record.Goals as goal

pub returns-in-Ok : goal.returns-in-Ok
returns-in-Ok g c =
    let w = g.T.Turns.standing c.args.turns.now in
    let v = g.T.Turns.standing c.log_flush.new.turns in
    record { ends = record-flushed w v c.args.handle c.args.lsn c.in-Ok.ensures.ends }

pub returns-in-Err : goal.returns-in-Err
returns-in-Err g c =
    let w = g.T.Turns.standing c.args.turns.now in
    let v = g.T.Turns.standing c.log_flush.new.turns in
    record { ends = record-unflushed w v c.args.handle c.args.lsn c.in-Err.error c.note_others.ensures.few c.in-Err.ensures.ends }
