-- The table was told, and the rest followed; or it was not told.
use Rattle.cc_shim.proofs.Checkpointing.{table-told, table-untold}
use Rattle.cc_shim.proofs.checkpoints.checkpoint_streams.Goals as goal

pub returns-in-Ok : goal.returns-in-Ok
returns-in-Ok g c =
    let w = g.T.Turns.standing c.args.turns.now in
    let v = g.T.Turns.standing c.dirty_pages.new.turns in
    let x = g.T.Turns.standing c.log_rows.new.turns in
    record { ends = table-told w v c.args.streams c.args.handle x c.in-Ok.rows c.log_rows.result c.in-Ok.ensures.ends (rw c.as_slice.ensures at c.log_rows.ensures.ends) }

pub returns-in-Err : goal.returns-in-Err
returns-in-Err g c =
    let w = g.T.Turns.standing c.args.turns.now in
    let v = g.T.Turns.standing c.dirty_pages.new.turns in
    record { ends = table-untold w v c.args.streams c.args.handle c.in-Err.error c.note_others.ensures.few c.in-Err.ensures.ends }
