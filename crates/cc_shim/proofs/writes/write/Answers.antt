-- The state was not told, or the write went on by it.
use Rattle.cc_shim.proofs.Told.{state-small}
use Rattle.cc_shim.proofs.Writing.{write-told, write-untold}
use Rattle.cc_shim.proofs.writes.write.Goals as goal

pub write_told-requires-clause-valid : goal.write_told-requires-clause-valid
write_told-requires-clause-valid g c =
    let w = g.T.Turns.standing c.args.turns.now in
    let v = g.T.Turns.standing c.file_state.new.turns in
    (state-small w.setup w.number c.args.file c.in-Ok.state w.seen v.seen c.in-Ok.ensures.ends.left c.file_state.ensures.good).0

pub returns-in-Ok : goal.returns-in-Ok
returns-in-Ok g c =
    let w = g.T.Turns.standing c.args.turns.now in
    let v = g.T.Turns.standing c.file_state.new.turns in
    record { ends = write-told w v c.args.file c.args.at c.args.piece.now c.if-piece-gt-PIECE.false (g.T.Turns.standing c.write_told.new.turns) c.in-Ok.state c.write_told.result c.in-Ok.ensures.ends c.write_told.ensures.ends }

pub returns-in-Err : goal.returns-in-Err
returns-in-Err g c =
    let w = g.T.Turns.standing c.args.turns.now in
    let v = g.T.Turns.standing c.file_state.new.turns in
    record { ends = write-untold w v c.args.file c.args.at c.args.piece.now c.if-piece-gt-PIECE.false c.in-Err.error c.note_others.ensures.few c.in-Err.ensures.ends }
