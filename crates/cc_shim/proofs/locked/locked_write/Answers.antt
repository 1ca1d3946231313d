-- The state was not told, or the write went on by it.
use Rattle.std.specs.Prelude.{nat_lt, length, true}
use Rattle.cc_pieces.specs.Locks.{tested_range, write_refused}
use Rattle.cc_pieces.specs.Shim.{WriteTested}
use Rattle.cc_shim.proofs.LockedCalls.{locked-told, locked-untold}
use Rattle.cc_shim.proofs.Told.{state-small}
use Rattle.cc_shim.proofs.locked.locked_write.Goals as goal

pub write_found-requires-clause-valid : goal.write_found-requires-clause-valid
write_found-requires-clause-valid g c =
    let w = g.T.Turns.standing c.args.turns.now in
    let v = g.T.Turns.standing c.file_state.new.turns in
    (state-small w.setup w.number c.args.file c.in-Ok.state w.seen v.seen c.in-Ok.ensures.ends.left c.file_state.ensures.good).0

pub returns-in-Ok : goal.returns-in-Ok
returns-in-Ok g c =
    let w = g.T.Turns.standing c.args.turns.now in
    let v = g.T.Turns.standing c.file_state.new.turns in
    let x = g.T.Turns.standing c.write_found.new.turns in
    record {
      ends = locked-told c.args.file (tested_range c.args.at (length c.args.piece.now)) true (λ u me. WriteTested u me c.args.file c.args.at c.args.piece.now (nat_lt 1048576 (length c.args.piece.now))) w v x (λ state. write_refused c.args.at (length c.args.piece.now) state) c.in-Ok.state c.write_found.result c.in-Ok.ensures.ends c.write_found.ensures.ends;
    }

pub returns-in-Err : goal.returns-in-Err
returns-in-Err g c =
    let w = g.T.Turns.standing c.args.turns.now in
    let v = g.T.Turns.standing c.file_state.new.turns in
    record {
      ends = locked-untold c.args.file (tested_range c.args.at (length c.args.piece.now)) true (λ u me. WriteTested u me c.args.file c.args.at c.args.piece.now (nat_lt 1048576 (length c.args.piece.now))) w v (λ state. write_refused c.args.at (length c.args.piece.now) state) c.in-Err.error c.note_others.ensures.few c.in-Err.ensures.ends;
    }
