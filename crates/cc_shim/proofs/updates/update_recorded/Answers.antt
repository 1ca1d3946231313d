-- The append was refused, or the rest followed.
use Rattle.std.specs.Prelude.{Ok, length}
use Rattle.cc_shim.proofs.Pinning.{appended, bears-appended, covers-held, good-appended, still-appended, unappended, valid-appended}
use Rattle.cc_shim.proofs.updates.update_recorded.Goals as goal

pub write_stamped-requires-clause-holding : goal.write_stamped-requires-clause-holding
write_stamped-requires-clause-holding g c =
    let w = g.T.Turns.standing c.args.turns.now in
    let v = g.T.Turns.standing c.log_append.new.turns in
    still-appended w c.args.file c.args.pin.now c.args.at c.args.piece.now c.args.handle v (Ok c.in-Ok.lsn) c.requires.good c.requires.holding (rw c.requires.spelled at c.in-Ok.ensures.ends)

pub write_stamped-requires-clause-good : goal.write_stamped-requires-clause-good
write_stamped-requires-clause-good g c =
    let w = g.T.Turns.standing c.args.turns.now in
    let v = g.T.Turns.standing c.log_append.new.turns in
    good-appended w c.args.file c.args.pin.now c.args.at c.args.piece.now c.args.handle v (Ok c.in-Ok.lsn) c.requires.good c.requires.holding (rw c.requires.spelled at c.in-Ok.ensures.ends)

pub write_stamped-requires-clause-valid : goal.write_stamped-requires-clause-valid
write_stamped-requires-clause-valid g c =
    let w = g.T.Turns.standing c.args.turns.now in
    let v = g.T.Turns.standing c.log_append.new.turns in
    valid-appended w c.args.file c.args.pin.now c.args.at c.args.piece.now c.args.handle v (Ok c.in-Ok.lsn) c.requires.good c.requires.holding (rw c.requires.spelled at c.in-Ok.ensures.ends)
    (covers-held c.args.file c.args.at (length c.args.piece.now) c.args.pin.now c.requires.range) c.requires.valid

pub returns-in-Ok : goal.returns-in-Ok
returns-in-Ok g c =
    let w = g.T.Turns.standing c.args.turns.now in
    let v = g.T.Turns.standing c.log_append.new.turns in
    let x = g.T.Turns.standing c.write_stamped.new.turns in
    record {
      ends = appended w c.args.file c.args.pin.now c.args.at c.args.piece.now c.args.handle v x c.in-Ok.lsn c.write_stamped.result (rw c.requires.spelled at c.in-Ok.ensures.ends) c.write_stamped.ensures.ends;
      stamped =
          bears-appended w c.args.file c.args.pin.now c.args.at c.args.piece.now c.args.handle v (Ok c.in-Ok.lsn) c.requires.good c.requires.holding (rw c.requires.spelled at c.in-Ok.ensures.ends)
          x c.write_stamped.result c.requires.range c.write_stamped.ensures.stamped;
    }

pub returns-in-Err : goal.returns-in-Err
returns-in-Err g c =
    let w = g.T.Turns.standing c.args.turns.now in
    let v = g.T.Turns.standing c.log_append.new.turns in
    record {
      ends = unappended w c.args.file c.args.pin.now c.args.at c.args.piece.now c.args.handle v c.in-Err.error c.note_others.ensures.few c.requires.good c.requires.holding (rw c.requires.spelled at c.in-Err.ensures.ends);
      stamped = tt;
    }
