-- The write was refused, or the set-dirty behind it, or both were done.
use Rattle.std.specs.Prelude.{Ok, Err}
use Rattle.cc_shim.proofs.Pinning.{bearing, for-want, stamped, unwritten}
use Rattle.cc_shim.proofs.updates.write_stamped.Goals as goal

pub returns-in-Ok-set_dirty : goal.returns-in-Ok-set_dirty
returns-in-Ok-set_dirty g c =
    let w = g.T.Turns.standing c.args.turns.now in
    let v = g.T.Turns.standing c.pinned_write.new.turns in
    let x = g.T.Turns.standing c.set_dirty.new.turns in
    record {
      ends = stamped w v c.args.pin.now c.args.at c.args.piece.now c.args.lsn x (Ok tt) tt c.in-Ok.ensures.ends c.in-Ok-set_dirty.ensures.ends;
      stamped = bearing w v c.args.pin.now c.args.at c.args.piece.now c.args.lsn x c.requires.good c.in-Ok.ensures.ends c.in-Ok-set_dirty.ensures.ends;
    }

pub returns-in-Err-set_dirty : goal.returns-in-Err-set_dirty
returns-in-Err-set_dirty g c =
    let w = g.T.Turns.standing c.args.turns.now in
    let v = g.T.Turns.standing c.pinned_write.new.turns in
    let x = g.T.Turns.standing c.set_dirty.new.turns in
    record {
      ends =
          stamped w v c.args.pin.now c.args.at c.args.piece.now c.args.lsn x (Err c.in-Err-set_dirty.error) c.note_others.ensures.few c.in-Ok.ensures.ends
          c.in-Err-set_dirty.ensures.ends;
      stamped = tt;
    }

pub returns-in-Err : goal.returns-in-Err
returns-in-Err g c =
    let w = g.T.Turns.standing c.args.turns.now in
    let v = g.T.Turns.standing c.pinned_write.new.turns in
    let want = for-want w v c.args.pin.now c.args.at c.args.piece.now c.args.lsn c.in-Err.error c.requires.holding c.requires.covers c.requires.good c.requires.valid c.in-Err.ensures.ends in
    record {
      ends = unwritten w v c.args.pin.now c.args.at c.args.piece.now c.args.lsn c.in-Err.error c.note_others-in-Err.ensures.few want c.in-Err.ensures.ends;
      stamped = tt;
    }
