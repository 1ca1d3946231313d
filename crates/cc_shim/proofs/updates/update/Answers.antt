-- It was not pinned; or what was done under the pin was done, and the pin ended.
use Rattle.cc_shim.proofs.Pinning.{bears-updated, unpinned, updated}
use Rattle.cc_shim.proofs.updates.update.Goals as goal

pub returns-in-Ok : goal.returns-in-Ok
returns-in-Ok g c =
    let w = g.T.Turns.standing c.args.turns.now in
    let v = g.T.Turns.standing c.pin_read.new.turns in
    record {
      ends = updated w v c.args.file c.args.at c.args.piece.now c.in-Ok.pin c.in-Ok.ensures.ends (g.T.Turns.standing c.update_pinned-answer.new.turns) (g.T.Turns.standing c.unpin.new.turns) c.update_pinned-answer.result c.update_pinned-answer.ensures.ends c.unpin.ensures.ends;
      stamped =
          bears-updated w v c.args.file c.args.at c.args.piece.now c.in-Ok.pin c.in-Ok.ensures.ends (g.T.Turns.standing c.update_pinned-answer.new.turns) (g.T.Turns.standing c.unpin.new.turns)
          c.update_pinned-answer.result c.unpin.ensures.ends c.update_pinned-answer.ensures.stamped;
    }

pub returns-in-Err : goal.returns-in-Err
returns-in-Err g c =
    let w = g.T.Turns.standing c.args.turns.now in
    let v = g.T.Turns.standing c.pin_read.new.turns in
    record { ends = unpinned w v c.args.file c.args.at c.args.piece.now c.in-Err.error c.note_others.ensures.few c.in-Err.ensures.ends; stamped = tt }
