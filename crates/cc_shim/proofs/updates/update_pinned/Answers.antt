-- The state was not told; the stream has no log; the place is past the valid data length; or the rest followed.
use Rattle.cc_shim.proofs.Pinning.{bears-told, past-valid, pin-told, short-told, untold, valid-told, with-log, without-log}
use Rattle.cc_shim.proofs.updates.update_pinned.Goals as goal

pub returns-then-at-valid : goal.returns-then-at-valid
returns-then-at-valid g c =
    let w = g.T.Turns.standing c.args.turns.now in
    let v = g.T.Turns.standing c.file_state.new.turns in
    record { ends = past-valid w v c.args.file c.args.pin.now c.args.at c.args.piece.now c.requires.holding c.file_state.ensures.good c.in-Ok.state c.in-Ok.ensures.ends c.in-Some.handle c.in-Some.is c.if-at-valid.true; stamped = tt }

pub update_logged-requires-clause-holding : goal.update_logged-requires-clause-holding
update_logged-requires-clause-holding g c =
    let w = g.T.Turns.standing c.args.turns.now in
    let v = g.T.Turns.standing c.file_state.new.turns in
    pin-told w v c.args.file c.args.pin.now c.args.at c.args.piece.now c.requires.holding c.file_state.ensures.good c.in-Ok.state c.in-Ok.ensures.ends

pub update_logged-requires-clause-short : goal.update_logged-requires-clause-short
update_logged-requires-clause-short g c =
    let w = g.T.Turns.standing c.args.turns.now in
    let v = g.T.Turns.standing c.file_state.new.turns in
    short-told w v c.args.file c.args.pin.now c.args.at c.args.piece.now c.requires.holding c.file_state.ensures.good c.in-Ok.state c.in-Ok.ensures.ends c.requires.made

pub update_logged-requires-clause-valid : goal.update_logged-requires-clause-valid
update_logged-requires-clause-valid g c =
    let w = g.T.Turns.standing c.args.turns.now in
    let v = g.T.Turns.standing c.file_state.new.turns in
    valid-told w v c.args.file c.args.pin.now c.args.at c.args.piece.now c.requires.holding c.file_state.ensures.good c.in-Ok.state c.in-Ok.ensures.ends c.requires.range c.if-at-valid.false

pub returns-else-at-valid : goal.returns-else-at-valid
returns-else-at-valid g c =
    let w = g.T.Turns.standing c.args.turns.now in
    let v = g.T.Turns.standing c.file_state.new.turns in
    record {
      ends = with-log w v c.args.file c.args.pin.now c.args.at c.args.piece.now c.requires.holding c.file_state.ensures.good c.in-Ok.state c.in-Ok.ensures.ends c.in-Some.handle c.in-Some.is (g.T.Turns.standing c.update_logged.new.turns) c.update_logged.result c.if-at-valid.false c.update_logged.ensures.ends;
      stamped =
          bears-told w v c.args.file c.args.pin.now c.args.at c.args.piece.now c.requires.holding c.file_state.ensures.good c.in-Ok.state c.in-Ok.ensures.ends
          (g.T.Turns.standing c.update_logged.new.turns) c.update_logged.result c.update_logged.ensures.stamped;
    }

pub returns-in-None : goal.returns-in-None
returns-in-None g c =
    let w = g.T.Turns.standing c.args.turns.now in
    let v = g.T.Turns.standing c.file_state.new.turns in
    record { ends = without-log w v c.args.file c.args.pin.now c.args.at c.args.piece.now c.requires.holding c.file_state.ensures.good c.in-Ok.state c.in-Ok.ensures.ends c.in-None.is; stamped = tt }

pub returns-in-Err : goal.returns-in-Err
returns-in-Err g c =
    let w = g.T.Turns.standing c.args.turns.now in
    let v = g.T.Turns.standing c.file_state.new.turns in
    record { ends = untold w v c.args.file c.args.pin.now c.args.at c.args.piece.now c.requires.holding c.file_state.ensures.good c.in-Err.error c.note_others.ensures.few c.in-Err.ensures.ends; stamped = tt }
