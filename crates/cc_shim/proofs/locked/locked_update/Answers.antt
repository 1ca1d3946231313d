-- The state was not told, or the update went on by it.
use Rattle.std.specs.Prelude.{length, true}
use Rattle.cc_pieces.specs.Locks.{tested_range, update_refused}
use Rattle.cc_pieces.specs.Shim.{UpdateLeft}
use Rattle.cc_shim.proofs.Going.{gone-ends}
use Rattle.cc_shim.proofs.Pinning.{answered-earlier}
use Rattle.cc_calls.specs.Answers.{state_outcome}
use Rattle.cc_entry.specs.declared.call.Call.TheVariants as call
use Rattle.cc_entry.specs.declared.query.Query.TheVariants as query
use Rattle.std.specs.Prelude.{Ok}
use Rattle.cc_shim.proofs.LockedCalls.{locked-told, locked-untold}
use Rattle.cc_shim.proofs.locked.locked_update.Goals as goal

pub returns-in-Ok : goal.returns-in-Ok
returns-in-Ok g c =
    let w = g.T.Turns.standing c.args.turns.now in
    let v = g.T.Turns.standing c.file_state.new.turns in
    let x = g.T.Turns.standing c.update_found.new.turns in
    record {
      ends = locked-told c.args.file (tested_range c.args.at (length c.args.piece.now)) true (λ u me. UpdateLeft u me c.args.file c.args.at c.args.piece.now) w v x (λ state. update_refused c.args.at (length c.args.piece.now) state) c.in-Ok.state c.update_found.result c.in-Ok.ensures.ends c.update_found.ensures.ends;
      stamped = answered-earlier c.args.file c.args.at (length c.args.piece.now) c.update_found.result w.seen v.seen x.seen (gone-ends state_outcome w v (call.Query (query.State c.args.file)) (Ok c.in-Ok.state) c.in-Ok.ensures.ends).grew c.update_found.ensures.stamped;
    }

pub returns-in-Err : goal.returns-in-Err
returns-in-Err g c =
    let w = g.T.Turns.standing c.args.turns.now in
    let v = g.T.Turns.standing c.file_state.new.turns in
    record {
      ends = locked-untold c.args.file (tested_range c.args.at (length c.args.piece.now)) true (λ u me. UpdateLeft u me c.args.file c.args.at c.args.piece.now) w v (λ state. update_refused c.args.at (length c.args.piece.now) state) c.in-Err.error c.note_others.ensures.few c.in-Err.ensures.ends;
      stamped = tt;
    }
