-- The state refuses it, the test does, or the update was made.
use Rattle.std.proofs.Common.{sym, ◌∙◌}
use Rattle.std.specs.Prelude.{length, true}
use Rattle.cc_pieces.specs.Locks.{tested_range, update_refused}
use Rattle.cc_pieces.specs.Shim.{UpdateLeft}
use Rattle.cc_shim.specs.Ends.{ListEnds}
use Rattle.cc_shim.specs.Locked.{UpdateFound}
use Rattle.cc_shim.proofs.Pinning.{answered-earlier}
use Rattle.cc_shim.specs.Ends.{BearsLsn}
use Rattle.std.specs.Prelude.{IfOk}
use Rattle.cc_shim.proofs.Going.{handed}
use Rattle.cc_shim.proofs.LockedCalls.{found-made, found-refused, found-untested, update-tells}
use Rattle.cc_shim.proofs.locked.update_found.Goals as goal

pub returns-in-Some : goal.returns-in-Some
returns-in-Some g c =
    let w = g.T.Turns.standing c.args.turns.now in
    record {
      ends =
          found-refused c.args.file (tested_range c.args.at (length c.args.piece.now)) true (λ u me. UpdateLeft u me c.args.file c.args.at c.args.piece.now) w (update_refused c.args.at (length c.args.piece.now) c.args.state.now) c.in-Some.refusal (sym c.update_refusal.ensures ∙ c.in-Some.is)
          (update-tells w c.args.at (length c.args.piece.now) c.args.state.now c.in-Some.refusal (sym c.update_refusal.ensures ∙ c.in-Some.is));
      stamped = tt;
    }

pub returns-in_err-test_range : goal.returns-in_err-test_range
returns-in_err-test_range g c =
    let w = g.T.Turns.standing c.args.turns.now in
    let v = g.T.Turns.standing c.test_range.new.turns in
    record {
      ends =
          handed (λ answer. ListEnds w v (UpdateFound w c.args.file c.args.at c.args.piece.now c.args.state.now) answer)
          c.from_residual.result c.in_err-test_range.field-0.0 c.from_residual.ensures.1
          (found-untested c.args.file (tested_range c.args.at (length c.args.piece.now)) true (λ u me. UpdateLeft u me c.args.file c.args.at c.args.piece.now) w v (update_refused c.args.at (length c.args.piece.now) c.args.state.now) c.in_err-test_range.field-0.0 (sym c.update_refusal.ensures ∙ c.in_default.is) c.in_err-test_range.ensures.ends);
      stamped = handed (λ answer. IfOk answer (λ lsn. BearsLsn c.args.file c.args.at (length c.args.piece.now) lsn w.seen v.seen)) c.from_residual.result c.in_err-test_range.field-0.0 c.from_residual.ensures.1 tt;
    }

pub returns : goal.returns
returns g c =
    let w = g.T.Turns.standing c.args.turns.now in
    let v = g.T.Turns.standing c.test_range.new.turns in
    let x = g.T.Turns.standing c.update.new.turns in
    record {
      ends = found-made c.args.file (tested_range c.args.at (length c.args.piece.now)) true (λ u me. UpdateLeft u me c.args.file c.args.at c.args.piece.now) w v x (update_refused c.args.at (length c.args.piece.now) c.args.state.now) c.update.result (sym c.update_refusal.ensures ∙ c.in_default.is) c.in_ok-test_range.ensures.ends c.update.ensures.ends;
      stamped = answered-earlier c.args.file c.args.at (length c.args.piece.now) c.update.result w.seen v.seen x.seen c.in_ok-test_range.ensures.ends.grew c.update.ensures.stamped;
    }
