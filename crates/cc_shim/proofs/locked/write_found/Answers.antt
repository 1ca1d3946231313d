-- The state refuses it, the test does, or the write was made.
use Rattle.std.proofs.Common.{sym, ◌∙◌}
use Rattle.std.specs.Prelude.{nat_lt, length, true}
use Rattle.cc_pieces.specs.Locks.{tested_range, write_refused}
use Rattle.cc_pieces.specs.Shim.{WriteTested}
use Rattle.cc_shim.specs.Ends.{ListEnds}
use Rattle.cc_shim.specs.Locked.{WriteFound}
use Rattle.cc_shim.proofs.Going.{handed}
use Rattle.cc_shim.proofs.LockedCalls.{found-made, found-refused, found-untested, write-tells}
use Rattle.cc_shim.proofs.locked.write_found.Goals as goal

pub returns-in-Some : goal.returns-in-Some
returns-in-Some g c =
    let w = g.T.Turns.standing c.args.turns.now in
    record {
      ends =
          found-refused c.args.file (tested_range c.args.at (length c.args.piece.now)) true (λ u me. WriteTested u me c.args.file c.args.at c.args.piece.now (nat_lt 1048576 (length c.args.piece.now))) w (write_refused c.args.at (length c.args.piece.now) c.args.state.now) c.in-Some.refusal (sym c.write_refusal.ensures ∙ c.in-Some.is)
          (write-tells w c.args.at (length c.args.piece.now) c.args.state.now c.in-Some.refusal (sym c.write_refusal.ensures ∙ c.in-Some.is));
    }

pub returns-in_err-test_range : goal.returns-in_err-test_range
returns-in_err-test_range g c =
    let w = g.T.Turns.standing c.args.turns.now in
    let v = g.T.Turns.standing c.test_range.new.turns in
    record {
      ends =
          handed (λ answer. ListEnds w v (WriteFound w c.args.file c.args.at c.args.piece.now c.args.state.now) answer)
          c.from_residual.result c.in_err-test_range.field-0.0 c.from_residual.ensures.1
          (found-untested c.args.file (tested_range c.args.at (length c.args.piece.now)) true (λ u me. WriteTested u me c.args.file c.args.at c.args.piece.now (nat_lt 1048576 (length c.args.piece.now))) w v (write_refused c.args.at (length c.args.piece.now) c.args.state.now) c.in_err-test_range.field-0.0 (sym c.write_refusal.ensures ∙ c.in_default.is) c.in_err-test_range.ensures.ends);
    }

pub returns : goal.returns
returns g c =
    let w = g.T.Turns.standing c.args.turns.now in
    let v = g.T.Turns.standing c.test_range.new.turns in
    let x = g.T.Turns.standing c.write.new.turns in
    record {
      ends = found-made c.args.file (tested_range c.args.at (length c.args.piece.now)) true (λ u me. WriteTested u me c.args.file c.args.at c.args.piece.now (nat_lt 1048576 (length c.args.piece.now))) w v x (write_refused c.args.at (length c.args.piece.now) c.args.state.now) c.write.result (sym c.write_refusal.ensures ∙ c.in_default.is) c.in_ok-test_range.ensures.ends c.write.ensures.ends;
    }
