-- The gap was not zeroed, or the bytes were copied, or not.
use Rattle.cc_pieces.specs.Shim.{ToldWriteLeft}
use Rattle.cc_shim.specs.Ends.{ListEnds}
use Rattle.cc_shim.proofs.Going.{handed}
use Rattle.cc_shim.proofs.Writing.{write-copied, write-unzeroed}
use Rattle.cc_shim.proofs.writes.write_told.Goals as goal

pub returns-in_err-zero_gap : goal.returns-in_err-zero_gap
returns-in_err-zero_gap g c =
    let w = g.T.Turns.standing c.args.turns.now in
    let v = g.T.Turns.standing c.extend.new.turns in
    let x = g.T.Turns.standing c.zero_gap.new.turns in
    record {
      ends =
          handed (λ answer. ListEnds w x (ToldWriteLeft w.setup w.number c.args.file c.args.at c.args.piece.now c.args.state.now) answer)
          c.from_residual-in_err-zero_gap.result c.in_err-zero_gap.field-0.0 c.from_residual-in_err-zero_gap.ensures.1
          (write-unzeroed w c.args.file c.args.at c.args.piece.now c.args.state.now c.if-at-valid.false v c.in_ok-extend.ensures.ends x c.in_err-zero_gap.field-0.0 c.in_err-zero_gap.ensures.ends);
    }

pub returns : goal.returns
returns g c =
    let w = g.T.Turns.standing c.args.turns.now in
    let v = g.T.Turns.standing c.extend.new.turns in
    let x = g.T.Turns.standing c.zero_gap.new.turns in
    record {
      ends =
          write-copied w c.args.file c.args.at c.args.piece.now c.args.state.now c.if-at-valid.false v c.in_ok-extend.ensures.ends x (g.T.Turns.standing c.copy_write-answer.new.turns) c.copy_write-answer.result
          c.in_ok-zero_gap.ensures.ends c.note_others.ensures.few c.copy_write-answer.ensures.ends;
    }
