use Rattle.cc_calls.proofs.LogCalls.{append-no-place, append-ends}
use Rattle.cc_calls.proofs.logs.log_append.Goals as goal

pub returns-in_err-reserve_for : goal.returns-in_err-reserve_for
returns-in_err-reserve_for g c = record {
  ends =
      append-no-place (g.T.Turns.standing c.args.turns.now) (g.T.Turns.standing c.reserve_for.new.turns) c.args.handle c.in_err-reserve_for.field-0.0
      c.requires.can c.reserve_for.ensures.grows c.in_err-reserve_for.ensures.left c.in_err-reserve_for.ensures.full c.in_err-reserve_for.ensures.room c.reserve_for.ensures.good
      c.args.piece.now c.from_residual-in_err-reserve_for.result c.from_residual-in_err-reserve_for.ensures.1;
}

pub returns : goal.returns
returns g c = record {
  ends =
      append-ends (g.T.Turns.standing c.args.turns.now) (g.T.Turns.standing c.reserve_for.new.turns) (g.T.Turns.standing c.append_to.new.turns) c.args.handle
      c.requires.can c.reserve_for.ensures.grows c.in_ok-reserve_for.ensures.left c.append_to.ensures.went c.append_to.ensures.good
      c.args.piece.now c.append_to.result c.append_to.ensures.left c.append_to.ensures.room;
}
