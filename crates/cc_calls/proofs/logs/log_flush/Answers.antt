-- By what came: no place or no log, reached, failed, or refused; each is an end of a flush of a log.
use Rattle.cc_calls.proofs.LogCalls.{flush-no-place, flush-ends}
use Rattle.cc_calls.proofs.logs.log_flush.Goals as goal

pub returns-in_err-reserve_for : goal.returns-in_err-reserve_for
returns-in_err-reserve_for g c = record {
  ends =
      flush-no-place (g.T.Turns.standing c.args.turns.now) (g.T.Turns.standing c.reserve_for.new.turns) c.args.handle c.in_err-reserve_for.field-0.0
      c.requires.can c.reserve_for.ensures.grows c.in_err-reserve_for.ensures.left c.in_err-reserve_for.ensures.full c.in_err-reserve_for.ensures.room c.reserve_for.ensures.good
      c.args.lsn c.from_residual.result c.from_residual.ensures.1;
}

pub returns-in-Ok-Reached : goal.returns-in-Ok-Reached
returns-in-Ok-Reached g c = record {
  ends =
      rw (c.in-Ok-Reached.is, c.in-Ok-Reached.field-0-is) at
      (flush-ends (g.T.Turns.standing c.args.turns.now) (g.T.Turns.standing c.reserve_for.new.turns) (g.T.Turns.standing c.flush_to.new.turns) c.args.handle
      c.requires.can c.reserve_for.ensures.grows c.in_ok-reserve_for.ensures.left c.flush_to.ensures.went c.flush_to.ensures.good
      c.args.lsn c.flush_to.result c.flush_to.ensures.left);
}

pub returns-in-Ok-Failed : goal.returns-in-Ok-Failed
returns-in-Ok-Failed g c = record {
  ends =
      rw (c.in-Ok-Failed.is, c.in-Ok-Failed.field-0-is, ← c.from.ensures) at
      (flush-ends (g.T.Turns.standing c.args.turns.now) (g.T.Turns.standing c.reserve_for.new.turns) (g.T.Turns.standing c.flush_to.new.turns) c.args.handle
      c.requires.can c.reserve_for.ensures.grows c.in_ok-reserve_for.ensures.left c.flush_to.ensures.went c.flush_to.ensures.good
      c.args.lsn c.flush_to.result c.flush_to.ensures.left);
}

pub returns-in-Err : goal.returns-in-Err
returns-in-Err g c = record {
  ends =
      rw c.in-Err.is at
      (flush-ends (g.T.Turns.standing c.args.turns.now) (g.T.Turns.standing c.reserve_for.new.turns) (g.T.Turns.standing c.flush_to.new.turns) c.args.handle
      c.requires.can c.reserve_for.ensures.grows c.in_ok-reserve_for.ensures.left c.flush_to.ensures.went c.flush_to.ensures.good
      c.args.lsn c.flush_to.result c.flush_to.ensures.left);
}
