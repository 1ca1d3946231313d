-- A call that asks two places asks no more than three.
use Rattle.cc_lines.proofs.ShimServed.{full-three}
use Rattle.cc_lines.proofs.checkpoint_line.make_checkpoint.Goals as goal

pub returns-in-Err-clause-full : goal.returns-in-Err-clause-full
returns-in-Err-clause-full g c =
    full-three (g.T.Turns.standing c.args.turns.now) (g.T.Turns.standing c.checkpoint_streams.new.turns) c.in-Err.error c.in-Err.ensures.ends.full
