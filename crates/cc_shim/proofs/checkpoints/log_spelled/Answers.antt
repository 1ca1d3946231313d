-- The states were asked, and the rest followed.
use Rattle.cc_shim.proofs.Checkpointing.{all-asked}
use Rattle.cc_shim.proofs.checkpoints.log_spelled.Goals as goal

pub returns-in-Ok : goal.returns-in-Ok
returns-in-Ok g c =
    let w = g.T.Turns.standing c.args.turns.now in
    let v = g.T.Turns.standing c.streams_of.new.turns in
    let x = g.T.Turns.standing c.log_synced.new.turns in
    record { ends = all-asked w v c.args.streams c.args.handle c.args.rows.now x c.in-Ok.found c.args.spelled.now c.log_synced.result c.requires.spelled c.in-Ok.ensures.ends (rw c.deref.ensures.value at c.log_synced.ensures.ends) }
