-- Without memory no read was made.
use Rattle.cc_async.proofs.Kept.{kept-none}
use Rattle.cc_async.proofs.copies.keep_read.Goals as goal

pub returns-in_default : goal.returns-in_default
returns-in_default g c = record { left = kept-none (g.T.Turns.standing c.args.turns.now) c.args.file c.args.at c.args.len c.args.wait }

pub returns-in_default-new : goal.returns-in_default-new
returns-in_default-new g c = record { left = kept-none (g.T.Turns.standing c.args.turns.now) c.args.file c.args.at c.args.len c.args.wait }
