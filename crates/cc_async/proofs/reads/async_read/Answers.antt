-- All numbers of the pass were given.
use Rattle.cc_async.proofs.Queued.{starts-none}
use Rattle.cc_async.proofs.reads.async_read.Goals as goal

pub returns-in_default : goal.returns-in_default
returns-in_default g c = record { ends = starts-none (g.T.Turns.standing c.args.turns.now) c.args.file c.args.at c.args.len c.args.place.now }
