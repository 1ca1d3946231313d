-- A write for which memory is wanting leaves nothing, whatever its place and its bytes.
use Rattle.cc_lines.proofs.NoncachedCalls.{nc_write-wanting}
use Rattle.cc_lines.proofs.noncached_lines.write_noncached.Goals as goal

pub returns-in_default-clause-answered : goal.returns-in_default-clause-answered
returns-in_default-clause-answered g c =
    let w = g.T.Turns.standing c.args.turns.now in
    rw c.wanting.ensures (nc_write-wanting w.setup w.number c.args.file c.args.at c.args.bytes.now w.seen)
