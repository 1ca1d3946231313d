-- A read for which memory is wanting leaves nothing, whatever its place and length.
use Rattle.cc_lines.proofs.NoncachedCalls.{nc_read-wanting}
use Rattle.cc_lines.proofs.noncached_lines.read_noncached.Goals as goal

pub returns-in_default-clause-answered : goal.returns-in_default-clause-answered
returns-in_default-clause-answered g c =
    let w = g.T.Turns.standing c.args.turns.now in
    rw c.wanting.ensures (nc_read-wanting w.setup w.number c.args.file c.args.at c.args.len w.seen)

pub returns-in_default-new-clause-answered : goal.returns-in_default-new-clause-answered
returns-in_default-new-clause-answered g c =
    let w = g.T.Turns.standing c.args.turns.now in
    rw c.wanting-in_default-new.ensures (nc_read-wanting w.setup w.number c.args.file c.args.at c.args.len w.seen)
