use Rattle.cc_writes.proofs.Writing.{under_way, both-grown}
use Rattle.cc_writes.proofs.writes.put.Goals as goal

pub finish-requires-clause-begun : goal.finish-requires-clause-begun
finish-requires-clause-begun g c =
    let w = g.T.Turns.standing c.args.turns.now in
    under_way g.T.Disk.Told.told g.T.Disk.Told.faults w.in_flight w (g.T.Turns.standing c.begin_at.new.turns) c.args.page c.args.book c.begin_at.new.book c.args.disk.now
    c.requires.both c.begin_at.ensures.went c.begin_at.ensures.book c.in-Ok.frame c.in-Ok.ensures.left

pub returns-in-Err-clause-both : goal.returns-in-Err-clause-both
returns-in-Err-clause-both g c =
    let w = g.T.Turns.standing c.args.turns.now in
    both-grown g.T.Disk.Told.told g.T.Disk.Told.faults w.in_flight w (g.T.Turns.standing c.begin_at.new.turns) c.args.page c.args.book c.begin_at.new.book c.args.disk.now
    c.requires.both c.begin_at.ensures.went c.begin_at.ensures.book c.in-Err.ensures.left.0
