use Rattle.std.proofs.lemmas.Result.{on_ok_weaker}
use Rattle.cc_writes.proofs.Reading.{found_for, may_tell, on_failed_weaker}
use Rattle.cc_writes.proofs.pages.read_page.Goals as goal

pub returns-then-keeps-clause-found : goal.returns-then-keeps-clause-found
returns-then-keeps-clause-found g c =
    let w = g.T.Turns.standing c.args.turns.now in
    let both = c.requires.both in
    on_ok_weaker c.read.result
    (found_for g.T.Disk.Told.told g.T.Disk.Told.faults w c.args.book.stream c.args.page c.args.disk.now c.read.new.raw both.disk both.book.good both.opening)
    c.read.ensures.found

pub returns-then-keeps-clause-failed : goal.returns-then-keeps-clause-failed
returns-then-keeps-clause-failed g c =
    let w = g.T.Turns.standing c.args.turns.now in
    on_failed_weaker c.read.result
    (may_tell g.T.Disk.Told.told g.T.Disk.Told.faults w c.args.book.stream c.args.page c.args.disk.now c.read.new.disk c.requires.both.disk)
    c.read.ensures.failed
