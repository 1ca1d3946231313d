use Rattle.cc_ranges.proofs.WriteFinishing.{may-finish, ended}
use Rattle.cc_ranges.proofs.ends.end.Goals as goal

pub done-requires-clause-reserved : goal.done-requires-clause-reserved
done-requires-clause-reserved g c = c.requires.may.1.reserved

pub done-requires-clause-may : goal.done-requires-clause-may
done-requires-clause-may g c =
    let u = c.requires.may.0 in
    (u, rw c.page.ensures.same (may-finish u c.args.pass c.args.file c.args.page c.args.book.now c.args.journal.now c.requires.stream c.requires.may.1))

pub returns-clause-ended : goal.returns-clause-ended
returns-clause-ended g c u may =
    ended u c.args.pass c.args.file c.args.page c.args.book.now c.done.new.self c.args.journal.now c.done.new.journal c.requires.stream may
    (rw c.page.ensures.same at c.in-Ok.ensures.placed)
    (c.in-Ok.ensures.stands u (rw c.page.ensures.same (may-finish u c.args.pass c.args.file c.args.page c.args.book.now c.args.journal.now c.requires.stream may)))
    c.done.ensures.stream
