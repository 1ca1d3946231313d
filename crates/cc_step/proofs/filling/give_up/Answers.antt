use Rattle.cc_step.proofs.Emptied.{block-numbered, has-to-write}
use Rattle.cc_step.proofs.filling.give_up.Goals as goal

pub dirty_in-requires : goal.dirty_in-requires
dirty_in-requires g c =
    let m = c.requires.may in
    block-numbered m.0 c.args.pass c.args.call m.1 c.args.block c.args.book.now c.args.journal.now c.requires.answered c.requires.room m.2 m.3 m.4

pub returns-in-Some-clause-left : goal.returns-in-Some-clause-left
returns-in-Some-clause-left g c u waited may crowded to_go =
    has-to-write u c.args.pass c.args.call waited c.args.block c.args.book.now c.args.journal.now c.requires.answered c.requires.room may crowded to_go c.in-Some.page c.in-Some.ensures
