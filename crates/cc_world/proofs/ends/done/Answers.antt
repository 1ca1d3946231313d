-- The places that the call asks are reserved; what it gives back is released once its entry stands.
use Rattle.cc_world.proofs.CallLeft.{done-went, may-done, some-reserved, spared-within}
use Rattle.cc_world.proofs.ends.done.Goals as goal

pub done-requires-clause-reserved : goal.done-requires-clause-reserved
done-requires-clause-reserved g c =
    some-reserved c.requires.replied.0 c.args.pass c.args.call c.args.reply c.args.book.now c.args.journal.now c.requires.replied.1

pub done-requires-clause-may : goal.done-requires-clause-may
done-requires-clause-may g c =
    (c.requires.replied.0, may-done c.requires.replied.0 c.args.pass c.args.call c.args.reply c.args.book.now c.args.journal.now c.requires.replied.1)

pub release-requires : goal.release-requires
release-requires g c =
    spared-within c.requires.replied.0 c.args.pass c.args.call c.args.reply c.args.book.now c.args.journal.now c.requires.replied.1
    c.spared-spared.result c.done.new.self c.done.new.journal c.spared-spared.ensures c.in_ok-done.ensures.placed

pub returns-clause-placed : goal.returns-clause-placed
returns-clause-placed g c u replied =
    done-went u c.args.pass c.args.call c.args.reply c.args.book.now c.args.journal.now replied
    c.spared-spared.result c.done.new.self c.done.new.journal c.spared-spared.ensures c.in_ok-done.ensures.placed
    c.release.new.self
    (c.in_ok-done.ensures.stands u (may-done u c.args.pass c.args.call c.args.reply c.args.book.now c.args.journal.now replied))
    c.done.ensures.stream c.release.ensures
