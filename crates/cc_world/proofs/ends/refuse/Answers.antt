-- A place is reserved for the entry, which says why the call is refused.
use Rattle.cc_world.proofs.CallLeft.{may-fail, owed-within, refused-left}
use Rattle.cc_world.proofs.ends.refuse.Goals as goal

pub fail-requires-clause-may : goal.fail-requires-clause-may
fail-requires-clause-may g c =
    may-fail c.requires.refused.0 c.args.pass c.args.call c.args.refused c.args.book.now c.args.journal.now c.reserve.new.self c.requires.refused.1 c.in-Ok.ensures.reserved

pub release-requires : goal.release-requires
release-requires g c =
    owed-within c.requires.refused.0 c.args.pass c.args.call c.args.refused c.args.book.now c.args.journal.now c.reserve.new.self c.requires.refused.1 c.in-Ok.ensures.reserved
    c.owed_end-owed.result c.fail.new.journal c.owed_end-owed.ensures c.fail.ensures.placed

pub returns-in-Ok : goal.returns-in-Ok
returns-in-Ok g c u refused =
    refused-left u c.args.pass c.args.call c.args.refused c.args.book.now c.args.journal.now c.reserve.new.self refused c.in-Ok.ensures.reserved
    c.owed_end-owed.result c.fail.new.journal c.owed_end-owed.ensures c.fail.ensures.placed c.fail.new.self c.release.new.self
    _ _ c.fail.ensures.stands c.fail.ensures.same c.release.ensures c.in-Ok.ensures.full.1
