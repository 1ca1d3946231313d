-- The entry of the test may be pushed, with the conflict that the locks of the stream give.
use Rattle.std.specs.Prelude.{None, Some}
use Rattle.cc_shim.proofs.Locking.{may-test, tested-there}
use Rattle.cc_shim.proofs.locks.test_in.Goals as goal

pub push-requires-clause-may : goal.push-requires-clause-may
push-requires-clause-may g c =
    may-test c.requires.good.0 c.args.pass c.args.file c.args.span c.args.write c.args.journal.now c.reserve.new.self c.in_ok-reserve.ensures.reserved
    c.stream.result c.locks.result.now.table c.locks.ensures.table c.stream.ensures c.conflict_of-conflict.result c.conflict_of-conflict.ensures c.requires.good.1

pub returns-in-Some : goal.returns-in-Some
returns-in-Some g c =
    tested-there c.requires.good.0 c.args.pass c.args.file c.args.span c.args.write c.args.journal.now c.reserve.new.self c.in_ok-reserve.ensures.reserved
    c.stream.result c.locks.result.now.table c.locks.ensures.table c.stream.ensures c.conflict_of-conflict.result c.conflict_of-conflict.ensures
    c.push.new.self (Some c.in-Some.id) c.in-Some.is c.push.ensures.placed

pub returns-in-None : goal.returns-in-None
returns-in-None g c =
    tested-there c.requires.good.0 c.args.pass c.args.file c.args.span c.args.write c.args.journal.now c.reserve.new.self c.in_ok-reserve.ensures.reserved
    c.stream.result c.locks.result.now.table c.locks.ensures.table c.stream.ensures c.conflict_of-conflict.result c.conflict_of-conflict.ensures
    c.push.new.self None c.in-None.is c.push.ensures.placed
