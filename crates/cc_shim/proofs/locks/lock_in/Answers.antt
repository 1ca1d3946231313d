-- A place is reserved, and taken by the entry; or it is given back.
use Rattle.std.proofs.lemmas.Result.{IfErr-at_err}
use Rattle.cc_shim.proofs.Locking.{granted-there, memory-there}
use Rattle.cc_shim.proofs.locks.lock_in.Goals as goal

pub returns-in-Ok : goal.returns-in-Ok
returns-in-Ok g c = granted-there c.args.pass c.args.file c.args.span c.args.exclusive c.in-Ok.id c.args.journal.now c.reserve.new.self c.lock.new.self c.in_ok-reserve.ensures.reserved (c.in-Ok.ensures.granted)

pub returns-in-Err-NoMemory : goal.returns-in-Err-NoMemory
returns-in-Err-NoMemory g c =
    memory-there c.args.pass c.args.file c.args.span c.args.exclusive c.args.journal.now c.reserve.new.self c.lock.new.self c.release.new.self c.in_ok-reserve.ensures.reserved
    (IfErr-at_err _ (rw c.in-Err-NoMemory.field-0-is at c.in-Err-NoMemory.is) c.lock.ensures.refused) c.release.ensures
