-- The reserved place serves the entry of the table or of the missing log; where memory is wanting it is given back.
use Rattle.cc_calls.proofs.Streamless.{owed-there}
use Rattle.cc_calls.proofs.Tables.{table-refused, table-stopped, table-told}
use Rattle.cc_calls.proofs.queries.tell_rows.Goals as goal
use Rattle.cc_calls.proofs.queries.tell_rows.Goals.{in-NoLog, in_default}

pub place-requires-clause-reserved : goal.place-requires-clause-reserved
place-requires-clause-reserved g c = owed-there c.args.pass c.args.journal.now c.reserve.new.self c.in_ok-reserve.ensures.reserved c.requires.owed

pub place-requires-in-NoLog-clause-reserved : goal.place-requires-in-NoLog-clause-reserved
place-requires-in-NoLog-clause-reserved g c = owed-there c.args.pass c.args.journal.now c.reserve.new.self c.in_ok-reserve.ensures.reserved c.requires.owed

pub returns-in-Ok : goal.returns-in-Ok
returns-in-Ok g c =
    table-told c.args.pass c.args.handle c.args.journal.now c.reserve.new.self c.place.new.journal c.in_ok-reserve.ensures.reserved c.requires.owed
    c.in-Ok.rows c.in-Ok.told c.in-Ok.ensures c.place.ensures

pub returns-after-error : goal.returns-after-error
returns-after-error g c =
    elim c.match-error.branch [
      | in-NoLog b ↦
          rw (b.journal-is, b.in-NoLog.is)
          (table-refused c.args.pass c.args.handle c.args.journal.now c.reserve.new.self b.place-in-NoLog.new.journal c.in_ok-reserve.ensures.reserved c.requires.owed
          b.in-NoLog.handle (rw b.in-NoLog.is at c.in-Err.ensures) (rw b.in-NoLog.is at b.place-in-NoLog.ensures))
      | in_default b ↦
          rw b.journal-is
          (table-stopped c.args.pass c.args.handle c.args.journal.now c.reserve.new.self b.release.new.self c.in_ok-reserve.ensures.reserved c.requires.owed
          c.in-Err.error b.in_default.not-NoLog c.in-Err.ensures b.release.ensures)
    ]
