-- A page well written lets the call go on; a failed transfer or log is a fault that the call may tell.
use Rattle.std.specs.Prelude.{◌+◌, Result, IfErr, refl}
use Rattle.std.proofs.Common.{ap, subst, sym, inl, arith}
use Rattle.cc_entry.specs.declared.call.Call.{Call}
use Rattle.cc_entry.specs.declared.error.CcError.{CcError}
use Rattle.cc_entry.specs.declared.error.CcError.TheVariants as error
use Rattle.cc_model.specs.Faults.{WriteFailed, LogFailed}
use Rattle.cc_writes.specs.Ways.{IsCallReason}
use Rattle.cc_writes.specs.declared.writes.PageTransfer.TheVariants as write
use Rattle.cc_writes.specs.Calls.{IsFullWriting, PageStepLeft}
use Rattle.cc_writes.proofs.Disks.{still_of}
use Rattle.cc_writes.proofs.Alone.{alone-shown, alone-ended}
use Rattle.cc_writes.proofs.Begun.{ascend-shown, ascend-ended, stays-shown, stays-ended}
use Rattle.cc_writes.proofs.Calling.{tells-disk, tells-log, where_ok, shown_ok, written, not_written, not_logged, gave_up, is_halted, fault_left, full-write, gave_up-met, reason-since}
use Rattle.cc_writes.proofs.Fullness.{full-answer}
use Rattle.cc_writes.proofs.calls.write_for.Goals as goal

pub returns-in-Ok-Written-clause-left : goal.returns-in-Ok-Written-clause-left
returns-in-Ok-Written-clause-left g c begun way =
    let w = g.T.Turns.standing c.args.turns.now in
    let v = g.T.Turns.standing c.write_page-book.new.turns in
    (refl, written w v c.args.book.stream c.args.page c.args.call c.requires.admitted c.requires.asked (where_ok w v c.args.book.stream c.args.page c.write_page-book.result.1 c.in-Ok-Written.field-0 write.Written c.in-Ok-Written.is (rw c.in-Ok-Written.is at c.in-Ok-Written.field-0-is) c.write_page-book.ensures.left) begun way)

pub returns-in-Ok-Written-clause-written : goal.returns-in-Ok-Written-clause-written
returns-in-Ok-Written-clause-written g c =
    let w = g.T.Turns.standing c.args.turns.now in
    let v = g.T.Turns.standing c.write_page-book.new.turns in
    shown_ok w v c.args.book.stream c.args.page c.args.keeps c.write_page-book.result.1 c.in-Ok-Written.field-0 write.Written c.in-Ok-Written.is (rw c.in-Ok-Written.is at c.in-Ok-Written.field-0-is) c.write_page-book.ensures.shown

pub returns-in-Ok-Written-clause-works : goal.returns-in-Ok-Written-clause-works
returns-in-Ok-Written-clause-works g c =
    let w = g.T.Turns.standing c.args.turns.now in
    let v = g.T.Turns.standing c.write_page-book.new.turns in
    where_ok w v c.args.book.stream c.args.page c.write_page-book.result.1 c.in-Ok-Written.field-0 write.Written c.in-Ok-Written.is (rw c.in-Ok-Written.is at c.in-Ok-Written.field-0-is) c.write_page-book.ensures.left

pub fail-requires-clause-listed : goal.fail-requires-clause-listed
fail-requires-clause-listed g c = c.requires.faults.disk c.args.page

pub fail-requires-in-Ok-NotLogged-clause-listed : goal.fail-requires-in-Ok-NotLogged-clause-listed
fail-requires-in-Ok-NotLogged-clause-listed g c = c.requires.faults.log c.from-handle.result

pub fail-requires-clause-halted : goal.fail-requires-clause-halted
fail-requires-clause-halted g c =
    let w = g.T.Turns.standing c.args.turns.now in
    let v = g.T.Turns.standing c.write_page-book.new.turns in
    is_halted w v c.args.book.stream c.args.page c.args.call c.requires.admitted c.requires.asked w.in_flight c.write_page-book.result.0.stream c.write_page-book.ensures.went
    c.write_page-book.ensures.both.book.stream (error.WriteFault c.args.page) (WriteFailed c.args.page) (tells-disk c.args.call c.args.page)
    (not_written w v c.args.book.stream c.args.page c.args.call c.requires.admitted c.requires.asked (where_ok w v c.args.book.stream c.args.page c.write_page-book.result.1 c.in-Ok-NotWritten.field-0 write.NotWritten c.in-Ok-NotWritten.is (rw c.in-Ok-NotWritten.is at c.in-Ok-NotWritten.field-0-is) c.write_page-book.ensures.left))

pub returns-in-Ok-NotWritten-clause-both : goal.returns-in-Ok-NotWritten-clause-both
returns-in-Ok-NotWritten-clause-both g c =
    let v = g.T.Turns.standing c.write_page-book.new.turns in
    let both = c.write_page-book.ensures.both in
    still_of g.T.Disk.Told.told g.T.Disk.Told.faults v.in_flight v (g.T.Turns.standing c.fail.new.turns) c.args.book.stream c.write_page-book.result.0.stream
    c.write_page-book.result.0 c.fail.result.0 c.write_page-book.new.disk both.book.stream both c.fail.ensures.book c.fail.ensures.rest c.fail.ensures.went c.fail.ensures.disk

pub returns-in-Ok-NotWritten-clause-left : goal.returns-in-Ok-NotWritten-clause-left
returns-in-Ok-NotWritten-clause-left g c =
    let w = g.T.Turns.standing c.args.turns.now in
    let v = g.T.Turns.standing c.write_page-book.new.turns in
    fault_left w v c.args.book.stream c.args.page c.args.call c.requires.admitted c.requires.asked w.in_flight c.write_page-book.result.0.stream c.write_page-book.ensures.went
    c.write_page-book.ensures.both.book.stream (error.WriteFault c.args.page) (WriteFailed c.args.page) (tells-disk c.args.call c.args.page)
    (not_written w v c.args.book.stream c.args.page c.args.call c.requires.admitted c.requires.asked (where_ok w v c.args.book.stream c.args.page c.write_page-book.result.1 c.in-Ok-NotWritten.field-0 write.NotWritten c.in-Ok-NotWritten.is (rw c.in-Ok-NotWritten.is at c.in-Ok-NotWritten.field-0-is) c.write_page-book.ensures.left))
    c.fail.result.1 (g.T.Turns.standing c.fail.new.turns).seen c.fail.ensures.left

pub fail-requires-in-Ok-NotLogged-clause-halted : goal.fail-requires-in-Ok-NotLogged-clause-halted
fail-requires-in-Ok-NotLogged-clause-halted g c =
    let w = g.T.Turns.standing c.args.turns.now in
    let v = g.T.Turns.standing c.write_page-book.new.turns in
    is_halted w v c.args.book.stream c.args.page c.args.call c.requires.admitted c.requires.asked w.in_flight c.write_page-book.result.0.stream c.write_page-book.ensures.went
    c.write_page-book.ensures.both.book.stream (error.LogFault c.from-handle.result) (LogFailed c.in-Ok-NotLogged.handle) (tells-log c.args.call c.from-handle.result c.in-Ok-NotLogged.handle c.from-handle.ensures)
    (not_logged w v c.args.book.stream c.args.page c.args.call c.requires.admitted c.requires.asked c.in-Ok-NotLogged.handle (where_ok w v c.args.book.stream c.args.page c.write_page-book.result.1 c.in-Ok-NotLogged.field-0 (write.NotLogged c.in-Ok-NotLogged.handle) c.in-Ok-NotLogged.is (rw c.in-Ok-NotLogged.is at c.in-Ok-NotLogged.field-0-is) c.write_page-book.ensures.left))

pub returns-in-Ok-NotLogged-clause-both : goal.returns-in-Ok-NotLogged-clause-both
returns-in-Ok-NotLogged-clause-both g c =
    let v = g.T.Turns.standing c.write_page-book.new.turns in
    let both = c.write_page-book.ensures.both in
    still_of g.T.Disk.Told.told g.T.Disk.Told.faults v.in_flight v (g.T.Turns.standing c.fail-in-Ok-NotLogged.new.turns) c.args.book.stream c.write_page-book.result.0.stream
    c.write_page-book.result.0 c.fail-in-Ok-NotLogged.result.0 c.write_page-book.new.disk both.book.stream both
    c.fail-in-Ok-NotLogged.ensures.book c.fail-in-Ok-NotLogged.ensures.rest c.fail-in-Ok-NotLogged.ensures.went c.fail-in-Ok-NotLogged.ensures.disk

pub returns-in-Ok-NotLogged-clause-left : goal.returns-in-Ok-NotLogged-clause-left
returns-in-Ok-NotLogged-clause-left g c =
    let w = g.T.Turns.standing c.args.turns.now in
    let v = g.T.Turns.standing c.write_page-book.new.turns in
    fault_left w v c.args.book.stream c.args.page c.args.call c.requires.admitted c.requires.asked w.in_flight c.write_page-book.result.0.stream c.write_page-book.ensures.went
    c.write_page-book.ensures.both.book.stream (error.LogFault c.from-handle.result) (LogFailed c.in-Ok-NotLogged.handle) (tells-log c.args.call c.from-handle.result c.in-Ok-NotLogged.handle c.from-handle.ensures)
    (not_logged w v c.args.book.stream c.args.page c.args.call c.requires.admitted c.requires.asked c.in-Ok-NotLogged.handle (where_ok w v c.args.book.stream c.args.page c.write_page-book.result.1 c.in-Ok-NotLogged.field-0 (write.NotLogged c.in-Ok-NotLogged.handle) c.in-Ok-NotLogged.is (rw c.in-Ok-NotLogged.is at c.in-Ok-NotLogged.field-0-is) c.write_page-book.ensures.left))
    c.fail-in-Ok-NotLogged.result.1 (g.T.Turns.standing c.fail-in-Ok-NotLogged.new.turns).seen c.fail-in-Ok-NotLogged.ensures.left

pub returns-in-Err-clause-left : goal.returns-in-Err-clause-left
returns-in-Err-clause-left g c begun way =
    let w = g.T.Turns.standing c.args.turns.now in
    let v = g.T.Turns.standing c.write_page-book.new.turns in
    subst (λ (r : Result Call CcError). PageStepLeft w.setup w.number c.args.call r begun v.seen) (sym c.given_up.ensures)
    (gave_up w v c.args.book.stream c.args.page c.args.call c.requires.admitted c.requires.asked c.in-Err.error c.requires.answered c.requires.faults (rw c.in-Err.is at c.write_page-book.ensures.left) begun way)

pub returns-in-Ok-NotWritten-clause-reason : goal.returns-in-Ok-NotWritten-clause-reason
returns-in-Ok-NotWritten-clause-reason g c =
    reason-since (g.T.Turns.standing c.args.turns.now).in_flight c.write_page-book.result.0.stream c.args.book.stream (g.T.Turns.standing c.args.turns.now) (g.T.Turns.standing c.write_page-book.new.turns)
    c.args.call c.fail.result.1 c.write_page-book.ensures.went c.write_page-book.ensures.both.book.stream c.fail.ensures.reason

pub returns-in-Ok-NotLogged-clause-reason : goal.returns-in-Ok-NotLogged-clause-reason
returns-in-Ok-NotLogged-clause-reason g c =
    reason-since (g.T.Turns.standing c.args.turns.now).in_flight c.write_page-book.result.0.stream c.args.book.stream (g.T.Turns.standing c.args.turns.now) (g.T.Turns.standing c.write_page-book.new.turns)
    c.args.call c.fail-in-Ok-NotLogged.result.1 c.write_page-book.ensures.went c.write_page-book.ensures.both.book.stream c.fail-in-Ok-NotLogged.ensures.reason

pub returns-in-Err-clause-reason : goal.returns-in-Err-clause-reason
returns-in-Err-clause-reason g c =
    let w = g.T.Turns.standing c.args.turns.now in
    let v = g.T.Turns.standing c.write_page-book.new.turns in
    subst (λ (r : Result Call CcError). IfErr r (IsCallReason w.setup c.args.book.stream c.args.call)) (sym c.given_up.ensures)
    (inl (gave_up-met w (record { stream = c.args.book.stream; page = c.args.page }) c.args.keeps c.in-Err.error v.seen (rw c.in-Err.is at c.write_page-book.ensures.shown)))

pub returns-in-Ok-Written-clause-begun : goal.returns-in-Ok-Written-clause-begun
returns-in-Ok-Written-clause-begun g c =
    let w = g.T.Turns.standing c.args.turns.now in
    let v = g.T.Turns.standing c.write_page-book.new.turns in
    ascend-shown w (record { stream = c.args.book.stream; page = c.args.page }) c.args.keeps c.write_page-book.result.1 v.seen c.write_page-book.ensures.shown

pub returns-in-Ok-NotWritten-clause-begun : goal.returns-in-Ok-NotWritten-clause-begun
returns-in-Ok-NotWritten-clause-begun g c =
    let w = g.T.Turns.standing c.args.turns.now in
    let v = g.T.Turns.standing c.write_page-book.new.turns in
    ascend-ended w.in_flight c.args.page (c.args.page + 1) w v (g.T.Turns.standing c.fail.new.turns).seen c.write_page-book.ensures.went
    (ascend-shown w (record { stream = c.args.book.stream; page = c.args.page }) c.args.keeps c.write_page-book.result.1 v.seen c.write_page-book.ensures.shown)
    c.fail.ensures.begun

pub returns-in-Ok-NotLogged-clause-begun : goal.returns-in-Ok-NotLogged-clause-begun
returns-in-Ok-NotLogged-clause-begun g c =
    let w = g.T.Turns.standing c.args.turns.now in
    let v = g.T.Turns.standing c.write_page-book.new.turns in
    ascend-ended w.in_flight c.args.page (c.args.page + 1) w v (g.T.Turns.standing c.fail-in-Ok-NotLogged.new.turns).seen c.write_page-book.ensures.went
    (ascend-shown w (record { stream = c.args.book.stream; page = c.args.page }) c.args.keeps c.write_page-book.result.1 v.seen c.write_page-book.ensures.shown)
    c.fail-in-Ok-NotLogged.ensures.begun

pub returns-in-Err-clause-begun : goal.returns-in-Err-clause-begun
returns-in-Err-clause-begun g c =
    let w = g.T.Turns.standing c.args.turns.now in
    let v = g.T.Turns.standing c.write_page-book.new.turns in
    ascend-shown w (record { stream = c.args.book.stream; page = c.args.page }) c.args.keeps c.write_page-book.result.1 v.seen c.write_page-book.ensures.shown

pub returns-in-Ok-NotWritten-clause-full : goal.returns-in-Ok-NotWritten-clause-full
returns-in-Ok-NotWritten-clause-full g c =
    full-answer 1 2 (g.T.Turns.standing c.fail.new.turns) c.fail.result.1 (omega arith) c.fail.ensures.full

pub returns-in-Ok-NotLogged-clause-full : goal.returns-in-Ok-NotLogged-clause-full
returns-in-Ok-NotLogged-clause-full g c =
    full-answer 1 2 (g.T.Turns.standing c.fail-in-Ok-NotLogged.new.turns) c.fail-in-Ok-NotLogged.result.1 (omega arith) c.fail-in-Ok-NotLogged.ensures.full

pub returns-in-Ok-Written-clause-writing : goal.returns-in-Ok-Written-clause-writing
returns-in-Ok-Written-clause-writing g c = inl tt

pub returns-in-Ok-NotWritten-clause-writing : goal.returns-in-Ok-NotWritten-clause-writing
returns-in-Ok-NotWritten-clause-writing g c = inl c.fail.ensures.full

pub returns-in-Ok-NotLogged-clause-writing : goal.returns-in-Ok-NotLogged-clause-writing
returns-in-Ok-NotLogged-clause-writing g c = inl c.fail-in-Ok-NotLogged.ensures.full

pub returns-in-Err-clause-writing : goal.returns-in-Err-clause-writing
returns-in-Err-clause-writing g c =
    let w = g.T.Turns.standing c.args.turns.now in
    let v = g.T.Turns.standing c.write_page-book.new.turns in
    let error = c.in-Err.error in
    subst (λ (r : Result Call CcError). IsFullWriting c.args.call v r) (sym c.given_up.ensures)
    (full-write Call w v c.args.book.stream c.args.page c.args.keeps c.args.call error (ap (λ x. x.book) c.requires.both.book.held) c.requires.both.rest.device
    c.requires.asked c.requires.to_write (rw c.in-Err.is at c.write_page-book.ensures.shown) (rw c.in-Err.is at c.write_page-book.ensures.full))

pub returns-in-Ok-Written-clause-stays : goal.returns-in-Ok-Written-clause-stays
returns-in-Ok-Written-clause-stays g c =
    let w = g.T.Turns.standing c.args.turns.now in
    let v = g.T.Turns.standing c.write_page-book.new.turns in
    stays-shown w (record { stream = c.args.book.stream; page = c.args.page }) c.args.keeps c.write_page-book.result.1 v.seen c.write_page-book.ensures.shown

pub returns-in-Ok-Written-clause-alone : goal.returns-in-Ok-Written-clause-alone
returns-in-Ok-Written-clause-alone g c kept =
    let w = g.T.Turns.standing c.args.turns.now in
    let v = g.T.Turns.standing c.write_page-book.new.turns in
    alone-shown w c.args.book.stream (ap (λ x. x.book) c.requires.both.book.held) c.requires.both.rest.device c.args.page c.args.keeps c.write_page-book.result.1 v.seen kept c.write_page-book.ensures.shown

pub returns-in-Ok-NotWritten-clause-stays : goal.returns-in-Ok-NotWritten-clause-stays
returns-in-Ok-NotWritten-clause-stays g c =
    let w = g.T.Turns.standing c.args.turns.now in
    let v = g.T.Turns.standing c.write_page-book.new.turns in
    stays-ended w.in_flight w v (g.T.Turns.standing c.fail.new.turns).seen c.write_page-book.ensures.went
    (stays-shown w (record { stream = c.args.book.stream; page = c.args.page }) c.args.keeps c.write_page-book.result.1 v.seen c.write_page-book.ensures.shown)
    c.fail.ensures.stays

pub returns-in-Ok-NotWritten-clause-alone : goal.returns-in-Ok-NotWritten-clause-alone
returns-in-Ok-NotWritten-clause-alone g c kept =
    let w = g.T.Turns.standing c.args.turns.now in
    let v = g.T.Turns.standing c.write_page-book.new.turns in
    alone-ended w.in_flight c.write_page-book.result.0.stream c.args.book.stream w v (g.T.Turns.standing c.fail.new.turns).seen c.write_page-book.ensures.went c.write_page-book.ensures.both.book.stream
    (alone-shown w c.args.book.stream (ap (λ x. x.book) c.requires.both.book.held) c.requires.both.rest.device c.args.page c.args.keeps c.write_page-book.result.1 v.seen kept c.write_page-book.ensures.shown)
    c.fail.ensures.alone

pub returns-in-Ok-NotLogged-clause-stays : goal.returns-in-Ok-NotLogged-clause-stays
returns-in-Ok-NotLogged-clause-stays g c =
    let w = g.T.Turns.standing c.args.turns.now in
    let v = g.T.Turns.standing c.write_page-book.new.turns in
    stays-ended w.in_flight w v (g.T.Turns.standing c.fail-in-Ok-NotLogged.new.turns).seen c.write_page-book.ensures.went
    (stays-shown w (record { stream = c.args.book.stream; page = c.args.page }) c.args.keeps c.write_page-book.result.1 v.seen c.write_page-book.ensures.shown)
    c.fail-in-Ok-NotLogged.ensures.stays

pub returns-in-Ok-NotLogged-clause-alone : goal.returns-in-Ok-NotLogged-clause-alone
returns-in-Ok-NotLogged-clause-alone g c kept =
    let w = g.T.Turns.standing c.args.turns.now in
    let v = g.T.Turns.standing c.write_page-book.new.turns in
    alone-ended w.in_flight c.write_page-book.result.0.stream c.args.book.stream w v (g.T.Turns.standing c.fail-in-Ok-NotLogged.new.turns).seen c.write_page-book.ensures.went c.write_page-book.ensures.both.book.stream
    (alone-shown w c.args.book.stream (ap (λ x. x.book) c.requires.both.book.held) c.requires.both.rest.device c.args.page c.args.keeps c.write_page-book.result.1 v.seen kept c.write_page-book.ensures.shown)
    c.fail-in-Ok-NotLogged.ensures.alone

pub returns-in-Err-clause-stays : goal.returns-in-Err-clause-stays
returns-in-Err-clause-stays g c =
    let w = g.T.Turns.standing c.args.turns.now in
    let v = g.T.Turns.standing c.write_page-book.new.turns in
    stays-shown w (record { stream = c.args.book.stream; page = c.args.page }) c.args.keeps c.write_page-book.result.1 v.seen c.write_page-book.ensures.shown

pub returns-in-Err-clause-alone : goal.returns-in-Err-clause-alone
returns-in-Err-clause-alone g c kept =
    let w = g.T.Turns.standing c.args.turns.now in
    let v = g.T.Turns.standing c.write_page-book.new.turns in
    alone-shown w c.args.book.stream (ap (λ x. x.book) c.requires.both.book.held) c.requires.both.rest.device c.args.page c.args.keeps c.write_page-book.result.1 v.seen kept c.write_page-book.ensures.shown
