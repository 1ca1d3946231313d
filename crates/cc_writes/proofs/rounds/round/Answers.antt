-- By what the step asks: each turn of a page finds what it needs, and what it left is what a round may leave.
use Rattle.std.specs.Prelude.{ℕ, suc, ◌≡◌, true, OnOk, refl}
use Rattle.std.proofs.Common.{subst, sym}
use Rattle.cc_entry.specs.declared.call.Call.{Call}
use Rattle.cc_effects.specs.Asked.{brings_in}
use Rattle.cc_step.specs.Step.{is_answered, is_stepped}
use Rattle.cc_step.proofs.Failing.{stepped-answered}
use Rattle.cc_step.proofs.Placed.{so-far}
use Rattle.cc_step.proofs.Waiting.{brings-room}
use Rattle.cc_model.specs.History.{history}
use Rattle.cc_step.specs.Room.{has_room}
use Rattle.cc_writes.specs.Visits.{HasLanded, CallIsOfStream, IsToBeWritten, IsWaitedFor}
use Rattle.cc_writes.specs.Calls.{IsFullWriting, MayFaultInWriting}
use Rattle.cc_writes.specs.Writes.{HasBoth}
use Rattle.cc_writes.proofs.Disks.{still_of}
use Rattle.cc_writes.specs.Rounds.{RoundLeft, IsNearer, IsFullCourse, course_of}
use Rattle.cc_writes.specs.declared.course.Course.{Course}
use Rattle.cc_writes.proofs.Fullness.{full-ended, full-wrote, full-brought}
use Rattle.cc_writes.proofs.Going.{may-fault, may-write}
use Rattle.cc_writes.proofs.Stepping.{to_write_call, to_read_call, to_write, to_read, round_wrote, round_read}
use Rattle.cc_writes.proofs.Lessening.{went-less, round-wrote, round-brought}
use Rattle.cc_writes.proofs.Nearing.{nearer-went, nearer-wrote, nearer-read}
use Rattle.cc_writes.proofs.rounds.round.Goals as goal

pub returns-in-Ended-clause-both : goal.returns-in-Ended-clause-both
returns-in-Ended-clause-both g c =
    let w = g.T.Turns.standing c.args.turns.now in
    let v = g.T.Turns.standing c.next_call_step.new.turns in
    let s = c.args.book.stream in
    still_of g.T.Disk.Told.told g.T.Disk.Told.faults w.in_flight w v s s c.args.book c.next_call_step.new.book c.args.disk.now refl c.requires.both
    c.next_call_step.ensures.book c.next_call_step.ensures.rest c.in-Ended.ensures.went c.next_call_step.ensures.disk

pub returns-in-GoesOn-WentOut-clause-both : goal.returns-in-GoesOn-WentOut-clause-both
returns-in-GoesOn-WentOut-clause-both g c =
    let w = g.T.Turns.standing c.args.turns.now in
    let v = g.T.Turns.standing c.next_call_step.new.turns in
    let s = c.args.book.stream in
    let gone = rw c.in-GoesOn-WentOut.field-0-is at c.in-GoesOn-WentOut.ensures.went in
    still_of g.T.Disk.Told.told g.T.Disk.Told.faults w.in_flight w v s s c.args.book c.next_call_step.new.book c.args.disk.now refl c.requires.both
    c.next_call_step.ensures.book c.next_call_step.ensures.rest gone c.next_call_step.ensures.disk

pub returns-in-GoesOn-WentOut-clause-left : goal.returns-in-GoesOn-WentOut-clause-left
returns-in-GoesOn-WentOut-clause-left g c begun way =
    let stepped = rw c.in-GoesOn-WentOut.field-0-is at c.in-GoesOn-WentOut.ensures.left in
    stepped begun way

pub write_for-book-requires-clause-both : goal.write_for-book-requires-clause-both
write_for-book-requires-clause-both g c =
    let w = g.T.Turns.standing c.args.turns.now in
    let v = g.T.Turns.standing c.next_call_step.new.turns in
    let s = c.args.book.stream in
    let told = g.T.Disk.Told.told in
    let faults = g.T.Disk.Told.faults in
    let gone = rw c.in-GoesOn-Writes.field-0-is at c.in-GoesOn-Writes.ensures.went in
    subst (λ (n : ℕ). HasBoth told faults v n c.next_call_step.new.book c.args.disk.now) (sym c.next_call_step.ensures.book.stream)
    (still_of told faults w.in_flight w v s s c.args.book c.next_call_step.new.book c.args.disk.now refl c.requires.both
    c.next_call_step.ensures.book c.next_call_step.ensures.rest gone c.next_call_step.ensures.disk)

pub write_for-book-requires-clause-answered : goal.write_for-book-requires-clause-answered
write_for-book-requires-clause-answered g c =
    let w = g.T.Turns.standing c.args.turns.now in
    let v = g.T.Turns.standing c.next_call_step.new.turns in
    let s = c.args.book.stream in
    let gone = rw c.in-GoesOn-Writes.field-0-is at c.in-GoesOn-Writes.ensures.went in
    let stepped = rw c.in-GoesOn-Writes.field-0-is at c.in-GoesOn-Writes.ensures.left in
    subst (λ (it : Call). is_answered it ≡ true)
    (sym (to_write_call w v s w.in_flight c.args.call c.in-GoesOn-Writes.call c.in-GoesOn-Writes.page c.args.out.now c.next_call_step.new.out gone stepped))
    (stepped-answered c.args.call c.requires.stepped)

pub write_for-book-requires-clause-faults : goal.write_for-book-requires-clause-faults
write_for-book-requires-clause-faults g c =
    let w = g.T.Turns.standing c.args.turns.now in
    let v = g.T.Turns.standing c.next_call_step.new.turns in
    let s = c.args.book.stream in
    let gone = rw c.in-GoesOn-Writes.field-0-is at c.in-GoesOn-Writes.ensures.went in
    let stepped = rw c.in-GoesOn-Writes.field-0-is at c.in-GoesOn-Writes.ensures.left in
    subst (λ (it : Call). MayFaultInWriting it)
    (sym (to_write_call w v s w.in_flight c.args.call c.in-GoesOn-Writes.call c.in-GoesOn-Writes.page c.args.out.now c.next_call_step.new.out gone stepped))
    (may-fault c.args.call c.requires.stepped c.requires.brings)

pub write_for-book-requires-clause-filed : goal.write_for-book-requires-clause-filed
write_for-book-requires-clause-filed g c =
    let w = g.T.Turns.standing c.args.turns.now in
    let v = g.T.Turns.standing c.next_call_step.new.turns in
    let s = c.args.book.stream in
    let gone = rw c.in-GoesOn-Writes.field-0-is at c.in-GoesOn-Writes.ensures.went in
    let stepped = rw c.in-GoesOn-Writes.field-0-is at c.in-GoesOn-Writes.ensures.left in
    subst (λ (it : Call). CallIsOfStream it c.next_call_step.new.book.stream)
    (sym (to_write_call w v s w.in_flight c.args.call c.in-GoesOn-Writes.call c.in-GoesOn-Writes.page c.args.out.now c.next_call_step.new.out gone stepped))
    (subst (λ (n : ℕ). CallIsOfStream c.args.call n) (sym c.next_call_step.ensures.book.stream) c.requires.filed)

pub write_for-book-requires-clause-admitted : goal.write_for-book-requires-clause-admitted
write_for-book-requires-clause-admitted g c =
    let w = g.T.Turns.standing c.args.turns.now in
    let v = g.T.Turns.standing c.next_call_step.new.turns in
    let s = c.args.book.stream in
    let gone = rw c.in-GoesOn-Writes.field-0-is at c.in-GoesOn-Writes.ensures.went in
    let stepped = rw c.in-GoesOn-Writes.field-0-is at c.in-GoesOn-Writes.ensures.left in
    let to = to_write w v s w.in_flight c.args.call c.in-GoesOn-Writes.call c.in-GoesOn-Writes.page c.args.out.now c.next_call_step.new.out gone
    c.next_call_step.new.book.stream c.next_call_step.ensures.book.stream stepped in
    to.admitted

pub write_for-book-requires-clause-asked : goal.write_for-book-requires-clause-asked
write_for-book-requires-clause-asked g c =
    let w = g.T.Turns.standing c.args.turns.now in
    let v = g.T.Turns.standing c.next_call_step.new.turns in
    let s = c.args.book.stream in
    let gone = rw c.in-GoesOn-Writes.field-0-is at c.in-GoesOn-Writes.ensures.went in
    let stepped = rw c.in-GoesOn-Writes.field-0-is at c.in-GoesOn-Writes.ensures.left in
    let to = to_write w v s w.in_flight c.args.call c.in-GoesOn-Writes.call c.in-GoesOn-Writes.page c.args.out.now c.next_call_step.new.out gone
    c.next_call_step.new.book.stream c.next_call_step.ensures.book.stream stepped in
    may-write c.in-GoesOn-Writes.call (record { stream = c.next_call_step.new.book.stream; page = c.in-GoesOn-Writes.page }) v.seen to.in_the_way

pub write_for-book-requires-clause-to_write : goal.write_for-book-requires-clause-to_write
write_for-book-requires-clause-to_write g c =
    let w = g.T.Turns.standing c.args.turns.now in
    let v = g.T.Turns.standing c.next_call_step.new.turns in
    let s = c.args.book.stream in
    let gone = rw c.in-GoesOn-Writes.field-0-is at c.in-GoesOn-Writes.ensures.went in
    let stepped = rw c.in-GoesOn-Writes.field-0-is at c.in-GoesOn-Writes.ensures.left in
    let to = to_write w v s w.in_flight c.args.call c.in-GoesOn-Writes.call c.in-GoesOn-Writes.page c.args.out.now c.next_call_step.new.out gone
    c.next_call_step.new.book.stream c.next_call_step.ensures.book.stream stepped in
    record { dirty = to.dirty; stamped = to.stamped }

pub returns-in-GoesOn-Writes-clause-left : goal.returns-in-GoesOn-Writes-clause-left
returns-in-GoesOn-Writes-clause-left g c begun way =
    let w = g.T.Turns.standing c.args.turns.now in
    let v = g.T.Turns.standing c.next_call_step.new.turns in
    let s = c.args.book.stream in
    let new = (g.T.Turns.standing c.write_for-book.new.turns).seen in
    let gone = rw c.in-GoesOn-Writes.field-0-is at c.in-GoesOn-Writes.ensures.went in
    let stepped = rw c.in-GoesOn-Writes.field-0-is at c.in-GoesOn-Writes.ensures.left in
    subst (λ (o : Course Call). RoundLeft w.setup w.number c.args.call o begun new c.args.out.now c.next_call_step.new.out) (sym c.course_of.ensures)
    (round_wrote w v s w.in_flight c.args.call c.in-GoesOn-Writes.call c.in-GoesOn-Writes.page c.args.out.now c.next_call_step.new.out gone
    c.write_for-book.result.1 new stepped c.write_for-book.ensures.left begun way)

pub bring-book-requires-clause-both : goal.bring-book-requires-clause-both
bring-book-requires-clause-both g c =
    let w = g.T.Turns.standing c.args.turns.now in
    let v = g.T.Turns.standing c.next_call_step.new.turns in
    let s = c.args.book.stream in
    let told = g.T.Disk.Told.told in
    let faults = g.T.Disk.Told.faults in
    let gone = rw c.in-GoesOn-Reads.field-0-is at c.in-GoesOn-Reads.ensures.went in
    subst (λ (n : ℕ). HasBoth told faults v n c.next_call_step.new.book c.args.disk.now) (sym c.next_call_step.ensures.book.stream)
    (still_of told faults (suc w.in_flight) w v s s c.args.book c.next_call_step.new.book c.args.disk.now refl c.requires.both
    c.next_call_step.ensures.book c.next_call_step.ensures.rest gone c.next_call_step.ensures.disk)

pub bring-book-requires-clause-stepped : goal.bring-book-requires-clause-stepped
bring-book-requires-clause-stepped g c =
    let w = g.T.Turns.standing c.args.turns.now in
    let v = g.T.Turns.standing c.next_call_step.new.turns in
    let s = c.args.book.stream in
    let gone = rw c.in-GoesOn-Reads.field-0-is at c.in-GoesOn-Reads.ensures.went in
    let stepped = rw c.in-GoesOn-Reads.field-0-is at c.in-GoesOn-Reads.ensures.left in
    subst (λ (it : Call). is_stepped it ≡ true)
    (sym (to_read_call w v s (suc w.in_flight) c.args.call c.in-GoesOn-Reads.call c.in-GoesOn-Reads.page c.args.out.now c.next_call_step.new.out gone stepped))
    c.requires.stepped

pub bring-book-requires-clause-brings : goal.bring-book-requires-clause-brings
bring-book-requires-clause-brings g c =
    let w = g.T.Turns.standing c.args.turns.now in
    let v = g.T.Turns.standing c.next_call_step.new.turns in
    let s = c.args.book.stream in
    let gone = rw c.in-GoesOn-Reads.field-0-is at c.in-GoesOn-Reads.ensures.went in
    let stepped = rw c.in-GoesOn-Reads.field-0-is at c.in-GoesOn-Reads.ensures.left in
    subst (λ (it : Call). brings_in it ≡ true)
    (sym (to_read_call w v s (suc w.in_flight) c.args.call c.in-GoesOn-Reads.call c.in-GoesOn-Reads.page c.args.out.now c.next_call_step.new.out gone stepped))
    c.requires.brings

pub bring-book-requires-clause-filed : goal.bring-book-requires-clause-filed
bring-book-requires-clause-filed g c =
    let w = g.T.Turns.standing c.args.turns.now in
    let v = g.T.Turns.standing c.next_call_step.new.turns in
    let s = c.args.book.stream in
    let gone = rw c.in-GoesOn-Reads.field-0-is at c.in-GoesOn-Reads.ensures.went in
    let stepped = rw c.in-GoesOn-Reads.field-0-is at c.in-GoesOn-Reads.ensures.left in
    subst (λ (it : Call). CallIsOfStream it c.next_call_step.new.book.stream)
    (sym (to_read_call w v s (suc w.in_flight) c.args.call c.in-GoesOn-Reads.call c.in-GoesOn-Reads.page c.args.out.now c.next_call_step.new.out gone stepped))
    (subst (λ (n : ℕ). CallIsOfStream c.args.call n) (sym c.next_call_step.ensures.book.stream) c.requires.filed)

pub bring-book-requires-clause-waited : goal.bring-book-requires-clause-waited
bring-book-requires-clause-waited g c =
    let w = g.T.Turns.standing c.args.turns.now in
    let v = g.T.Turns.standing c.next_call_step.new.turns in
    let s = c.args.book.stream in
    let gone = rw c.in-GoesOn-Reads.field-0-is at c.in-GoesOn-Reads.ensures.went in
    let stepped = rw c.in-GoesOn-Reads.field-0-is at c.in-GoesOn-Reads.ensures.left in
    to_read w v s (suc w.in_flight) c.args.call c.in-GoesOn-Reads.call c.in-GoesOn-Reads.page c.args.out.now c.next_call_step.new.out gone
    c.next_call_step.new.book.stream c.next_call_step.ensures.book.stream stepped

pub returns-in-GoesOn-Reads-clause-left : goal.returns-in-GoesOn-Reads-clause-left
returns-in-GoesOn-Reads-clause-left g c begun way =
    let w = g.T.Turns.standing c.args.turns.now in
    let v = g.T.Turns.standing c.next_call_step.new.turns in
    let s = c.args.book.stream in
    let new = (g.T.Turns.standing c.bring-book.new.turns).seen in
    let gone = rw c.in-GoesOn-Reads.field-0-is at c.in-GoesOn-Reads.ensures.went in
    let stepped = rw c.in-GoesOn-Reads.field-0-is at c.in-GoesOn-Reads.ensures.left in
    subst (λ (o : Course Call). RoundLeft w.setup w.number c.args.call o begun new c.args.out.now c.next_call_step.new.out) (sym c.course_of-in-GoesOn-Reads.ensures)
    (round_read w v s (suc w.in_flight) c.args.call c.in-GoesOn-Reads.call c.in-GoesOn-Reads.page c.args.out.now c.next_call_step.new.out gone
    c.bring-book.result.1 new stepped c.bring-book.ensures.left begun way)

pub returns-in-Ended-clause-full : goal.returns-in-Ended-clause-full
returns-in-Ended-clause-full g c =
    full-ended c.args.call (g.T.Turns.standing c.next_call_step.new.turns) c.in-Ended.answer c.in-Ended.ensures.full

pub returns-in-GoesOn-Writes-clause-full : goal.returns-in-GoesOn-Writes-clause-full
returns-in-GoesOn-Writes-clause-full g c =
    let x = g.T.Turns.standing c.write_for-book.new.turns in
    let w = g.T.Turns.standing c.args.turns.now in
    let v = g.T.Turns.standing c.next_call_step.new.turns in
    let s = c.args.book.stream in
    let gone = rw c.in-GoesOn-Writes.field-0-is at c.in-GoesOn-Writes.ensures.went in
    let stepped = rw c.in-GoesOn-Writes.field-0-is at c.in-GoesOn-Writes.ensures.left in
    let same = to_write_call w v s w.in_flight c.args.call c.in-GoesOn-Writes.call c.in-GoesOn-Writes.page c.args.out.now c.next_call_step.new.out gone stepped in
    subst (λ (o : Course Call). IsFullCourse c.args.call x o) (sym c.course_of.ensures)
    (full-wrote c.args.call x c.write_for-book.result.1 c.requires.brings
    (subst (λ (it : Call). IsFullWriting it x c.write_for-book.result.1) same c.write_for-book.ensures.writing))

pub returns-in-GoesOn-Reads-clause-full : goal.returns-in-GoesOn-Reads-clause-full
returns-in-GoesOn-Reads-clause-full g c =
    let x = g.T.Turns.standing c.bring-book.new.turns in
    subst (λ (o : Course Call). IsFullCourse c.args.call x o) (sym c.course_of-in-GoesOn-Reads.ensures)
    (full-brought c.args.call x c.bring-book.result.1 c.requires.brings c.bring-book.ensures.full)

pub returns-in-GoesOn-WentOut-clause-nearer : goal.returns-in-GoesOn-WentOut-clause-nearer
returns-in-GoesOn-WentOut-clause-nearer g c =
    let w = g.T.Turns.standing c.args.turns.now in
    let v = g.T.Turns.standing c.next_call_step.new.turns in
    let placed = rw c.in-GoesOn-WentOut.field-0-is at c.in-GoesOn-WentOut.ensures.placed in
    nearer-went c.args.book.stream c.args.call c.in-GoesOn-WentOut.call c.args.rounds.now w.seen v.seen
    (went-less w c.args.book.stream c.args.book c.requires.both.book c.requires.both.rest.device c.args.call (stepped-answered c.args.call c.requires.stepped) (brings-room c.args.call c.requires.brings)
    v.seen placed)

pub returns-in-GoesOn-Writes-clause-nearer : goal.returns-in-GoesOn-Writes-clause-nearer
returns-in-GoesOn-Writes-clause-nearer g c =
    let w = g.T.Turns.standing c.args.turns.now in
    let v = g.T.Turns.standing c.next_call_step.new.turns in
    let s = c.args.book.stream in
    let n = c.next_call_step.new.book.stream in
    let gone = rw c.in-GoesOn-Writes.field-0-is at c.in-GoesOn-Writes.ensures.went in
    let stepped = rw c.in-GoesOn-Writes.field-0-is at c.in-GoesOn-Writes.ensures.left in
    let placed = rw c.in-GoesOn-Writes.field-0-is at c.in-GoesOn-Writes.ensures.placed in
    let seen = (g.T.Turns.standing c.write_for-book.new.turns).seen in
    let keeps = c.keeps_for_write-keeps in
    let asked = subst (λ (a : Call). IsToBeWritten v.setup n a c.in-GoesOn-Writes.page v.seen)
    (to_write_call w v s w.in_flight c.args.call c.in-GoesOn-Writes.call c.in-GoesOn-Writes.page c.args.out.now c.next_call_step.new.out gone stepped)
    (to_write w v s w.in_flight c.args.call c.in-GoesOn-Writes.call c.in-GoesOn-Writes.page c.args.out.now c.next_call_step.new.out gone n c.next_call_step.ensures.book.stream stepped) in
    subst (λ (o : Course Call). IsNearer s c.args.call o c.args.rounds.now keeps.new.self w.seen seen) (sym c.course_of.ensures)
    (nearer-wrote s c.args.call (course_of c.write_for-book.result.1) c.args.rounds.now keeps.new.self w.seen seen c.in-GoesOn-Writes.page keeps.result
    keeps.ensures.kept keeps.ensures.stays keeps.ensures.block keeps.ensures.read
    (λ kept.
    round-wrote w v s c.args.book c.next_call_step.new.book c.requires.both.book c.requires.both.rest.device c.args.call (stepped-answered c.args.call c.requires.stepped) (brings-room c.args.call c.requires.brings)
    placed c.next_call_step.ensures.book c.next_call_step.ensures.rest.device c.in-GoesOn-Writes.page n keeps.result c.write_for-book.result.1 seen
    c.next_call_step.ensures.book.stream kept asked c.write_for-book.ensures.written))

pub returns-in-GoesOn-Reads-clause-nearer : goal.returns-in-GoesOn-Reads-clause-nearer
returns-in-GoesOn-Reads-clause-nearer g c =
    let w = g.T.Turns.standing c.args.turns.now in
    let v = g.T.Turns.standing c.next_call_step.new.turns in
    let s = c.args.book.stream in
    let n = c.next_call_step.new.book.stream in
    let gone = rw c.in-GoesOn-Reads.field-0-is at c.in-GoesOn-Reads.ensures.went in
    let stepped = rw c.in-GoesOn-Reads.field-0-is at c.in-GoesOn-Reads.ensures.left in
    let placed = rw c.in-GoesOn-Reads.field-0-is at c.in-GoesOn-Reads.ensures.placed in
    let page = c.in-GoesOn-Reads.page in
    let seen = (g.T.Turns.standing c.bring-book.new.turns).seen in
    let keeps = c.keeps_for_read-keeps in
    let call_is = to_read_call w v s (suc w.in_flight) c.args.call c.in-GoesOn-Reads.call page c.args.out.now c.next_call_step.new.out gone stepped in
    let waited = subst (λ (a : Call). IsWaitedFor v.setup n a page v.seen) call_is
    (to_read w v s (suc w.in_flight) c.args.call c.in-GoesOn-Reads.call page c.args.out.now c.next_call_step.new.out gone n c.next_call_step.ensures.book.stream stepped) in
    subst (λ (o : Course Call). IsNearer s c.args.call o c.args.rounds.now keeps.new.self w.seen seen) (sym c.course_of-in-GoesOn-Reads.ensures)
    (nearer-read s c.args.call (course_of c.bring-book.result.1) c.args.rounds.now keeps.new.self w.seen seen page keeps.result
    keeps.ensures.kept keeps.ensures.stays keeps.ensures.read keeps.ensures.anew
    v.setup v.seen n (so-far v.setup v.seen c.next_call_step.ensures.book.good) c.requires.brings waited
    (λ kept.
    round-brought w v s c.args.book c.next_call_step.new.book c.requires.both.book c.requires.both.rest.device c.args.call (stepped-answered c.args.call c.requires.stepped) (brings-room c.args.call c.requires.brings)
    placed.0 c.next_call_step.ensures.book c.next_call_step.ensures.rest.device page n c.bring-book.result.1 seen c.next_call_step.ensures.book.stream waited
    (subst (λ (a : Call). OnOk c.bring-book.result.1 (HasLanded v n a page seen)) call_is
    (c.bring-book.ensures.kept kept
    (subst (λ (t : ℕ). has_room (history v.seen t) page ≡ true) (sym c.next_call_step.ensures.book.stream) placed.1)))))
