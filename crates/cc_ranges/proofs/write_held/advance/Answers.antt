-- By the step: a page in the way is dirty, and the write admitted, so it may be written for it, and the round is what
-- that left; any other step is the round.
use Rattle.std.specs.Prelude.{◌≡◌, ℕ, true, None, Some, refl}
use Rattle.std.proofs.Common.{ap, sym, ◌∙◌, subst, inl}
use Rattle.cc_entry.specs.declared.call.Call.TheVariants as call
use Rattle.cc_effects.specs.Asked.{Calls, may_write}
use Rattle.cc_model.specs.History.{history}
use Rattle.cc_model.specs.Refusals.{refusal}
use Rattle.cc_model.specs.Setup.{Setup}
use Rattle.cc_turns.specs.Standing.{Standing}
use Rattle.cc_writes.specs.Hands.{HasBook}
use Rattle.cc_writes.specs.Visits.{IsToBeWritten}
use Rattle.cc_writes.specs.Writes.{HasBoth, IsToWrite}
use Rattle.cc_writes.proofs.Disks.{still_of}
use Rattle.cc_writes.proofs.Lessening.{went-less, round-wrote as round-wrote-less}
use Rattle.cc_writes.proofs.Nearing.{nearer-went, nearer-wrote}
use Rattle.cc_writes.specs.Rounds.{course_of}
use Rattle.cc_ranges.specs.WriteHeld.{IsFullWriteRound, WriteIsNearer, WriteRoundLeft}
use Rattle.cc_ranges.specs.declared.write_held.Round.{Round}
use Rattle.cc_ranges.proofs.WriteFull.{full-round}
use Rattle.cc_ranges.proofs.WriteHolding.{near-round, round-wrote, way-asked}
use Rattle.cc_ranges.proofs.write_held.advance.Goals as goal
use Rattle.cc_ranges.specs.ReadVisits.{file_page}

pub write_for-book-requires-clause-both : goal.write_for-book-requires-clause-both
write_for-book-requires-clause-both g c =
    let w = g.T.Turns.standing c.args.turns.now in
    let v = g.T.Turns.standing c.next_write_step.new.turns in
    subst (λ (n : ℕ). HasBoth g.T.Disk.Told.told g.T.Disk.Told.faults v n c.next_write_step.new.book c.args.disk.now) (c.requires.stream ∙ sym c.next_write_step.ensures.book.stream)
    (still_of g.T.Disk.Told.told g.T.Disk.Told.faults w.in_flight w v c.args.book.stream c.args.file.stream c.args.book c.next_write_step.new.book c.args.disk.now
    (sym c.requires.stream) c.requires.both c.next_write_step.ensures.book c.next_write_step.ensures.rest c.next_write_step.ensures.went c.next_write_step.ensures.disk)

pub write_for-book-requires-clause-admitted : goal.write_for-book-requires-clause-admitted
write_for-book-requires-clause-admitted g c =
    let v = g.T.Turns.standing c.next_write_step.new.turns in
    let it = call.NcWrite c.args.file c.args.page in
    subst (λ (n : ℕ). refusal v.setup v.seen (history v.seen n) it ≡ None) (sym c.next_write_step.ensures.book.stream)
    (subst (λ (u : Setup). refusal u v.seen (history v.seen c.args.file.stream) it ≡ None) (sym (ap (λ (x : Standing). x.setup) c.next_write_step.ensures.went.same)) c.in-Writes.ensures.asking.admitted)

pub write_for-book-requires-clause-asked : goal.write_for-book-requires-clause-asked
write_for-book-requires-clause-asked g c =
    let v = g.T.Turns.standing c.next_write_step.new.turns in
    let it = call.NcWrite c.args.file c.args.page in
    subst (λ (n : ℕ). may_write (Calls it) (record { stream = n; page = c.in-Writes.dirty }) v.seen ≡ true) (sym c.next_write_step.ensures.book.stream)
    (way-asked it (file_page c.args.file c.in-Writes.dirty) v.seen c.in-Writes.ensures.asking.in_the_way)

pub write_for-book-requires-clause-to_write : goal.write_for-book-requires-clause-to_write
write_for-book-requires-clause-to_write g c =
    let v = g.T.Turns.standing c.next_write_step.new.turns in
    subst (λ (n : ℕ). IsToWrite (record { stream = n; page = c.in-Writes.dirty }) v.seen) (sym c.next_write_step.ensures.book.stream) c.in-Writes.ensures.asking.to_write

pub returns-in-Ended-clause-both : goal.returns-in-Ended-clause-both
returns-in-Ended-clause-both g c =
    let w = g.T.Turns.standing c.args.turns.now in
    let v = g.T.Turns.standing c.next_write_step.new.turns in
    still_of g.T.Disk.Told.told g.T.Disk.Told.faults w.in_flight w v c.args.book.stream c.args.file.stream c.args.book c.next_write_step.new.book c.args.disk.now
    (sym c.requires.stream) c.requires.both c.next_write_step.ensures.book c.next_write_step.ensures.rest c.next_write_step.ensures.went c.next_write_step.ensures.disk

pub returns-in-Ready-clause-both : goal.returns-in-Ready-clause-both
returns-in-Ready-clause-both g c =
    let w = g.T.Turns.standing c.args.turns.now in
    let v = g.T.Turns.standing c.next_write_step.new.turns in
    still_of g.T.Disk.Told.told g.T.Disk.Told.faults w.in_flight w v c.args.book.stream c.args.file.stream c.args.book c.next_write_step.new.book c.args.disk.now
    (sym c.requires.stream) c.requires.both c.next_write_step.ensures.book c.next_write_step.ensures.rest c.next_write_step.ensures.went c.next_write_step.ensures.disk

pub returns-in-GoesOn-clause-both : goal.returns-in-GoesOn-clause-both
returns-in-GoesOn-clause-both g c =
    let w = g.T.Turns.standing c.args.turns.now in
    let v = g.T.Turns.standing c.next_write_step.new.turns in
    still_of g.T.Disk.Told.told g.T.Disk.Told.faults w.in_flight w v c.args.book.stream c.args.file.stream c.args.book c.next_write_step.new.book c.args.disk.now
    (sym c.requires.stream) c.requires.both c.next_write_step.ensures.book c.next_write_step.ensures.rest c.next_write_step.ensures.went c.next_write_step.ensures.disk

pub returns-in-Writes-clause-left : goal.returns-in-Writes-clause-left
returns-in-Writes-clause-left g c begun is =
    let w = g.T.Turns.standing c.args.turns.now in
    let v = g.T.Turns.standing c.next_write_step.new.turns in
    let x = g.T.Turns.standing c.write_for-book.new.turns in
    subst (λ (r : Round). WriteRoundLeft w.setup w.number c.args.file c.args.page r begun x.seen) (sym c.round_of.ensures)
    (round-wrote w v c.args.file c.args.page c.in-Writes.dirty c.next_write_step.new.book.stream x.seen c.next_write_step.ensures.book.stream c.next_write_step.ensures.went c.in-Writes.ensures.asking.in_the_way
    c.write_for-book.result.1 c.write_for-book.ensures.left c.write_for-book.ensures.reason c.write_for-book.ensures.works begun (c.in-Writes.ensures.left begun is))

pub returns-in-GoesOn-clause-nearer : goal.returns-in-GoesOn-clause-nearer
returns-in-GoesOn-clause-nearer g c =
    let w = g.T.Turns.standing c.args.turns.now in
    let v = g.T.Turns.standing c.next_write_step.new.turns in
    let it = call.NcWrite c.args.file c.args.page in
    nearer-went c.args.file.stream it it c.args.rounds.now w.seen v.seen
    (went-less w c.args.file.stream c.args.book
    (subst (λ (n : ℕ). HasBook w n c.args.book) c.requires.stream c.requires.both.book) (c.requires.both.rest.device ∙ ap (λ (n : ℕ). Some n) c.requires.stream)
    it refl refl v.seen c.in-GoesOn.ensures.placed)

pub returns-in-Writes-clause-nearer : goal.returns-in-Writes-clause-nearer
returns-in-Writes-clause-nearer g c =
    let w = g.T.Turns.standing c.args.turns.now in
    let v = g.T.Turns.standing c.next_write_step.new.turns in
    let file = c.args.file in
    let it = call.NcWrite file c.args.page in
    let n = c.next_write_step.new.book.stream in
    let dirty = c.in-Writes.dirty in
    let seen = (g.T.Turns.standing c.write_for-book.new.turns).seen in
    let keeps = c.keeps_for_write-keeps in
    let asking = c.in-Writes.ensures.asking in
    let asked : IsToBeWritten v.setup n it dirty v.seen =
    subst (λ (u : Setup). IsToBeWritten u n it dirty v.seen) (sym (ap (λ (x : Standing). x.setup) c.next_write_step.ensures.went.same))
    (subst (λ (t : ℕ). IsToBeWritten w.setup t it dirty v.seen) (sym c.next_write_step.ensures.book.stream)
    (record { admitted = asking.admitted; needing = tt; in_the_way = asking.in_the_way; dirty = asking.to_write.dirty; stamped = asking.to_write.stamped })) in
    subst (λ (r : Round). WriteIsNearer file c.args.page r c.args.rounds.now keeps.new.self w.seen seen) (sym c.round_of.ensures)
    (near-round file c.args.page c.write_for-book.result.1 c.args.rounds.now keeps.new.self w.seen seen
    (nearer-wrote file.stream it (course_of c.write_for-book.result.1) c.args.rounds.now keeps.new.self w.seen seen dirty keeps.result
    keeps.ensures.kept keeps.ensures.stays keeps.ensures.block keeps.ensures.read
    (λ kept.
    round-wrote-less w v file.stream c.args.book c.next_write_step.new.book
    (subst (λ (t : ℕ). HasBook w t c.args.book) c.requires.stream c.requires.both.book) (c.requires.both.rest.device ∙ ap (λ (t : ℕ). Some t) c.requires.stream)
    it refl refl c.in-Writes.ensures.placed c.next_write_step.ensures.book c.next_write_step.ensures.rest.device dirty n keeps.result c.write_for-book.result.1 seen
    c.next_write_step.ensures.book.stream kept asked c.write_for-book.ensures.written)))

pub returns-in-Ended-clause-full : goal.returns-in-Ended-clause-full
returns-in-Ended-clause-full g c = inl c.in-Ended.ensures.full

pub returns-in-Writes-clause-full : goal.returns-in-Writes-clause-full
returns-in-Writes-clause-full g c =
    let x = g.T.Turns.standing c.write_for-book.new.turns in
    subst (λ (r : Round). IsFullWriteRound c.args.file c.args.page x r) (sym c.round_of.ensures)
    (full-round c.args.file c.args.page x c.write_for-book.result.1 c.write_for-book.ensures.writing)
