-- By what the step asks: the page is dirty and the purge admitted, so it may be written; the round is what that left.
use Rattle.std.specs.Prelude.{◌≡◌, ℕ, true, None, Some}
use Rattle.std.proofs.Common.{ap, sym, ◌∙◌, inl, subst}
use Rattle.cc_entry.specs.declared.call.Call.TheVariants as call
use Rattle.cc_effects.specs.Asked.{is_admitted}
use Rattle.cc_model.specs.History.{history}
use Rattle.cc_model.specs.Refusals.{refusal}
use Rattle.cc_model.specs.Setup.{Setup}
use Rattle.cc_step.proofs.Admitted.{admitted}
use Rattle.cc_turns.specs.Standing.{Standing}
use Rattle.cc_writes.specs.Hands.{HasBook}
use Rattle.cc_writes.specs.Writes.{HasBoth, IsToWrite}
use Rattle.cc_writes.proofs.Disks.{still_of}
use Rattle.cc_ranges.specs.Purge.{PurgeHasLess, IsFullPurgeRound, PurgeRoundLeft, RoundPlaced, purge_round_of}
use Rattle.cc_ranges.specs.declared.purge.Round.{Round}
use Rattle.cc_ranges.specs.declared.purge.Round.TheVariants as round
use Rattle.cc_ranges.proofs.PurgeHolding.{asks-page, full-round, round-wrote}
use Rattle.cc_ranges.proofs.PurgeLessening.{less-on, less-wrote}
use Rattle.cc_ranges.proofs.PurgeRounds.{placed-ended, placed-went, placed-wrote}
use Rattle.cc_ranges.proofs.purge.advance.Goals as goal

pub write_for-book-requires-clause-both : goal.write_for-book-requires-clause-both
write_for-book-requires-clause-both g c =
    let w = g.T.Turns.standing c.args.turns.now in
    let v = g.T.Turns.standing c.next_purge_step.new.turns in
    subst (λ (n : ℕ). HasBoth g.T.Disk.Told.told g.T.Disk.Told.faults v n c.next_purge_step.new.book c.args.disk.now) (c.requires.stream ∙ sym c.next_purge_step.ensures.book.stream)
    (still_of g.T.Disk.Told.told g.T.Disk.Told.faults w.in_flight w v c.args.book.stream c.args.file.stream c.args.book c.next_purge_step.new.book c.args.disk.now
    (sym c.requires.stream) c.requires.both c.next_purge_step.ensures.book c.next_purge_step.ensures.rest c.next_purge_step.ensures.went c.next_purge_step.ensures.disk)

pub write_for-book-requires-clause-admitted : goal.write_for-book-requires-clause-admitted
write_for-book-requires-clause-admitted g c =
    let v = g.T.Turns.standing c.next_purge_step.new.turns in
    let it = call.Purge c.args.file c.args.span.now in
    subst (λ (n : ℕ). refusal v.setup v.seen (history v.seen n) it ≡ None) (sym c.next_purge_step.ensures.book.stream)
    (subst (λ (u : Setup). refusal u v.seen (history v.seen c.args.file.stream) it ≡ None) (sym (ap (λ (x : Standing). x.setup) c.next_purge_step.ensures.went.same)) c.in-Writes.ensures.asking.admitted)

pub write_for-book-requires-clause-asked : goal.write_for-book-requires-clause-asked
write_for-book-requires-clause-asked g c =
    let v = g.T.Turns.standing c.next_purge_step.new.turns in
    let it = call.Purge c.args.file c.args.span.now in
    asks-page c.args.file c.args.span.now c.next_purge_step.new.book.stream c.in-Writes.page v.seen
    (subst (λ (n : ℕ). is_admitted it n v.seen ≡ true) (sym c.next_purge_step.ensures.book.stream)
    (admitted (g.T.Turns.standing c.args.turns.now).setup v.seen c.args.file.stream it c.in-Writes.ensures.asking.admitted))
    c.next_purge_step.ensures.book.stream c.in-Writes.ensures.asking.in_span

pub write_for-book-requires-clause-to_write : goal.write_for-book-requires-clause-to_write
write_for-book-requires-clause-to_write g c =
    let v = g.T.Turns.standing c.next_purge_step.new.turns in
    subst (λ (n : ℕ). IsToWrite (record { stream = n; page = c.in-Writes.page }) v.seen) (sym c.next_purge_step.ensures.book.stream) c.in-Writes.ensures.asking.to_write

pub returns-in-Ended-clause-both : goal.returns-in-Ended-clause-both
returns-in-Ended-clause-both g c =
    let w = g.T.Turns.standing c.args.turns.now in
    let v = g.T.Turns.standing c.next_purge_step.new.turns in
    still_of g.T.Disk.Told.told g.T.Disk.Told.faults w.in_flight w v c.args.book.stream c.args.file.stream c.args.book c.next_purge_step.new.book c.args.disk.now
    (sym c.requires.stream) c.requires.both c.next_purge_step.ensures.book c.next_purge_step.ensures.rest c.next_purge_step.ensures.went c.next_purge_step.ensures.disk

pub returns-in-GoesOn-clause-both : goal.returns-in-GoesOn-clause-both
returns-in-GoesOn-clause-both g c =
    let w = g.T.Turns.standing c.args.turns.now in
    let v = g.T.Turns.standing c.next_purge_step.new.turns in
    still_of g.T.Disk.Told.told g.T.Disk.Told.faults w.in_flight w v c.args.book.stream c.args.file.stream c.args.book c.next_purge_step.new.book c.args.disk.now
    (sym c.requires.stream) c.requires.both c.next_purge_step.ensures.book c.next_purge_step.ensures.rest c.next_purge_step.ensures.went c.next_purge_step.ensures.disk

pub returns-in-Writes-clause-left : goal.returns-in-Writes-clause-left
returns-in-Writes-clause-left g c begun way =
    let w = g.T.Turns.standing c.args.turns.now in
    let v = g.T.Turns.standing c.next_purge_step.new.turns in
    let x = g.T.Turns.standing c.write_for-book.new.turns in
    subst (λ (r : Round). PurgeRoundLeft w.setup w.number c.args.file c.args.span.now r begun x.seen) (sym c.round_of.ensures)
    (round-wrote w v c.args.file c.args.span.now c.in-Writes.page c.write_for-book.result.1 x.seen c.next_purge_step.ensures.went
    c.write_for-book.ensures.left begun (c.in-Writes.ensures.left begun way))

-- what the round placed
pub returns-in-Ended-clause-placed : goal.returns-in-Ended-clause-placed
returns-in-Ended-clause-placed g c =
    let w = g.T.Turns.standing c.args.turns.now in
    let v = g.T.Turns.standing c.next_purge_step.new.turns in
    let stream = c.requires.stream in
    subst (λ (n : ℕ). RoundPlaced w.number n c.args.from c.args.keeps (round.Ended c.in-Ended.answer) w.seen v.seen) (sym stream)
    (placed-ended w c.args.file c.args.span.now c.args.from c.args.keeps (ap (λ h. h.book) c.requires.both.book.held ∙ ap (λ (n : ℕ). Some n) stream)
    (c.requires.both.rest.device ∙ ap (λ (n : ℕ). Some n) stream) c.in-Ended.answer v.seen c.in-Ended.ensures.placed)

pub returns-in-GoesOn-clause-placed : goal.returns-in-GoesOn-clause-placed
returns-in-GoesOn-clause-placed g c =
    let w = g.T.Turns.standing c.args.turns.now in
    let v = g.T.Turns.standing c.next_purge_step.new.turns in
    let stream = c.requires.stream in
    subst (λ (n : ℕ). RoundPlaced w.number n c.args.from c.args.keeps round.GoesOn w.seen v.seen) (sym stream)
    (placed-went w c.args.file c.args.span.now c.args.from c.args.keeps (ap (λ h. h.book) c.requires.both.book.held ∙ ap (λ (n : ℕ). Some n) stream)
    (c.requires.both.rest.device ∙ ap (λ (n : ℕ). Some n) stream) v.seen c.in-GoesOn.ensures.placed)

pub returns-in-Writes-clause-placed : goal.returns-in-Writes-clause-placed
returns-in-Writes-clause-placed g c =
    let w = g.T.Turns.standing c.args.turns.now in
    let v = g.T.Turns.standing c.next_purge_step.new.turns in
    let x = g.T.Turns.standing c.write_for-book.new.turns in
    let stream = c.requires.stream in
    subst (λ (r : Round). RoundPlaced w.number c.args.book.stream c.args.from c.args.keeps r w.seen x.seen) (sym c.round_of.ensures)
    (subst (λ (n : ℕ). RoundPlaced w.number n c.args.from c.args.keeps (purge_round_of c.write_for-book.result.1 c.in-Writes.page) w.seen x.seen) (sym stream)
    (placed-wrote w v c.args.file c.next_purge_step.new.book.stream c.args.from c.in-Writes.page c.args.keeps c.write_for-book.result.1 x.seen
    (ap (λ h. h.book) c.requires.both.book.held ∙ ap (λ (n : ℕ). Some n) stream) (c.requires.both.rest.device ∙ ap (λ (n : ℕ). Some n) stream)
    (ap (λ (y : Standing). y.number) c.next_purge_step.ensures.went.same) c.next_purge_step.ensures.book.stream c.in-Writes.ensures.asking.from_is c.in-Writes.ensures.placed
    c.write_for-book.ensures.begun c.write_for-book.ensures.stays c.write_for-book.ensures.alone))

-- with the book kept it leaves less to do
pub returns-in-GoesOn-clause-lessens : goal.returns-in-GoesOn-clause-lessens
returns-in-GoesOn-clause-lessens g c kept first =
    let w = g.T.Turns.standing c.args.turns.now in
    let v = g.T.Turns.standing c.next_purge_step.new.turns in
    let stream = c.requires.stream in
    subst (λ (n : ℕ). PurgeHasLess n round.GoesOn w.seen v.seen) (sym stream)
    (less-on w c.args.file c.args.span.now c.args.book c.args.from v.seen (subst (λ (n : ℕ). HasBook w n c.args.book) stream c.requires.both.book)
    (c.requires.both.rest.device ∙ ap (λ (n : ℕ). Some n) stream) first c.in-GoesOn.ensures.placed)

pub returns-in-Writes-clause-lessens : goal.returns-in-Writes-clause-lessens
returns-in-Writes-clause-lessens g c kept first =
    let w = g.T.Turns.standing c.args.turns.now in
    let v = g.T.Turns.standing c.next_purge_step.new.turns in
    let x = g.T.Turns.standing c.write_for-book.new.turns in
    let stream = c.requires.stream in
    subst (λ (r : Round). PurgeHasLess c.args.book.stream r w.seen x.seen) (sym c.round_of.ensures)
    (subst (λ (n : ℕ). PurgeHasLess n (purge_round_of c.write_for-book.result.1 c.in-Writes.page) w.seen x.seen) (sym stream)
    (less-wrote w v c.args.file c.args.span.now c.args.book c.next_purge_step.new.book c.next_purge_step.new.book.stream c.args.from c.in-Writes.page c.args.keeps c.write_for-book.result.1 x.seen
    (subst (λ (n : ℕ). HasBook w n c.args.book) stream c.requires.both.book) (c.requires.both.rest.device ∙ ap (λ (n : ℕ). Some n) stream)
    c.next_purge_step.ensures.book c.next_purge_step.ensures.rest.device (ap (λ (y : Standing). y.setup) c.next_purge_step.ensures.went.same)
    c.next_purge_step.ensures.book.stream kept c.in-Writes.ensures.placed c.in-Writes.ensures.asking c.write_for-book.ensures.written))

pub returns-in-Ended-clause-full : goal.returns-in-Ended-clause-full
returns-in-Ended-clause-full g c = inl c.in-Ended.ensures.full

pub returns-in-Writes-clause-full : goal.returns-in-Writes-clause-full
returns-in-Writes-clause-full g c =
    let x = g.T.Turns.standing c.write_for-book.new.turns in
    let it = call.Purge c.args.file c.args.span.now in
    subst (λ (r : Round). IsFullPurgeRound it x r) (sym c.round_of.ensures)
    (full-round it x c.in-Writes.page c.write_for-book.result.1 c.write_for-book.ensures.writing)
