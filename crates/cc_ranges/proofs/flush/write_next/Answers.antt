-- The page that the step names is dirty, and the flush admitted; so it may be written, and the round is what it left.
use Rattle.std.specs.Prelude.{◌≡◌, ℕ, ◌^◌, true, None}
use Rattle.std.proofs.Common.{ap, sym, ◌∙◌, inl, subst}
use Rattle.cc_entry.specs.declared.call.Call.TheVariants as call
use Rattle.cc_effects.specs.Asked.{is_admitted}
use Rattle.cc_model.specs.History.{history}
use Rattle.cc_model.specs.Refusals.{refusal}
use Rattle.cc_model.specs.Setup.{Setup}
use Rattle.cc_step.proofs.Admitted.{admitted}
use Rattle.cc_turns.specs.Standing.{Standing}
use Rattle.cc_writes.specs.Writes.{HasBoth, IsToWrite}
use Rattle.cc_writes.proofs.Disks.{still_of}
use Rattle.cc_effects.proofs.Begun.{ascend-none}
use Rattle.cc_ranges.specs.Flush.{RoundBegins, FlushRoundLeft, IsFullFlushRound}
use Rattle.cc_ranges.specs.declared.flush.Round.{Round}
use Rattle.cc_ranges.proofs.FlushHolding.{asks-page, begun-round, full-round, round-wrote}
use Rattle.cc_ranges.proofs.flush.write_next.Goals as goal

pub write_for-book-requires-clause-both : goal.write_for-book-requires-clause-both
write_for-book-requires-clause-both g c =
    let w = g.T.Turns.standing c.args.turns.now in
    let v = g.T.Turns.standing c.next_flush_step.new.turns in
    subst (λ (n : ℕ). HasBoth g.T.Disk.Told.told g.T.Disk.Told.faults v n c.next_flush_step.new.book c.args.disk.now) (c.requires.stream ∙ sym c.next_flush_step.ensures.book.stream)
    (still_of g.T.Disk.Told.told g.T.Disk.Told.faults w.in_flight w v c.args.book.stream c.args.file.stream c.args.book c.next_flush_step.new.book c.args.disk.now
    (sym c.requires.stream) c.requires.both c.next_flush_step.ensures.book c.next_flush_step.ensures.rest c.in-Writes.ensures.went c.next_flush_step.ensures.disk)

pub write_for-book-requires-clause-admitted : goal.write_for-book-requires-clause-admitted
write_for-book-requires-clause-admitted g c =
    let v = g.T.Turns.standing c.next_flush_step.new.turns in
    let it = call.Flush c.args.file c.args.span.now in
    let at = c.in-Writes.ensures.left c.requires.flushing.0 c.requires.flushing.1 in
    subst (λ (n : ℕ). refusal v.setup v.seen (history v.seen n) it ≡ None) (sym c.next_flush_step.ensures.book.stream)
    (subst (λ (u : Setup). refusal u v.seen (history v.seen c.args.file.stream) it ≡ None) (sym (ap (λ (x : Standing). x.setup) c.in-Writes.ensures.went.same)) at.admitted)

pub write_for-book-requires-clause-asked : goal.write_for-book-requires-clause-asked
write_for-book-requires-clause-asked g c =
    let v = g.T.Turns.standing c.next_flush_step.new.turns in
    let at = c.in-Writes.ensures.left c.requires.flushing.0 c.requires.flushing.1 in
    let it = call.Flush c.args.file c.args.span.now in
    asks-page c.args.file c.args.span.now c.next_flush_step.new.book.stream c.in-Writes.page v.seen
    (subst (λ (n : ℕ). is_admitted it n v.seen ≡ true) (sym c.next_flush_step.ensures.book.stream)
    (admitted (g.T.Turns.standing c.args.turns.now).setup v.seen c.args.file.stream it at.admitted))
    c.next_flush_step.ensures.book.stream at.in_span

pub write_for-book-requires-clause-to_write : goal.write_for-book-requires-clause-to_write
write_for-book-requires-clause-to_write g c =
    let v = g.T.Turns.standing c.next_flush_step.new.turns in
    let at = c.in-Writes.ensures.left c.requires.flushing.0 c.requires.flushing.1 in
    subst (λ (n : ℕ). IsToWrite (record { stream = n; page = c.in-Writes.page }) v.seen) (sym c.next_flush_step.ensures.book.stream) at.to_write

pub returns-in-Ended-clause-both : goal.returns-in-Ended-clause-both
returns-in-Ended-clause-both g c =
    let w = g.T.Turns.standing c.args.turns.now in
    let v = g.T.Turns.standing c.next_flush_step.new.turns in
    still_of g.T.Disk.Told.told g.T.Disk.Told.faults w.in_flight w v c.args.book.stream c.args.file.stream c.args.book c.next_flush_step.new.book c.args.disk.now
    (sym c.requires.stream) c.requires.both c.next_flush_step.ensures.book c.next_flush_step.ensures.rest c.in-Ended.ensures.went c.next_flush_step.ensures.disk

pub returns-in-Syncs-clause-both : goal.returns-in-Syncs-clause-both
returns-in-Syncs-clause-both g c =
    let w = g.T.Turns.standing c.args.turns.now in
    let v = g.T.Turns.standing c.next_flush_step.new.turns in
    still_of g.T.Disk.Told.told g.T.Disk.Told.faults 1 w v c.args.book.stream c.args.file.stream c.args.book c.next_flush_step.new.book c.args.disk.now
    (sym c.requires.stream) c.requires.both c.next_flush_step.ensures.book c.next_flush_step.ensures.rest c.in-Syncs.ensures.went c.next_flush_step.ensures.disk

pub returns-in-Writes-clause-left : goal.returns-in-Writes-clause-left
returns-in-Writes-clause-left g c begun is =
    let w = g.T.Turns.standing c.args.turns.now in
    let v = g.T.Turns.standing c.next_flush_step.new.turns in
    let x = g.T.Turns.standing c.write_for-book.new.turns in
    subst (λ (r : Round). FlushRoundLeft w.setup w.number c.args.file c.args.span.now r begun x.seen) (sym c.round_of.ensures)
    (round-wrote w v w.in_flight c.next_flush_step.new.book.stream c.args.file c.args.span.now c.in-Writes.page c.write_for-book.result.1 x.seen c.in-Writes.ensures.went
    c.next_flush_step.ensures.book.stream c.write_for-book.ensures.left c.write_for-book.ensures.written begun (c.in-Writes.ensures.left begun is))

pub returns-in-Ended-clause-ascending : goal.returns-in-Ended-clause-ascending
returns-in-Ended-clause-ascending g c =
    let w = g.T.Turns.standing c.args.turns.now in
    let v = g.T.Turns.standing c.next_flush_step.new.turns in
    ascend-none w.number c.args.from (2 ^ 51) w.seen v.seen c.requires.within c.next_flush_step.ensures.begun

pub returns-in-Writes-clause-ascending : goal.returns-in-Writes-clause-ascending
returns-in-Writes-clause-ascending g c =
    let w = g.T.Turns.standing c.args.turns.now in
    let v = g.T.Turns.standing c.next_flush_step.new.turns in
    let x = g.T.Turns.standing c.write_for-book.new.turns in
    subst (λ (r : Round). RoundBegins w.number r c.args.from w.seen x.seen) (sym c.round_of.ensures)
    (begun-round w.in_flight c.args.from c.in-Writes.page w v c.write_for-book.result.1 x.seen c.in-Writes.ensures.went c.in-Writes.ensures.ascending.0 c.in-Writes.ensures.ascending.1
    c.next_flush_step.ensures.begun c.write_for-book.ensures.begun)

pub returns-in-Ended-clause-full : goal.returns-in-Ended-clause-full
returns-in-Ended-clause-full g c = inl c.in-Ended.ensures.full

pub returns-in-Writes-clause-full : goal.returns-in-Writes-clause-full
returns-in-Writes-clause-full g c =
    let x = g.T.Turns.standing c.write_for-book.new.turns in
    let it = call.Flush c.args.file c.args.span.now in
    subst (λ (r : Round). IsFullFlushRound it x r) (sym c.round_of.ensures)
    (full-round it x c.in-Writes.page c.write_for-book.result.1 c.write_for-book.ensures.writing)
