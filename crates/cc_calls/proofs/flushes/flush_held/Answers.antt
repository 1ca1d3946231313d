-- The flush begins with disk and book of a stream at rest; what it left holds still after the turn of the book is given.
use Rattle.std.specs.Prelude.{ℕ}
use Rattle.std.proofs.Common.{sym, subst}
use Rattle.cc_entry.specs.declared.call.Call.TheVariants as call
use Rattle.cc_effects.proofs.Starts.{begins}
use Rattle.cc_turns.specs.Standing.{Standing}
use Rattle.cc_writes.specs.Writes.{HasBoth}
use Rattle.cc_calls.specs.Answers.{outcome_of}
use Rattle.cc_calls.specs.Flushes.{HasDisk}
use Rattle.cc_calls.proofs.FlushHeld.{both_taken, ended-well, ends_given, left_given}
use Rattle.cc_calls.proofs.flushes.flush_held.Goals as goal

pub flush_with_book-book-requires-clause-both : goal.flush_with_book-book-requires-clause-both
flush_with_book-book-requires-clause-both g c =
    let w = g.T.Turns.standing c.args.turns.now in
    let x = g.T.Turns.standing c.take_book-book.new.self in
    let has = subst (λ (n : ℕ). HasDisk g.T.Disk.Told.told g.T.Disk.Told.faults w n c.args.disk.now) (sym c.stream-stream.ensures) c.requires.disk in
    subst (λ (n : ℕ). HasBoth g.T.Disk.Told.told g.T.Disk.Told.faults x n c.take_book-book.result c.args.disk.now) (sym c.take_book-book.ensures.stream)
    (both_taken g.T.Disk.Told.told g.T.Disk.Told.faults w x c.stream-stream.result c.args.disk.now has c.take_book-book.ensures.took
    c.take_book-book.result c.take_book-book.ensures.stream c.take_book-book.ensures.stands)

pub returns-clause-ends : goal.returns-clause-ends
returns-clause-ends g c =
    let w = g.T.Turns.standing c.args.turns.now in
    let x = g.T.Turns.standing c.take_book-book.new.self in
    let y = g.T.Turns.standing c.flush_with_book-book.new.turns in
    let z = g.T.Turns.standing c.give_book.new.self in
    let has = subst (λ (n : ℕ). HasDisk g.T.Disk.Told.told g.T.Disk.Told.faults w n c.args.disk.now) (sym c.stream-stream.ensures) c.requires.disk in
    ends_given g.T.Disk.Told.told g.T.Disk.Told.faults w x c.stream-stream.result c.args.disk.now has c.take_book-book.ensures.took y z c.flush_with_book-book.ensures.went c.give_book.ensures
    c.args.file c.args.span c.flush_with_book-book.result.1
    (c.flush_with_book-book.ensures.left x.seen (begins x.number (call.Flush c.args.file c.args.span) x.seen)) c.flush_with_book-book.ensures.full c.flush_with_book-book.ensures.both.book.good c.flush_with_book-book.ensures.ascending

pub returns-clause-well : goal.returns-clause-well
returns-clause-well g c =
    let w = g.T.Turns.standing c.args.turns.now in
    let x = g.T.Turns.standing c.take_book-book.new.self in
    let y = g.T.Turns.standing c.flush_with_book-book.new.turns in
    let z = g.T.Turns.standing c.give_book.new.self in
    let has = subst (λ (n : ℕ). HasDisk g.T.Disk.Told.told g.T.Disk.Told.faults w n c.args.disk.now) (sym c.stream-stream.ensures) c.requires.disk in
    let it = call.Flush c.args.file c.args.span in
    ended-well w.setup w.number c.args.file c.args.span c.flush_with_book-book.result.1 w.seen z.seen
    (left_given g.T.Disk.Told.told g.T.Disk.Told.faults w x c.stream-stream.result c.args.disk.now has c.take_book-book.ensures.took y z c.flush_with_book-book.ensures.went c.give_book.ensures
    it (outcome_of c.flush_with_book-book.result.1) (c.flush_with_book-book.ensures.left x.seen (begins x.number it x.seen)))
