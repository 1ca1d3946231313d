-- The book is given and taken round the sync with the disk in hand, so it stands still for its stream.
use Rattle.std.specs.Prelude.{ℕ}
use Rattle.std.proofs.Common.{◌∙◌, subst}
use Rattle.cc_entry.specs.declared.entry.Entry.TheVariants as entry
use Rattle.cc_book.specs.Book.{BookStands}
use Rattle.cc_turns.specs.Standing.{Standing}
use Rattle.cc_turns.specs.Takes.{Takes, with_book, without_book}
use Rattle.cc_writes.specs.Hands.{WentWith}
use Rattle.cc_writes.specs.Visits.{HasPlaced}
use Rattle.cc_ranges.proofs.FlushHolding.{both-synced}
use Rattle.cc_ranges.proofs.flush.sync_free.Goals as goal

pub returns-clause-both : goal.returns-clause-both
returns-clause-both g c =
    let w = g.T.Turns.standing c.args.turns.now in
    let x = g.T.Turns.standing c.place_sync.new.turns in
    let v = g.T.Turns.standing c.take_book.new.self in
    let s = c.args.book.stream in
    let end = c.sync-how.result in
    let went = subst (λ (y : Standing). WentWith 0 y x) c.give_book.ensures c.place_sync.ensures.went in
    let placed = subst (λ (n : ℕ). HasPlaced (without_book w) (entry.Sync w.number n end) x.seen) c.stream-stream.ensures
    (subst (λ (y : Standing). HasPlaced y (entry.Sync y.number c.stream-stream.result end) x.seen) c.give_book.ensures c.place_sync.ensures.placed) in
    let took = subst (λ (n : ℕ). Takes (with_book n) x v) c.stream-stream.ensures c.take_book.ensures.took in
    both-synced g.T.Disk.Told.told g.T.Disk.Told.faults w x v s c.args.book c.args.disk.now c.sync-how.new.disk end c.requires.both went placed took c.sync-how.ensures.ended
    c.take_book.result (c.take_book.ensures.stream ∙ c.stream-stream.ensures)
    (subst (λ (n : ℕ). BookStands (v.setup.opening n) v.seen c.take_book.result) c.stream-stream.ensures c.take_book.ensures.stands)
