-- The lengths that are read of the book may be told; what is in hand goes on standing, and the book is given back.
use Rattle.std.specs.Prelude.{ℕ, ◌≤◌, Result}
use Rattle.std.proofs.Common.{sym, subst, refl}
use Rattle.cc_entry.specs.declared.entry.Entry.TheVariants as entry
use Rattle.cc_entry.specs.declared.error.CcError.{CcError}
use Rattle.cc_model.specs.History.{history}
use Rattle.cc_model.specs.Records.{MayRecord}
use Rattle.cc_turns.specs.Takes.{without_book}
use Rattle.cc_writes.specs.Visits.{HasPlaced}
use Rattle.cc_stored.specs.declared.record.Lengths.{Lengths}
use Rattle.cc_stored.specs.Settle.{RecordWriteLeft, record_answer}
use Rattle.cc_stored.proofs.Written.{book_stands, disk_z, in_range, left_z, may, stands_taken, within}
use Rattle.cc_stored.proofs.record.write_reserved.Goals as goal

pub write_held-how-requires-clause-in_range : goal.write_held-how-requires-clause-in_range
write_held-how-requires-clause-in_range g c =
    let w = g.T.Turns.standing c.args.turns.now in
    let x = g.T.Turns.standing c.take_book-book.new.self in
    in_range g.T.Disk.Told.told g.T.Disk.Told.faults w x c.args.stream c.args.first c.size-size.result c.valid.result c.take_book-book.result c.args.disk.now
    c.requires.disk c.take_book-book.ensures.took c.take_book-book.ensures.stream c.take_book-book.ensures.stands c.requires.tells
    (c.size-size.ensures (x.setup.opening c.args.stream) x.seen c.take_book-book.ensures.stands) (c.valid.ensures (x.setup.opening c.args.stream) x.seen c.take_book-book.ensures.stands)

pub write_held-how-requires-clause-within : goal.write_held-how-requires-clause-within
write_held-how-requires-clause-within g c =
    let w = g.T.Turns.standing c.args.turns.now in
    let x = g.T.Turns.standing c.take_book-book.new.self in
    subst (λ (n : ℕ). n ≤ c.size-size.result) (sym c.lesser-valid.ensures)
    (within g.T.Disk.Told.told g.T.Disk.Told.faults w x c.args.stream c.args.first c.size-size.result c.valid.result c.take_book-book.result c.args.disk.now
    c.requires.disk c.take_book-book.ensures.took c.take_book-book.ensures.stream c.take_book-book.ensures.stands c.requires.tells
    (c.size-size.ensures (x.setup.opening c.args.stream) x.seen c.take_book-book.ensures.stands) (c.valid.ensures (x.setup.opening c.args.stream) x.seen c.take_book-book.ensures.stands))

pub write_held-how-requires-clause-may : goal.write_held-how-requires-clause-may
write_held-how-requires-clause-may g c =
    let w = g.T.Turns.standing c.args.turns.now in
    let x = g.T.Turns.standing c.take_book-book.new.self in
    subst (λ (n : ℕ). MayRecord (history x.seen c.args.stream) c.size-size.result n) (sym c.lesser-valid.ensures)
    (may g.T.Disk.Told.told g.T.Disk.Told.faults w x c.args.stream c.args.first c.size-size.result c.valid.result c.take_book-book.result c.args.disk.now
    c.requires.disk c.take_book-book.ensures.took c.take_book-book.ensures.stream c.take_book-book.ensures.stands c.requires.tells
    (c.size-size.ensures (x.setup.opening c.args.stream) x.seen c.take_book-book.ensures.stands) (c.valid.ensures (x.setup.opening c.args.stream) x.seen c.take_book-book.ensures.stands))

pub write_held-how-requires-clause-stands : goal.write_held-how-requires-clause-stands
write_held-how-requires-clause-stands g c =
    let w = g.T.Turns.standing c.args.turns.now in
    let x = g.T.Turns.standing c.take_book-book.new.self in
    stands_taken g.T.Disk.Told.told g.T.Disk.Told.faults w x c.args.stream c.args.first c.size-size.result c.valid.result c.take_book-book.result c.args.disk.now
    c.requires.disk c.take_book-book.ensures.took c.take_book-book.ensures.stream c.take_book-book.ensures.stands c.requires.tells
    (c.size-size.ensures (x.setup.opening c.args.stream) x.seen c.take_book-book.ensures.stands) (c.valid.ensures (x.setup.opening c.args.stream) x.seen c.take_book-book.ensures.stands)

pub give_book-requires-clause-stands : goal.give_book-requires-clause-stands
give_book-requires-clause-stands g c =
    let w = g.T.Turns.standing c.args.turns.now in
    let x = g.T.Turns.standing c.take_book-book.new.self in
    let y = g.T.Turns.standing c.write_held-how.new.turns in
    let placed = subst (λ (n : ℕ). HasPlaced x (entry.Record x.number c.args.stream c.size-size.result n c.write_held-how.result) y.seen) c.lesser-valid.ensures c.write_held-how.ensures.placed in
    book_stands g.T.Disk.Told.told g.T.Disk.Told.faults w x c.args.stream c.args.first c.size-size.result c.valid.result c.take_book-book.result c.args.disk.now
    c.requires.disk c.take_book-book.ensures.took c.take_book-book.ensures.stream c.take_book-book.ensures.stands c.requires.tells
    (c.size-size.ensures (x.setup.opening c.args.stream) x.seen c.take_book-book.ensures.stands) (c.valid.ensures (x.setup.opening c.args.stream) x.seen c.take_book-book.ensures.stands)
    y (without_book y) c.write_held-how.result c.write_held-how.new.disk c.write_held-how.ensures.went c.write_held-how.ensures.good c.write_held-how.ensures.stands placed refl

pub returns-clause-disk : goal.returns-clause-disk
returns-clause-disk g c =
    let w = g.T.Turns.standing c.args.turns.now in
    let x = g.T.Turns.standing c.take_book-book.new.self in
    let y = g.T.Turns.standing c.write_held-how.new.turns in
    let z = g.T.Turns.standing c.give_book.new.self in
    let placed = subst (λ (n : ℕ). HasPlaced x (entry.Record x.number c.args.stream c.size-size.result n c.write_held-how.result) y.seen) c.lesser-valid.ensures c.write_held-how.ensures.placed in
    disk_z g.T.Disk.Told.told g.T.Disk.Told.faults w x c.args.stream c.args.first c.size-size.result c.valid.result c.take_book-book.result c.args.disk.now
    c.requires.disk c.take_book-book.ensures.took c.take_book-book.ensures.stream c.take_book-book.ensures.stands c.requires.tells
    (c.size-size.ensures (x.setup.opening c.args.stream) x.seen c.take_book-book.ensures.stands) (c.valid.ensures (x.setup.opening c.args.stream) x.seen c.take_book-book.ensures.stands)
    y z c.write_held-how.result c.write_held-how.new.disk c.write_held-how.ensures.went c.write_held-how.ensures.good c.write_held-how.ensures.stands placed c.give_book.ensures

pub returns-clause-left : goal.returns-clause-left
returns-clause-left g c =
    let w = g.T.Turns.standing c.args.turns.now in
    let x = g.T.Turns.standing c.take_book-book.new.self in
    let y = g.T.Turns.standing c.write_held-how.new.turns in
    let z = g.T.Turns.standing c.give_book.new.self in
    let placed = subst (λ (n : ℕ). HasPlaced x (entry.Record x.number c.args.stream c.size-size.result n c.write_held-how.result) y.seen) c.lesser-valid.ensures c.write_held-how.ensures.placed in
    subst (λ (r : Result Lengths CcError). RecordWriteLeft w.number c.args.stream c.args.first r w.seen z.seen) (sym c.recorded.ensures)
    (subst (λ (n : ℕ). RecordWriteLeft w.number c.args.stream c.args.first (record_answer c.write_held-how.result (record { size = c.size-size.result; valid = n })) w.seen z.seen) (sym c.lesser-valid.ensures)
    (left_z g.T.Disk.Told.told g.T.Disk.Told.faults w x c.args.stream c.args.first c.size-size.result c.valid.result c.take_book-book.result c.args.disk.now
    c.requires.disk c.take_book-book.ensures.took c.take_book-book.ensures.stream c.take_book-book.ensures.stands c.requires.tells
    (c.size-size.ensures (x.setup.opening c.args.stream) x.seen c.take_book-book.ensures.stands) (c.valid.ensures (x.setup.opening c.args.stream) x.seen c.take_book-book.ensures.stands)
    y z c.write_held-how.result c.write_held-how.new.disk c.write_held-how.ensures.went c.write_held-how.ensures.good c.write_held-how.ensures.stands placed c.give_book.ensures))
