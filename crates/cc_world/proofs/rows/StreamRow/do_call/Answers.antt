-- What the call leaves of the book is what it leaves of the row. The log of the row's stream is among those that are given.
use Rattle.cc_world.proofs.CallRows.{alone-on-book, book-stands, on-book, row-left, says-resting}
use Rattle.cc_world.proofs.rows.StreamRow.do_call.Goals as goal

pub end_call-requires : goal.end_call-requires
end_call-requires g c =
    let u = c.requires.standing.0 in
    let first = c.requires.standing.1 in
    let stand = c.requires.standing.2 in
    let row = c.args.self.now in
    let j = c.args.journal.now in
    record {
      made = (u, record { stands = book-stands g.D.Told.told g.D.Told.faults u first 0 row j stand; here = c.requires.filed });
      on_book = on-book j.entries row.book.stream c.args.call c.requires.filed c.in_default.not-NcRead c.in_default.not-NcStore;
      notes = c.requires.notes;
      resting = says-resting g.D.Told.told g.D.Told.faults u first 0 row j stand c.is_none-resting.result c.is_none-resting.ensures;
    }

pub returns-in_default : goal.returns-in_default
returns-in_default g c u first stand =
    let row = c.args.self.now in
    let j = c.args.journal.now in
    let on_book = on-book j.entries row.book.stream c.args.call c.requires.filed c.in_default.not-NcRead c.in_default.not-NcStore in
    row-left g.D.Told.told g.D.Told.faults u first 0 row j stand c.args.pass c.args.call c.end_call.result c.end_call.new.book c.end_call.new.journal
    (λ none. alone-on-book c.args.call on_book)
    (c.end_call.ensures u (record { stands = book-stands g.D.Told.told g.D.Told.faults u first 0 row j stand; here = c.requires.filed }))
