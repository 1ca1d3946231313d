-- With four places reserved the page may be stored and its transfer begun, and the place of the end that the pass owed
-- is released; without memory the four come back.
use Rattle.std.proofs.Common.{sym, subst}
use Rattle.cc_journal.specs.Journal.{JournalState}
use Rattle.cc_book.specs.Stored.{MayStoreAndBegin}
use Rattle.cc_ranges.proofs.Storing.{has-owed, may-store, no-room-here, stored-here, unstored-here}
use Rattle.cc_ranges.proofs.stores.store.Goals as goal

pub store-requires-clause-may : goal.store-requires-clause-may
store-requires-clause-may g c =
    let u = c.requires.may.0 in
    let b = c.args.book.now in (
      u,
      subst (λ (x : JournalState g.row.Q.Denot). MayStoreAndBegin u x.entries c.args.pass c.args.file c.args.page c.args.bytes b) (sym c.in-Ok.ensures.reserved)
          (may-store u c.args.pass c.args.file c.args.page c.args.bytes b c.args.journal.now c.requires.stream c.requires.may.1),
    )

pub returns-in-Ok-store-clause-stored : goal.returns-in-Ok-store-clause-stored
returns-in-Ok-store-clause-stored g c u may =
    let b = c.args.book.now in
    let j = c.args.journal.now in
    let here = subst (λ (x : JournalState g.row.Q.Denot). MayStoreAndBegin u x.entries c.args.pass c.args.file c.args.page c.args.bytes b) (sym c.in-Ok.ensures.reserved)
    (may-store u c.args.pass c.args.file c.args.page c.args.bytes b j c.requires.stream may) in
    stored-here u c.args.pass c.args.file c.args.page c.args.bytes b j c.requires.stream may c.store.new.self c.reserve.new.self c.store.new.journal c.release.new.self c.has_room-kept.result c.places_of-places.result c.owed_end-owed.result
    c.has_room-kept.ensures c.places_of-places.ensures c.in-Ok.ensures.reserved c.in-Ok-store.ensures.placed c.owed_end-owed.ensures c.release.ensures c.store.ensures.stream (c.in-Ok-store.ensures.stands u here)

pub release-requires : goal.release-requires
release-requires g c =
    let u = c.requires.may.0 in
    has-owed u c.args.pass c.args.file c.args.page c.args.bytes c.args.book.now c.args.journal.now c.requires.stream c.requires.may.1 c.reserve.new.self c.store.new.journal c.has_room-kept.result c.places_of-places.result c.owed_end-owed.result
    c.places_of-places.ensures c.in-Ok.ensures.reserved c.in-Ok-store.ensures.placed c.owed_end-owed.ensures

pub returns-in-Err-store-clause-stored : goal.returns-in-Err-store-clause-stored
returns-in-Err-store-clause-stored g c u may =
    unstored-here u c.args.pass c.args.file c.args.page c.args.bytes c.args.book.now c.args.journal.now c.requires.stream may c.store.new.self c.reserve.new.self c.store.new.journal c.release-in-Err-store.new.self c.places_of-places.result
    c.in-Ok.ensures.reserved c.in-Err-store.ensures.err c.release-in-Err-store.ensures

pub returns-in-Err-clause-stored : goal.returns-in-Err-clause-stored
returns-in-Err-clause-stored g c u may =
    no-room-here u c.args.pass c.args.file c.args.page c.args.bytes c.args.book.now c.args.journal.now c.requires.stream may c.in-Err.error c.reserve.new.self
    c.has_room-kept.result c.places_of-places.result c.has_room-kept.ensures c.places_of-places.ensures c.in-Err.ensures.causes c.in-Err.ensures.full c.in-Err.ensures.err
