-- The page starts below the size, and may be stored on the book; the bytes that are kept are those that go to the disk.
use Rattle.std.specs.Prelude.{◌≡◌, None, refl}
use Rattle.cc_entry.specs.declared.call.Call.TheVariants as call
use Rattle.cc_model.specs.History.{history}
use Rattle.cc_turns.specs.Disk.{opening_of}
use Rattle.cc_world.proofs.Stores.{below-size}
use Rattle.cc_world.proofs.UncachedCalls.{may-both, store-admitted, stored-went}
use Rattle.cc_world.proofs.rows.StreamRow.store.Goals as goal

pub image_of-requires-clause-below : goal.image_of-requires-clause-below
image_of-requires-clause-below g c =
    let u = c.requires.may.0 in
    let first = c.requires.may.1 in
    let ready = c.requires.may.2 in
    let row = c.args.self.now in
    let j = c.args.journal.now in (
      opening_of first.told,
      j.entries,
      ready.made.stands.row_is.book,
      below-size u j.entries (history j.entries row.book.stream) c.args.file c.args.page.page c.args.bytes
          (store-admitted g.D.Told.told g.D.Told.faults u first 4 c.args.pass c.args.file c.args.page.page c.args.bytes row j ready.made),
    )

pub store-requires-clause-may : goal.store-requires-clause-may
store-requires-clause-may g c =
    let u = c.requires.may.0 in
    (u, may-both g.D.Told.told g.D.Told.faults u c.requires.may.1 c.args.pass c.args.file c.args.page c.args.bytes c.args.self.now c.args.journal.now c.requires.stream c.requires.may.2)

pub returns : goal.returns
returns g c u first ready =
    let row = c.args.self.now in
    let j = c.args.journal.now in
    stored-went g.D.Told.told g.D.Told.faults u first c.args.pass c.args.file c.args.page c.args.bytes row j c.requires.stream ready c.store.new.self c.store.new.journal c.release.new.self c.owed_end-owed.result
    c.in_ok-image.image c.in_ok-store.ensures.placed c.owed_end-owed.ensures c.release.ensures
    (c.in_ok-store.ensures.stands u (may-both g.D.Told.told g.D.Told.faults u first c.args.pass c.args.file c.args.page c.args.bytes row j c.requires.stream ready))
    c.in_ok-store.ensures.stream (c.in_ok-image.ensures (opening_of first.told) j.entries ready.made.stands.row_is.book)
