-- The number of the page is that of its id: what is shown of the id's page is shown of the number.
use Rattle.std.specs.Prelude.{◌≡◌, ℕ, refl}
use Rattle.std.proofs.Common.{ap, sym, ◌∙◌, subst}
use Rattle.cc_entry.specs.Place.{Page}
use Rattle.cc_entry.specs.declared.call.Call.TheVariants as call
use Rattle.cc_model.specs.Conditions.{MayStore}
use Rattle.cc_model.specs.History.{history}
use Rattle.cc_turns.specs.Disk.{opening_of}
use Rattle.cc_world.specs.Rows.{RowLeft}
use Rattle.cc_world.specs.Uncached.{IsAdmittedOn}
use Rattle.cc_effects.specs.declared.events.Event.TheVariants as event
use Rattle.cc_world.proofs.Standing.{is-busy, is-resting}
use Rattle.cc_world.proofs.Stores.{below-size, numbered}
use Rattle.cc_world.proofs.Tests.{says-no, says-yes}
use Rattle.cc_world.proofs.UncachedCalls.{left-reserving, left-unreserved, may-store, not-store, ready-reserving, store-admitted}
use Rattle.cc_world.proofs.rows.StreamRow.store_admitted.Goals as goal

pub returns-then-is_some : goal.returns-then-is_some
returns-then-is_some g c u first made = (
  not-store g.D.Told.told g.D.Told.faults u first 0 c.args.pass c.args.file c.args.page c.args.bytes c.args.self.now c.args.journal.now made
      (λ may. is-busy g.D.Told.told g.D.Told.faults u first 0 c.args.self.now c.args.journal.now made.stands (sym c.is_some.ensures ∙ c.if-is_some.true) may.no_transfer),
  refl,
  refl,
)

pub page_id-page-requires : goal.page_id-page-requires
page_id-page-requires g c =
    let u = c.requires.may.0 in
    let first = c.requires.may.1 in
    let made = c.requires.may.2 in
    let row = c.args.self.now in
    let j = c.args.journal.now in
    numbered u j.entries row.book.stream c.args.page made.stands.good
    (below-size u j.entries (history j.entries row.book.stream) c.args.file c.args.page c.args.bytes
    (store-admitted g.D.Told.told g.D.Told.faults u first 0 c.args.pass c.args.file c.args.page c.args.bytes row j made))

pub returns-then-not-may_store : goal.returns-then-not-may_store
returns-then-not-may_store g c u first made =
    let row = c.args.self.now in
    let j = c.args.journal.now in
    let number : c.page_id-page.result.page ≡ c.args.page = ap (λ (p : Page). p.page) c.page_id-page.ensures in
    let rest = is-resting g.D.Told.told g.D.Told.faults u first 0 row j made.stands (sym c.is_some.ensures ∙ c.if-is_some.false) in (
      not-store g.D.Told.told g.D.Told.faults u first 0 c.args.pass c.args.file c.args.page c.args.bytes row j made
          (λ may. says-no c.may_store.result _ c.if-not-may_store.true (c.may_store.ensures (opening_of first.told) made.stands.row_is.book rest.no_transfer)
          (subst (λ (n : ℕ). MayStore j.entries row.book.stream n c.args.bytes) (sym number) may)),
      refl,
      refl,
    )

pub store_ready-requires-clause-may : goal.store_ready-requires-clause-may
store_ready-requires-clause-may g c =
    let u = c.requires.may.0 in
    let first = c.requires.may.1 in
    let made = c.requires.may.2 in
    let row = c.args.self.now in
    let j = c.args.journal.now in
    let id = c.page_id-page.result in
    let rest = is-resting g.D.Told.told g.D.Told.faults u first 0 row j made.stands (sym c.is_some.ensures ∙ c.if-is_some.false) in (
      u,
      first,
      ready-reserving g.D.Told.told g.D.Told.faults u first c.args.pass 4 (call.NcStore c.args.file id.page c.args.bytes) row j
          (subst (λ (n : ℕ). IsAdmittedOn g.D.Told.told g.D.Told.faults u first 0 (call.NcStore c.args.file n c.args.bytes) row j) (sym (ap (λ (p : Page). p.page) c.page_id-page.ensures)) made)
          refl c.reserve.new.self c.in-Ok.ensures.reserved
          (says-yes c.may_store.result _ c.if-not-may_store.false (c.may_store.ensures (opening_of first.told) made.stands.row_is.book rest.no_transfer)),
    )

pub returns-in-Ok : goal.returns-in-Ok
returns-in-Ok g c u first made =
    let row = c.args.self.now in
    let j = c.args.journal.now in
    let id = c.page_id-page.result in
    let it = call.NcStore c.args.file id.page c.args.bytes in
    let number : id.page ≡ c.args.page = ap (λ (p : Page). p.page) c.page_id-page.ensures in
    let same = subst (λ (n : ℕ). IsAdmittedOn g.D.Told.told g.D.Told.faults u first 0 (call.NcStore c.args.file n c.args.bytes) row j) (sym number) made in
    let rest = is-resting g.D.Told.told g.D.Told.faults u first 0 row j made.stands (sym c.is_some.ensures ∙ c.if-is_some.false) in
    let may = says-yes c.may_store.result _ c.if-not-may_store.false (c.may_store.ensures (opening_of first.told) made.stands.row_is.book rest.no_transfer) in
    subst (λ (n : ℕ). RowLeft g.D.Told.told g.D.Told.faults u first (event.Do c.args.pass (call.NcStore c.args.file n c.args.bytes)) c.store_ready.result row c.store_ready.new.self j c.store_ready.new.journal) number
    (left-reserving g.D.Told.told g.D.Told.faults u first c.args.pass 4 it row j same refl c.reserve.new.self c.store_ready.new.journal c.store_ready.result c.store_ready.new.self _ _
    c.in-Ok.ensures.reserved c.in-Ok.ensures.full.1 (may-store g.D.Told.told g.D.Told.faults u first 0 c.args.pass c.args.file id.page c.args.bytes row j same may)
    (c.store_ready.ensures u first (ready-reserving g.D.Told.told g.D.Told.faults u first c.args.pass 4 it row j same refl c.reserve.new.self c.in-Ok.ensures.reserved may)))

pub returns-in-Err : goal.returns-in-Err
returns-in-Err g c u first made =
    let row = c.args.self.now in
    let j = c.args.journal.now in
    let id = c.page_id-page.result in
    let number : id.page ≡ c.args.page = ap (λ (p : Page). p.page) c.page_id-page.ensures in
    let rest = is-resting g.D.Told.told g.D.Told.faults u first 0 row j made.stands (sym c.is_some.ensures ∙ c.if-is_some.false) in
    let may = says-yes c.may_store.result _ c.if-not-may_store.false (c.may_store.ensures (opening_of first.told) made.stands.row_is.book rest.no_transfer) in
    left-unreserved g.D.Told.told g.D.Told.faults u first c.args.pass 4 (call.NcStore c.args.file c.args.page c.args.bytes) row j made refl c.in-Err.error c.reserve.new.self
    (may-store g.D.Told.told g.D.Told.faults u first 0 c.args.pass c.args.file c.args.page c.args.bytes row j made (subst (λ (n : ℕ). MayStore j.entries row.book.stream n c.args.bytes) number may))
    c.in-Err.ensures.full c.in-Err.ensures.causes c.in-Err.ensures.err
