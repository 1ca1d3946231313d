-- A store that is refused leaves its entry; any other is admitted. It is refused as the write is that it belongs to.
use Rattle.std.specs.Prelude.{◌≡◌, None, Some}
use Rattle.std.specs.declared.option.Option.{Option}
use Rattle.std.proofs.Common.{sym, ◌∙◌}
use Rattle.cc_entry.specs.declared.call.Call.TheVariants as call
use Rattle.cc_entry.specs.declared.error.CcError.{CcError}
use Rattle.cc_model.specs.History.{history}
use Rattle.cc_turns.specs.Disk.{opening_of}
use Rattle.cc_world.proofs.CallGood.{reason-else}
use Rattle.cc_world.proofs.CallRows.{row-left}
use Rattle.cc_world.proofs.Stores.{store-refusal}
use Rattle.cc_world.proofs.UncachedCalls.{admitted-on, refused-on}
use Rattle.cc_world.proofs.rows.StreamRow.store_uncached.Goals as goal

pub store_admitted-requires-clause-may : goal.store_admitted-requires-clause-may
store_admitted-requires-clause-may g c =
    let u = c.requires.standing.0 in
    let first = c.requires.standing.1 in
    let stand = c.requires.standing.2 in
    let row = c.args.self.now in
    let j = c.args.journal.now in
    let it = call.NcStore c.args.file c.args.page c.args.bytes in (
      u,
      first,
      admitted-on g.D.Told.told g.D.Told.faults u first row j stand it c.requires.filed
          (reason-else u j.entries row.book.stream it (λ file page is. absurd (cc)) c.requires.filed
          ∙ (store-refusal u j.entries (history j.entries row.book.stream) c.args.file c.args.page c.args.bytes
          ∙ (sym (c.in-Ok-None.ensures u (opening_of first.told) stand.limits.0 stand.row_is.book) ∙ c.in-Ok-None.field-0-is))),
    )

pub returns-in-Ok-None : goal.returns-in-Ok-None
returns-in-Ok-None g c u first stand =
    let row = c.args.self.now in
    let j = c.args.journal.now in
    let it = call.NcStore c.args.file c.args.page c.args.bytes in
    c.store_admitted.ensures u first
    (admitted-on g.D.Told.told g.D.Told.faults u first row j stand it c.requires.filed
    (reason-else u j.entries row.book.stream it (λ file page is. absurd (cc)) c.requires.filed
    ∙ (store-refusal u j.entries (history j.entries row.book.stream) c.args.file c.args.page c.args.bytes
    ∙ (sym (c.in-Ok-None.ensures u (opening_of first.told) stand.limits.0 stand.row_is.book) ∙ c.in-Ok-None.field-0-is))))

pub refuse-requires : goal.refuse-requires
refuse-requires g c =
    let u = c.requires.standing.0 in
    let first = c.requires.standing.1 in
    let stand = c.requires.standing.2 in
    let row = c.args.self.now in
    let j = c.args.journal.now in
    let it = call.NcStore c.args.file c.args.page c.args.bytes in
    record {
      refused = (
        u,
        refused-on g.D.Told.told g.D.Told.faults u first row j stand c.args.pass it c.in-Ok-Some.error c.requires.filed (sym c.requires.filed)
            (reason-else u j.entries row.book.stream it (λ file page is. absurd (cc)) c.requires.filed
            ∙ (store-refusal u j.entries (history j.entries row.book.stream) c.args.file c.args.page c.args.bytes
            ∙ (sym (c.in-Ok-Some.ensures u (opening_of first.told) stand.limits.0 stand.row_is.book) ∙ c.in-Ok-Some.field-0-is))),
      );
    }

pub returns-in-Ok-Some : goal.returns-in-Ok-Some
returns-in-Ok-Some g c u first stand =
    let row = c.args.self.now in
    let j = c.args.journal.now in
    let it = call.NcStore c.args.file c.args.page c.args.bytes in
    let reason =
    (reason-else u j.entries row.book.stream it (λ file page is. absurd (cc)) c.requires.filed
    ∙ (store-refusal u j.entries (history j.entries row.book.stream) c.args.file c.args.page c.args.bytes
    ∙ (sym (c.in-Ok-Some.ensures u (opening_of first.told) stand.limits.0 stand.row_is.book) ∙ c.in-Ok-Some.field-0-is))) in
    row-left g.D.Told.told g.D.Told.faults u first 0 row j stand c.args.pass it c.refuse.result c.refuse.new.book c.refuse.new.journal
    (λ none. absurd (refused-not _ _ reason none))
    (c.refuse.ensures u (refused-on g.D.Told.told g.D.Told.faults u first row j stand c.args.pass it c.in-Ok-Some.error c.requires.filed (sym c.requires.filed) reason))
  where
    refused-not : (o : Option CcError) (e : CcError) → o ≡ Some e → o ≡ None → ⊥
    refused-not o e some none = absurd (cc)
