-- A read that is refused leaves its entry; any other is admitted.
use Rattle.std.specs.Prelude.{◌≡◌, Some, refl}
use Rattle.std.proofs.Common.{sym, ◌∙◌}
use Rattle.cc_entry.specs.declared.call.Call.TheVariants as call
use Rattle.cc_turns.specs.Disk.{opening_of}
use Rattle.cc_world.proofs.CallGood.{reason-else}
use Rattle.cc_world.proofs.CallRows.{row-left}
use Rattle.cc_world.proofs.UncachedCalls.{admitted-on, refused-on}
use Rattle.cc_world.proofs.rows.StreamRow.read_uncached.Goals as goal

pub read_admitted-requires : goal.read_admitted-requires
read_admitted-requires g c =
    let u = c.requires.standing.0 in
    let first = c.requires.standing.1 in
    let stand = c.requires.standing.2 in
    let row = c.args.self.now in
    let j = c.args.journal.now in
    let it = call.NcRead c.args.file c.args.page in (
      u,
      first,
      admitted-on g.D.Told.told g.D.Told.faults u first row j stand it c.requires.filed
          (reason-else u j.entries row.book.stream it (λ file page is. absurd (cc)) c.requires.filed
          ∙ (sym (c.in-Ok-None.ensures u (opening_of first.told) stand.limits.0 stand.row_is.book) ∙ c.in-Ok-None.field-0-is)),
    )

pub refuse-requires : goal.refuse-requires
refuse-requires g c =
    let u = c.requires.standing.0 in
    let first = c.requires.standing.1 in
    let stand = c.requires.standing.2 in
    let row = c.args.self.now in
    let j = c.args.journal.now in
    let it = call.NcRead c.args.file c.args.page in
    record {
      refused = (
        u,
        refused-on g.D.Told.told g.D.Told.faults u first row j stand c.args.pass it c.in-Ok-Some.error c.requires.filed (sym c.requires.filed)
            (reason-else u j.entries row.book.stream it (λ file page is. absurd (cc)) c.requires.filed
            ∙ (sym (c.in-Ok-Some.ensures u (opening_of first.told) stand.limits.0 stand.row_is.book) ∙ c.in-Ok-Some.field-0-is)),
      );
    }

pub returns-in-Ok-None : goal.returns-in-Ok-None
returns-in-Ok-None g c u first stand =
    let row = c.args.self.now in
    let j = c.args.journal.now in
    let it = call.NcRead c.args.file c.args.page in
    c.read_admitted.ensures u first
    (admitted-on g.D.Told.told g.D.Told.faults u first row j stand it c.requires.filed
    (reason-else u j.entries row.book.stream it (λ file page is. absurd (cc)) c.requires.filed
    ∙ (sym (c.in-Ok-None.ensures u (opening_of first.told) stand.limits.0 stand.row_is.book) ∙ c.in-Ok-None.field-0-is)))

pub returns-in-Ok-Some : goal.returns-in-Ok-Some
returns-in-Ok-Some g c u first stand =
    let row = c.args.self.now in
    let j = c.args.journal.now in
    let it = call.NcRead c.args.file c.args.page in
    row-left g.D.Told.told g.D.Told.faults u first 0 row j stand c.args.pass it c.refuse.result c.refuse.new.book c.refuse.new.journal (λ none. refl)
    (c.refuse.ensures u
    (refused-on g.D.Told.told g.D.Told.faults u first row j stand c.args.pass it c.in-Ok-Some.error c.requires.filed (sym c.requires.filed)
    (reason-else u j.entries row.book.stream it (λ file page is. absurd (cc)) c.requires.filed
    ∙ (sym (c.in-Ok-Some.ensures u (opening_of first.told) stand.limits.0 stand.row_is.book) ∙ c.in-Ok-Some.field-0-is))))
