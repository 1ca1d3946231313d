-- The page whose bytes are kept is the one whose transfer is open, so it may end; for any other page none is open.
use Rattle.std.specs.Prelude.{◌≡◌, Some, refl}
use Rattle.std.proofs.Common.{ap, sym, ◌∙◌, subst}
use Rattle.cc_entry.specs.declared.entry.Entry.TheVariants as entry
use Rattle.cc_world.specs.Rows.{RowLeft}
use Rattle.cc_effects.specs.declared.events.StepReply.{StepReply}
use Rattle.cc_effects.specs.declared.events.Event.TheVariants as event
use Rattle.cc_world.proofs.Standing.{may-place}
use Rattle.cc_world.proofs.Transferring.{ended-so, has-place, may-stand, not-it}
use Rattle.cc_world.proofs.rows.StreamRow.end.Goals as goal

pub end-requires-clause-reserved : goal.end-requires-clause-reserved
end-requires-clause-reserved g c =
    let u = c.requires.standing.0 in
    let first = c.requires.standing.1 in
    let stand = c.requires.standing.2 in
    let same : c.in-Some.kept.page.page ≡ c.args.page.page = sym c.page.ensures.same ∙ (c.if-page.true ∙ c.page-in-Some.ensures.same) in
    has-place g.D.Told.told g.D.Told.faults u first c.args.self.now c.args.journal.now stand c.in-Some.kept (sym c.take.ensures.value ∙ c.in-Some.is) c.args.page c.requires.stream same c.transfer-how.result

pub end-requires-clause-may : goal.end-requires-clause-may
end-requires-clause-may g c =
    let u = c.requires.standing.0 in
    let first = c.requires.standing.1 in
    let stand = c.requires.standing.2 in
    let same : c.in-Some.kept.page.page ≡ c.args.page.page = sym c.page.ensures.same ∙ (c.if-page.true ∙ c.page-in-Some.ensures.same) in
    may-place g.D.Told.told g.D.Told.faults u first 0 c.args.self.now c.args.journal.now stand c.args.journal.now.entries (entry.WriteEnd c.in-Some.kept.pass c.args.page c.transfer-how.result) refl refl
    (may-stand g.D.Told.told g.D.Told.faults u first c.args.self.now c.args.journal.now stand c.in-Some.kept (sym c.take.ensures.value ∙ c.in-Some.is) c.args.page c.requires.stream same c.transfer-how.result)

pub returns-then-page : goal.returns-then-page
returns-then-page g c u first stand =
    let row = c.args.self.now in
    let j = c.args.journal.now in
    let same : c.in-Some.kept.page.page ≡ c.args.page.page = sym c.page.ensures.same ∙ (c.if-page.true ∙ c.page-in-Some.ensures.same) in
    subst (λ (reply : StepReply g.row.Q.Denot). RowLeft g.D.Told.told g.D.Told.faults u first (event.WriteEnd c.args.page) reply row (record { disk = c.transfer-how.new.disk; book = c.end.new.self; kept = c.take.new.self }) j c.end.new.journal)
    (sym c.reply_to.ensures)
    (ended-so g.D.Told.told g.D.Told.faults u first row j stand c.in-Some.kept (sym c.take.ensures.value ∙ c.in-Some.is) c.args.page c.requires.stream same
    c.transfer-how.result c.page-then-page.result c.bytes.result.now c.transfer-how.new.disk c.end.new.self c.take.new.self c.end.new.journal c.page-then-page.ensures.same c.bytes.ensures
    c.take.ensures.after c.transfer-how.ensures.under_way c.transfer-how.ensures.counted c.end.ensures.placed c.end.ensures.stands c.end.ensures.stream)

pub returns-else-page : goal.returns-else-page
returns-else-page g c u first stand =
    let row = c.args.self.now in
    let is : row.kept ≡ Some c.in-Some.kept = sym c.take.ensures.value ∙ c.in-Some.is in (
      not-it g.D.Told.told g.D.Told.faults u first row c.args.journal.now stand c.in-Some.kept is c.args.page c.requires.stream
          (λ same. c.if-page.false (c.page.ensures.same ∙ (same ∙ sym c.page-in-Some.ensures.same))),
      ap (λ o. record row { kept = o }) (sym is),
      refl,
    )
