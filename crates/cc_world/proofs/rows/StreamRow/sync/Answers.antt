-- With a transfer open the sync may not happen; else its entry has the reserved place, and says how the disk answered.
use Rattle.std.specs.Prelude.{◌≡◌, ℕ, ◌+◌, ◌-◌, None, [], ◌∷◌, refl}
use Rattle.std.proofs.Common.{ap, sym, ◌∙◌, subst, arith, inr}
use Rattle.cc_entry.specs.declared.entry.Entry.{Entry}
use Rattle.cc_entry.specs.declared.entry.Entry.TheVariants as entry
use Rattle.cc_journal.specs.Journal.{room_of}
use Rattle.cc_laws.proofs.TurnSteps.{is_quiet-none}
use Rattle.cc_model.specs.History.{history}
use Rattle.cc_model.specs.Images.{open_of}
use Rattle.cc_model.specs.Turns.{Device}
use Rattle.cc_turns.specs.Disk.{DiskStands, opening_of}
use Rattle.cc_world.specs.Rows.{RowLeft}
use Rattle.cc_effects.specs.declared.events.StepReply.{StepReply}
use Rattle.cc_effects.specs.declared.events.Event.TheVariants as event
use Rattle.cc_world.proofs.Filling.{book-on, sync-left, sync-replied}
use Rattle.cc_world.proofs.Open.{open-kept}
use Rattle.cc_world.proofs.Standing.{is-busy, is-resting, may-push, went-one, rests-as, gained, gained-so, roomy, unreserved}
use Rattle.cc_world.proofs.rows.StreamRow.sync.Goals as goal

pub returns-then-is_some : goal.returns-then-is_some
returns-then-is_some g c u first stand = (
  λ may. is-busy g.D.Told.told g.D.Told.faults u first 0 c.args.self.now c.args.journal.now stand (sym c.is_some.ensures ∙ c.if-is_some.true)
      (ap (λ (s : ℕ). open_of (history c.args.journal.now.entries s)) (sym c.requires.stream) ∙ may),
  refl,
  refl,
)

pub push-requires-clause-reserved : goal.push-requires-clause-reserved
push-requires-clause-reserved g c = rw (ap (λ j. j.reserved) c.in-Ok.ensures.reserved) (omega arith)

pub push-requires-clause-may : goal.push-requires-clause-may
push-requires-clause-may g c =
    let u = c.requires.standing.0 in
    let first = c.requires.standing.1 in
    let stand = c.requires.standing.2 in
    let rest = is-resting g.D.Told.told g.D.Told.faults u first 0 c.args.self.now c.args.journal.now stand (sym c.is_some.ensures ∙ c.if-is_some.false) in
    may-push g.D.Told.told g.D.Told.faults u first 0 c.args.self.now c.args.journal.now stand c.reserve.new.self.entries (entry.Sync c.args.pass c.args.stream c.sync-how.result) (ap (λ j. j.entries) c.in-Ok.ensures.reserved) refl
    (ap (λ (s : ℕ). open_of (history c.args.journal.now.entries s)) c.requires.stream ∙ rest.no_transfer)

pub returns-in-Ok : goal.returns-in-Ok
returns-in-Ok g c u first stand =
    let j = c.args.journal.now in
    let row = c.args.self.now in
    let rest = is-resting g.D.Told.told g.D.Told.faults u first 0 row j stand (sym c.is_some.ensures ∙ c.if-is_some.false) in
    let none : open_of (history j.entries c.args.stream) ≡ None = ap (λ (s : ℕ). open_of (history j.entries s)) c.requires.stream ∙ rest.no_transfer in
    let e : Entry = entry.Sync c.args.pass c.args.stream c.sync-how.result in
    let k = c.push.new.self in
    let placed = gained-so (j.reserved + 1) e j c.reserve.new.self k c.in-Ok.ensures.reserved c.push.ensures.placed in
    let stands : DiskStands g.D.Told.told g.D.Told.faults first (e ∷ j.entries) row.book.stream c.sync-how.new.disk =
    subst (λ (n : ℕ). DiskStands g.D.Told.told g.D.Told.faults first (entry.Sync c.args.pass n c.sync-how.result ∷ j.entries) row.book.stream c.sync-how.new.disk) (sym c.requires.stream)
    (c.sync-how.ensures.ended first j.entries [] row.book.stream c.args.pass rest.stands rest.no_transfer (is_quiet-none (Device row.book.stream))) in
    let now = record row { disk = c.sync-how.new.disk } in
    let went = went-one g.D.Told.told g.D.Told.faults u first 0 row j stand _ e now k refl refl none placed
    (back _ _ _ (ap (λ x. x.reserved) (gained (j.reserved + 1) e j c.reserve.new.self k c.in-Ok.ensures.reserved c.push.ensures.placed)) stand.reserved)
    refl (book-on (opening_of first.told) c.args.pass c.args.stream c.sync-how.result j.entries row.book stand.row_is.book)
    (rests-as g.D.Told.told g.D.Told.faults first (e ∷ j.entries) row.book.stream c.sync-how.new.disk row.kept (sym c.is_some.ensures ∙ c.if-is_some.false) stands
    (open-kept e j.entries row.book.stream refl ∙ rest.no_transfer))
    c.sync-how.ensures.counted in
    subst (λ (reply : StepReply g.row.Q.Denot). RowLeft g.D.Told.told g.D.Told.faults u first (event.Sync c.args.pass c.args.stream) reply row now j k) (sym c.reply_to.ensures)
    (sync-left g.D.Told.told g.D.Told.faults u first c.args.pass c.args.stream c.sync-how.result row now j k none (roomy (room_of j) 1 _ _ c.in-Ok.ensures.full.1)
    (sync-replied g.D.Told.told g.D.Told.faults u first c.args.pass c.args.stream c.sync-how.result row now j k went))
  where
    back : (k n owed : ℕ) → k ≡ (n + 1) - 1 → n ≡ owed + 0 → k ≡ owed
    back k n owed is was = omega arith

pub returns-in-Err : goal.returns-in-Err
returns-in-Err g c u first stand =
    let j = c.args.journal.now in
    let rest = is-resting g.D.Told.told g.D.Told.faults u first 0 c.args.self.now j stand (sym c.is_some.ensures ∙ c.if-is_some.false) in
    unreserved g.D.Told.told g.D.Told.faults u first (event.Sync c.args.pass c.args.stream) c.args.self.now j stand 1 c.in-Err.error c.reserve.new.self
    (ap (λ (s : ℕ). open_of (history j.entries s)) c.requires.stream ∙ rest.no_transfer)
    refl (inr refl) c.in-Err.ensures.full c.in-Err.ensures.causes c.in-Err.ensures.err
