-- A page that starts at the size or past it ends without a read, any other with what was read; a disk that failed
-- leaves the entry of that, and one that found no memory none.
use Rattle.std.specs.Prelude.{◌≡◌, ℕ, ◌+◌, ◌*◌, ◌<◌, ◌≤◌, [], ◌∷◌, refl}
use Rattle.std.specs.Int.{div_ceil}
use Rattle.std.proofs.Common.{ap, sym, ◌∙◌, subst, arith}
use Rattle.cc_entry.specs.Place.{Page}
use Rattle.cc_entry.specs.declared.call.Call.TheVariants as call
use Rattle.cc_entry.specs.declared.entry.Entry.TheVariants as entry
use Rattle.cc_model.specs.History.{history}
use Rattle.cc_model.specs.Touches.{size_of}
use Rattle.cc_turns.specs.Disk.{opening_of}
use Rattle.cc_effects.specs.declared.events.Event.TheVariants as event
use Rattle.cc_world.proofs.PageBytes.{lies-below, lies-past}
use Rattle.cc_world.proofs.Standing.{ended-since, may-push}
use Rattle.cc_world.proofs.Stores.{numbered}
use Rattle.cc_world.proofs.UncachedCalls.{read-failed, read-here, read-wanting, ready-read, was-read}
use Rattle.cc_world.proofs.rows.StreamRow.read_ready.Goals as goal

no-more : (a b : ℕ) → a ≡ b + 0 → a ≡ b
no-more a b is = omega (arith, is)

pub end_read-requires : goal.end_read-requires
end_read-requires g c =
    let first = c.requires.1 in
    let ready = c.requires.2 in
    let j = c.args.journal.now in (
      c.requires.0,
      first,
      ready,
      λ absent below. absurd (lies-past c.size.result (size_of (history j.entries c.args.self.now.book.stream)) c.args.page (c.size.ensures (opening_of first.told) j.entries ready.made.stands.row_is.book)
          (subst (λ (n : ℕ). n ≤ c.args.page) c.div_ceil.ensures c.if-div_ceil-page.true) below),
    )

pub returns-then-div_ceil-page : goal.returns-then-div_ceil-page
returns-then-div_ceil-page g c u first ready =
    let j = c.args.journal.now in
    c.end_read.ensures u first ready
    (λ absent below. absurd (lies-past c.size.result (size_of (history j.entries c.args.self.now.book.stream)) c.args.page (c.size.ensures (opening_of first.told) j.entries ready.made.stands.row_is.book)
    (subst (λ (n : ℕ). n ≤ c.args.page) c.div_ceil.ensures c.if-div_ceil-page.true) below))

pub end_read-requires-in-Ok : goal.end_read-requires-in-Ok
end_read-requires-in-Ok g c =
    let u = c.requires.0 in
    let first = c.requires.1 in
    let ready = c.requires.2 in
    let row = c.args.self.now in
    let j = c.args.journal.now in (
      u,
      first,
      ready-read g.D.Told.told g.D.Told.faults u first c.args.pass c.args.file c.args.page row j ready c.read.new.disk c.in-Ok.ensures.kept,
      was-read g.D.Told.told g.D.Told.faults u first c.args.pass c.args.file c.args.page row j ready c.read.new.disk c.in-Ok.ensures.kept c.read.new.raw c.in-Ok.ensures.found,
    )

pub page_id-page-requires : goal.page_id-page-requires
page_id-page-requires g c =
    let u = c.requires.0 in
    let first = c.requires.1 in
    let ready = c.requires.2 in
    let j = c.args.journal.now in
    let s = c.args.self.now.book.stream in
    numbered u j.entries s c.args.page ready.made.stands.good
    (lies-below c.size.result (size_of (history j.entries s)) c.args.page (c.size.ensures (opening_of first.told) j.entries ready.made.stands.row_is.book)
    (subst (λ (n : ℕ). c.args.page < n) c.div_ceil.ensures c.if-div_ceil-page.false))

pub push-requires-clause-may : goal.push-requires-clause-may
push-requires-clause-may g c =
    may-push g.D.Told.told g.D.Told.faults c.requires.0 c.requires.1 1 c.args.self.now c.args.journal.now c.requires.2.made.stands c.args.journal.now.entries
    (entry.FillFailed c.args.pass c.page_id-page.result) refl refl tt

pub returns-in-Ok : goal.returns-in-Ok
returns-in-Ok g c u first ready =
    let row = c.args.self.now in
    let j = c.args.journal.now in
    ended-since g.D.Told.told g.D.Told.faults u first (event.Do c.args.pass (call.NcRead c.args.file c.args.page)) c.end_read-in-Ok.result row (record row { disk = c.read.new.disk }) c.end_read-in-Ok.new.self j c.end_read-in-Ok.new.journal refl
    (no-more _ _ c.in-Ok.ensures.counted)
    (c.end_read-in-Ok.ensures u first
    (ready-read g.D.Told.told g.D.Told.faults u first c.args.pass c.args.file c.args.page row j ready c.read.new.disk c.in-Ok.ensures.kept)
    (was-read g.D.Told.told g.D.Told.faults u first c.args.pass c.args.file c.args.page row j ready c.read.new.disk c.in-Ok.ensures.kept c.read.new.raw c.in-Ok.ensures.found))

pub returns-in-Err-Failed : goal.returns-in-Err-Failed
returns-in-Err-Failed g c u first ready =
    let row = c.args.self.now in
    let j = c.args.journal.now in
    let below : 4096 * c.args.page < size_of (history j.entries row.book.stream) =
    lies-below c.size.result (size_of (history j.entries row.book.stream)) c.args.page (c.size.ensures (opening_of first.told) j.entries ready.made.stands.row_is.book)
    (subst (λ (n : ℕ). c.args.page < n) c.div_ceil.ensures c.if-div_ceil-page.false) in (
      (
        ready.made.admitted,
        subst (λ (n : ℕ). 4096 * c.args.page < size_of (history j.entries n)) (sym (read-here g.D.Told.told g.D.Told.faults u first 1 c.args.pass c.args.file c.args.page row j ready.made)) below,
      ),
      read-failed g.D.Told.told g.D.Told.faults u first c.args.pass c.args.file c.args.page c.args.self.now c.args.journal.now ready c.read.new.disk c.in-Err-Failed.ensures.kept c.page_id-page.result c.push.new.self
          (c.page_id-page.ensures ∙ ap (λ (n : ℕ). let p : Page = record { stream = n; page = c.args.page } in p) c.stream.ensures)
          (rw c.in-Err-Failed.field-0-is at c.in-Err-Failed.ensures.failed) (rw c.in-Err-Failed.field-0-is at c.in-Err-Failed.ensures.counted) c.push.ensures.placed,
    )

pub returns-in-Err-NoMemory : goal.returns-in-Err-NoMemory
returns-in-Err-NoMemory g c u first ready = (
  [],
  refl,
  read-wanting g.D.Told.told g.D.Told.faults u first c.args.pass c.args.file c.args.page c.args.self.now c.args.journal.now ready c.read.new.disk c.in-Err-NoMemory.ensures.kept c.release.new.self
      c.release.ensures (rw c.in-Err-NoMemory.field-0-is at c.in-Err-NoMemory.ensures.counted),
)
