-- The begin has one reserved place, and the past then owes the other to the end; the bytes that are kept are under way.
-- Without memory both places are released.
use Rattle.std.specs.Prelude.{◌≡◌, ℕ, suc, ◌+◌, ◌-◌, ◌<◌, ◌≤◌, false, is_some, None, Some, List, [], ◌∷◌, refl}
use Rattle.std.proofs.Common.{ap, sym, ◌∙◌, subst, arith}
use Rattle.cc_entry.specs.declared.entry.Entry.{Entry}
use Rattle.cc_entry.specs.declared.entry.Entry.TheVariants as entry
use Rattle.cc_book.specs.Book.{BookStands}
use Rattle.cc_journal.specs.Journal.{JournalState}
use Rattle.cc_model.specs.History.{history}
use Rattle.cc_model.specs.Images.{open_of}
use Rattle.cc_step.proofs.Below.{resident-numbered}
use Rattle.cc_turns.proofs.Rooms.{reserved-begun}
use Rattle.cc_turns.specs.Disk.{opening_of}
use Rattle.cc_world.proofs.Placing.{so-far}
use Rattle.cc_world.proofs.Standing.{is-idle, is-resting, may-place, went-by, went-none, gained-so}
use Rattle.cc_world.proofs.Transferring.{begun-carries}
use Rattle.cc_world.proofs.rows.StreamRow.keep.Goals as goal

some : (n owed : ℕ) → n ≡ owed + 2 → 0 < n
some n owed is = omega arith

least : (n m owed : ℕ) → m ≡ n → n ≡ owed + 2 → 2 ≤ m
least n m owed same is = omega arith

more : (k n owed all : ℕ) → k ≡ n - 1 → n ≡ owed + 2 → all ≡ suc owed → k ≡ all
more k n owed all is was one = omega arith

back : (k n owed : ℕ) → k ≡ n - 2 → n ≡ owed + 2 → k ≡ owed
back k n owed is was = omega arith

no-more : (a : ℕ) → a ≡ a + 0
no-more a = omega arith

pub begin-requires-clause-reserved : goal.begin-requires-clause-reserved
begin-requires-clause-reserved g c =
    let stand = c.requires.standing.2 in
    some _ _ stand.reserved

pub begin-requires-clause-may : goal.begin-requires-clause-may
begin-requires-clause-may g c =
    let u = c.requires.standing.0 in
    let first = c.requires.standing.1 in
    let stand = c.requires.standing.2 in
    let j = c.args.journal.now in
    may-place g.D.Told.told g.D.Told.faults u first 2 c.args.self.now j stand j.entries (entry.WriteBegin c.args.pass c.args.page) refl refl c.requires.standing.3

pub release-requires : goal.release-requires
release-requires g c =
    let stand = c.requires.standing.2 in
    least _ _ _ (ap (λ x. x.reserved) c.in-Err.ensures.err.0) stand.reserved

pub returns-in-Ok : goal.returns-in-Ok
returns-in-Ok g c u first stand =
    let j = c.args.journal.now in
    let row = c.args.self.now in
    let past = j.entries in
    let e : Entry = entry.WriteBegin c.args.pass c.args.page in
    let k = c.begin.new.journal in
    let may = c.requires.standing.3 in
    let none : open_of (history past row.book.stream) ≡ None = ap (λ (s : ℕ). open_of (history past s)) (sym c.requires.stream) ∙ may.no_transfer in
    let idle : is_some row.kept ≡ false = is-idle g.D.Told.told g.D.Told.faults u first 2 row j stand none in
    let grown : k.entries ≡ e ∷ past = ap (λ x. x.entries) c.in-Ok.ensures.placed in
    let known : c.args.page.stream < 16 = subst (λ (s : ℕ). s < 16) (sym c.requires.stream) stand.known in
    let went = went-by g.D.Told.told g.D.Told.faults u first 2 row j stand 0 e (record row { book = c.begin.new.self; kept = Some (record { pass = c.args.pass; page = c.args.page; bytes = c.in-Ok.bytes }) }) k refl may
    (gained-so j.reserved e j j k refl c.in-Ok.ensures.placed)
    (more _ _ _ _ (ap (λ x. x.reserved) c.in-Ok.ensures.placed) stand.reserved (reserved-begun c.args.pass c.args.page past known may.no_transfer))
    c.in-Ok.ensures.stream
    (subst (λ (past : List Entry). BookStands (opening_of first.told) past c.begin.new.self) grown (c.in-Ok.ensures.stands (opening_of first.told) stand.row_is.book))
    (begun-carries g.D.Told.told g.D.Told.faults first past row.book.stream row.disk c.args.pass c.args.page c.in-Ok.bytes c.requires.stream
    (resident-numbered u past c.args.page.stream c.args.page.page (so-far u past stand.good) may.resident)
    (is-resting g.D.Told.told g.D.Told.faults u first 2 row j stand idle) c.in-Ok.ensures.snapshot.whole
    (c.in-Ok.ensures.snapshot.bytes_are (opening_of first.told) past stand.row_is.book))
    (no-more _) in
    (e ∷ [], refl, went)

pub returns-in-Err : goal.returns-in-Err
returns-in-Err g c u first stand =
    let j = c.args.journal.now in
    let row = c.args.self.now in
    let k = c.release.new.self in
    let same : k ≡ record j { reserved = j.reserved - 2 } =
    c.release.ensures ∙ ap (λ (x : JournalState g.row.Q.Denot). record x { reserved = x.reserved - 2 }) c.in-Err.ensures.err.0 in (
      [],
      refl,
      went-none g.D.Told.told g.D.Told.faults u first 2 row j stand 0 (record row { book = c.begin.new.self }) k
          (same ∙ ap (λ (n : ℕ). record j { reserved = n }) (sym (ap (λ x. x.reserved) same)))
          (back _ _ _ (ap (λ x. x.reserved) same) stand.reserved)
          c.in-Err.ensures.err.1.stream
          (c.in-Err.ensures.err.1.stands j.entries (opening_of first.told) stand.row_is.book)
          stand.row_is.disk (no-more _),
    )
