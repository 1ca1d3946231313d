-- The entry of the page is that of the past, by its valid data length, and has the reserved place; without memory the
-- place is released.
use Rattle.std.specs.Prelude.{◌≡◌, ℕ, ◌+◌, ◌-◌, ◌<◌, ◌≤◌, false, is_some, None, List, [], ◌∷◌, refl}
use Rattle.std.proofs.Common.{ap, sym, ◌∙◌, subst, arith}
use Rattle.cc_entry.specs.declared.entry.Entry.{Entry}
use Rattle.cc_book.specs.Book.{BookStands, Gains, MayPlaceOnBook}
use Rattle.cc_journal.specs.Journal.{JournalState}
use Rattle.cc_model.specs.History.{history}
use Rattle.cc_model.specs.Images.{open_of}
use Rattle.cc_turns.specs.Disk.{opening_of}
use Rattle.cc_effects.specs.Events.{page_in_entry}
use Rattle.cc_world.proofs.Filling.{same-entry}
use Rattle.cc_world.proofs.Standing.{is-idle, is-resting, may-place, went-one, went-none, rests-on, gained-so}
use Rattle.cc_world.proofs.rows.StreamRow.land_read.Goals as goal

some : (n owed : ℕ) → n ≡ owed + 1 → 0 < n
some n owed is = omega arith

least : (n m owed : ℕ) → m ≡ n → n ≡ owed + 1 → 1 ≤ m
least n m owed same is = omega arith

back : (k n owed : ℕ) → k ≡ n - 1 → n ≡ owed + 1 → k ≡ owed
back k n owed is was = omega arith

no-more : (a : ℕ) → a ≡ a + 0
no-more a = omega arith

pub bring_in-requires-clause-reserved : goal.bring_in-requires-clause-reserved
bring_in-requires-clause-reserved g c =
    let stand = c.requires.standing.2 in
    some _ _ stand.reserved

pub bring_in-requires-clause-may : goal.bring_in-requires-clause-may
bring_in-requires-clause-may g c =
    let u = c.requires.standing.0 in
    let first = c.requires.standing.1 in
    let stand = c.requires.standing.2 in
    let j = c.args.journal.now in
    subst (λ (e : Entry). MayPlaceOnBook j.entries e c.args.self.now.book)
    (sym (same-entry (opening_of first.told) j.entries c.args.self.now.book c.args.pass c.args.page c.requires.stream stand.row_is.book))
    (may-place g.D.Told.told g.D.Told.faults u first 1 c.args.self.now j stand j.entries (page_in_entry j.entries c.args.pass c.args.page) refl refl c.requires.standing.3)

pub release-requires : goal.release-requires
release-requires g c =
    let stand = c.requires.standing.2 in
    least _ _ _ (ap (λ x. x.reserved) c.in-Err.ensures.err.1) stand.reserved

pub returns-in-Ok-clause-ended : goal.returns-in-Ok-clause-ended
returns-in-Ok-clause-ended g c u first stand found =
    let j = c.args.journal.now in
    let row = c.args.self.now in
    let e : Entry = page_in_entry j.entries c.args.pass c.args.page in
    let k = c.bring_in.new.journal in
    let may = c.requires.standing.3 in
    let none : open_of (history j.entries row.book.stream) ≡ None = ap (λ (s : ℕ). open_of (history j.entries s)) (sym c.requires.stream) ∙ may.no_transfer in
    let idle : is_some row.kept ≡ false = is-idle g.D.Told.told g.D.Told.faults u first 1 row j stand none in
    let gains : Gains e j k = subst (λ (e : Entry). Gains e j k) (same-entry (opening_of first.told) j.entries row.book c.args.pass c.args.page c.requires.stream stand.row_is.book) c.in-Ok.ensures.placed in
    let grown : k.entries ≡ e ∷ j.entries = ap (λ x. x.entries) gains in
    let went = went-one g.D.Told.told g.D.Told.faults u first 1 row j stand 0 e (record row { book = c.bring_in.new.self }) k refl refl may (gained-so j.reserved e j j k refl gains)
    (back _ _ _ (ap (λ x. x.reserved) gains) stand.reserved) c.in-Ok.ensures.stream
    (subst (λ (past : List Entry). BookStands (opening_of first.told) past c.bring_in.new.self) grown (c.in-Ok.ensures.stands (opening_of first.told) found stand.row_is.book))
    (rests-on g.D.Told.told g.D.Told.faults first e j.entries row.book.stream row.disk row.kept idle refl (is-resting g.D.Told.told g.D.Told.faults u first 1 row j stand idle))
    (no-more _) in
    (e ∷ [], refl, went)

pub returns-in-Err-clause-ended : goal.returns-in-Err-clause-ended
returns-in-Err-clause-ended g c u first stand found =
    let j = c.args.journal.now in
    let row = c.args.self.now in
    let k = c.release.new.self in
    let same : k ≡ record j { reserved = j.reserved - 1 } =
    c.release.ensures ∙ ap (λ (x : JournalState g.row.Q.Denot). record x { reserved = x.reserved - 1 }) c.in-Err.ensures.err.1 in (
      [],
      refl,
      went-none g.D.Told.told g.D.Told.faults u first 1 row j stand 0 (record row { book = c.bring_in.new.self }) k
          (same ∙ ap (λ (n : ℕ). record j { reserved = n }) (sym (ap (λ x. x.reserved) same)))
          (back _ _ _ (ap (λ x. x.reserved) same) stand.reserved)
          (ap (λ b. b.stream) c.in-Err.ensures.err.0)
          (subst (λ b. BookStands (opening_of first.told) j.entries b) (sym c.in-Err.ensures.err.0) stand.row_is.book)
          stand.row_is.disk (no-more _),
    )
