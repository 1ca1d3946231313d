-- A page that may go goes out at the place that was kept, or at one that is reserved for it; one that may not, or finds no
-- place, stays.
use Rattle.std.specs.Prelude.{◌≡◌, ℕ, ◌+◌, ◌-◌, ◌<◌, ◌≤◌, Bool, true, false}
use Rattle.std.proofs.Common.{ap, sym, subst, refl, arith, ◌∙◌, true≢false}
use Rattle.cc_book.specs.Book.{MayPlaceOnBook, Gains, GoesOn}
use Rattle.cc_entry.specs.declared.entry.Entry.TheVariants as entry
use Rattle.cc_journal.specs.Journal.{JournalState}
use Rattle.cc_ranges.specs.Stores.{places_kept}
use Rattle.cc_ranges.proofs.WriteFinishing.{may-go, gone, stayed}
use Rattle.cc_ranges.proofs.ends.tidy.Goals as goal

-- what the places come to where one is there, and where none is
there-more : (n kept : ℕ) (there : Bool) → there ≡ true → (n + places_kept there) - kept ≡ (n + 1) - kept
there-more n kept there is = rw is refl

there-some : (n kept : ℕ) → kept < n → 0 < (n + 1) - kept
there-some n kept below = omega (arith, below)

none-more : (n kept : ℕ) (there : Bool) → there ≡ false → (n + places_kept there) - kept ≡ n - kept
none-more n kept there is = rw is (same n kept)
  where
    same : (n kept : ℕ) → (n + 0) - kept ≡ n - kept
    same n kept = omega arith

pub take_out-requires-clause-may : goal.take_out-requires-clause-may
take_out-requires-clause-may g c =
    let u = c.requires.may.0 in
    let may = c.requires.may.1 in
    subst (λ (x : JournalState g.row.Q.Denot). MayPlaceOnBook x.entries (entry.PageOut c.args.pass c.args.page) c.args.book.now) (sym c.has_place.ensures.reserved)
    (may-go u c.args.pass c.args.file c.args.page c.args.book.now c.args.journal.now c.requires.stream may (c.may_go.ensures.goes c.if-may_go.true u may.stand c.requires.stream))

pub take_out-requires-clause-reserved : goal.take_out-requires-clause-reserved
take_out-requires-clause-reserved g c =
    subst (λ (n : ℕ). 0 < n) (sym (ap (λ x. x.reserved) c.has_place.ensures.reserved ∙ there-more c.args.journal.now.reserved (places_kept c.args.kept) c.has_place.result c.if-has_place.true))
    (there-some c.args.journal.now.reserved (places_kept c.args.kept) c.requires.spare)

pub returns-then-has_place-clause-tidied : goal.returns-then-has_place-clause-tidied
returns-then-has_place-clause-tidied g c u may =
    let j = c.args.journal.now in
    gone u c.args.pass c.args.file c.args.page c.args.book.now j c.requires.stream may (c.may_go.ensures.goes c.if-may_go.true u may.stand c.requires.stream) c.args.kept c.take_out.new.self c.has_place.new.journal c.take_out.new.journal
    c.requires.spare
    (c.has_place.ensures.reserved ∙ ap (λ (n : ℕ). record j { reserved = n }) (there-more j.reserved (places_kept c.args.kept) c.has_place.result c.if-has_place.true))
    c.take_out.ensures.placed
    (subst (λ (x : JournalState g.row.Q.Denot). GoesOn x.entries c.take_out.new.journal.entries c.args.book.now c.take_out.new.self) c.has_place.ensures.reserved c.take_out.ensures.stands)
    c.take_out.ensures.stream

pub returns-else-has_place-clause-tidied : goal.returns-else-has_place-clause-tidied
returns-else-has_place-clause-tidied g c u may =
    let j = c.args.journal.now in
    stayed u c.args.pass c.args.file c.args.page c.args.book.now j c.requires.stream may c.args.kept c.has_place.new.journal c.requires.spare
    (c.has_place.ensures.reserved ∙ ap (λ (n : ℕ). record j { reserved = n }) (none-more j.reserved (places_kept c.args.kept) c.has_place.result c.if-has_place.false))
    (λ kept idle. true≢false (sym (c.has_place.ensures.sure kept) ∙ c.if-has_place.false))

pub returns-else-may_go-clause-tidied : goal.returns-else-may_go-clause-tidied
returns-else-may_go-clause-tidied g c u may =
    stayed u c.args.pass c.args.file c.args.page c.args.book.now c.args.journal.now c.requires.stream may c.args.kept c.give_back.new.journal c.requires.spare c.give_back.ensures
    (λ kept idle. c.may_go.ensures.stays c.if-may_go.false u may.stand c.requires.stream idle)
