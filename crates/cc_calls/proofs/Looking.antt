-- One visit that looks at a page and places nothing: what stays of what is in hand, and that others went on.
use Rattle.std.specs.Prelude.{◌≡◌, ℕ, Bool, true, false, not, ◌||◌, List, [], ◌∷◌, is_some, refl}
use Rattle.std.specs.declared.option.Option.{Option}
use Rattle.std.specs.declared.option.Option.TheVariants.{Some, None}
use Rattle.std.proofs.Common.{ap, sym, ◌∙◌, subst}
use Rattle.cc_entry.specs.Place.{Page}
use Rattle.cc_entry.specs.declared.entry.Entry.{Entry}
use Rattle.cc_dirty.specs.Unwritten.{lower}
use Rattle.cc_effects.specs.PageWrites.{is_passed_over}
use Rattle.cc_journal.specs.Journal.{JournalState}
use Rattle.cc_journal.specs.Rows.{oldest_among, oldest_unwritten, journal_place}
use Rattle.cc_laws.proofs.DirtyFacts.{dirty-mapped}
use Rattle.cc_model.specs.History.{Effect, history}
use Rattle.cc_model.specs.Numbers.{is_empty}
use Rattle.cc_model.specs.Sizes.{Touch}
use Rattle.cc_model.specs.Stamps.{is_unstamped}
use Rattle.cc_model.specs.Touches.{is_dirty, is_mapped, unwritten}
use Rattle.cc_turns.specs.Journal.{JournalStands}
use Rattle.cc_turns.specs.Standing.{Standing}
use Rattle.cc_turns.specs.Takes.{Takes, with_journal}
use Rattle.cc_writes.specs.Writes.{IsToWrite}
use Rattle.cc_writes.proofs.OneVisit.{Visited, stepping-none, visited, visiting}

-- a page has an oldest unwritten touch where it is dirty
some-lower : (a : ℕ) (b : Option ℕ) → is_some (lower (Some a) b) ≡ true
some-lower a None = refl
some-lower a (Some b) = refl

some-oldest : (place : ℕ → ℕ) (touches : List Touch) → is_some (oldest_among place touches) ≡ not (is_empty touches)
some-oldest place [] = refl
some-oldest place (touch ∷ touches) = some-lower (place touch.place) (oldest_among place touches)

pub oldest-dirty : (past : List Entry) (page : Page) → is_some (oldest_unwritten past page) ≡ is_dirty (history past page.stream) page.page
oldest-dirty past page = some-oldest (journal_place past page.stream) (unwritten (history past page.stream) page.page)

-- a page that is dirty is passed over where it is Unstamped, for its stream has a map
pub over-dirty : (past : List Entry) (page : Page) → is_dirty (history past page.stream) page.page ≡ true → is_passed_over page past ≡ is_unstamped (history past page.stream) page.page
over-dirty past page dirty = rw (dirty, dirty-mapped (history past page.stream) page.page dirty) refl

-- one that is clean is passed over
pub over-clean : (past : List Entry) (page : Page) → is_dirty (history past page.stream) page.page ≡ false → is_passed_over page past ≡ true
over-clean past page clean = rw clean refl

-- a page that is not passed over is to be written
pub to_write-not_over : (past : List Entry) (page : Page) → is_passed_over page past ≡ false → IsToWrite page past
to_write-not_over past page over = go (is_dirty (history past page.stream) page.page) refl (is_mapped (history past page.stream)) (is_unstamped (history past page.stream) page.page) refl over
  where
    go : (d : Bool) → is_dirty (history past page.stream) page.page ≡ d → (m u : Bool) → is_unstamped (history past page.stream) page.page ≡ u → (not d || (not m || u)) ≡ false → IsToWrite page past
    go true dirty true false stamped over = record { dirty = dirty; stamped = stamped }
    go true dirty true true stamped over = absurd (cc)
    go true dirty false u stamped over = absurd (cc)
    go false dirty m u stamped over = absurd (cc)

-- the journal is given as it was
pub looked : {Q : Type 0} (posted : Q → Bool) (w v : Standing) (j : JournalState Q) → w.held.journal ≡ false → Takes with_journal w v → JournalStands posted v j → Visited posted w v w.in_flight j
looked posted w v j away taken stands =
    let vis = visiting posted w v j taken stands in
    visited posted w v w.in_flight [] j j away vis (stepping-none posted w v w.in_flight j.reserved j j vis refl vis.reserved_is)

-- a page by its two numbers
pub page-is : (s p : ℕ) (page : Page) → s ≡ page.stream → p ≡ page.page → record { stream = s; page = p } ≡ page
page-is s p page stream number = rw (stream, number) refl
