-- A page is read: what the read is known to have found, and what is in hand after it where the book was given.
use Rattle.std.specs.Prelude.{◌≡◌, ℕ, Result, Ok, Err, List, ◌∷◌, ◌++◌, refl}
use Rattle.std.specs.declared.option.Option.{Option}
use Rattle.std.specs.declared.option.Option.TheVariants.{Some}
use Rattle.std.proofs.Common.{sym, ap, ◌∙◌, subst}
use Rattle.cc_entry.specs.declared.entry.Entry.{Entry}
use Rattle.cc_traits.specs.Disk.{Disk}
use Rattle.cc_traits.specs.Stop.{OnFailed}
use Rattle.cc_traits.specs.declared.stop.Stop.{Stop}
use Rattle.cc_traits.specs.declared.stop.Stop.TheVariants as stop
use Rattle.cc_book.specs.Book.{BookState, BookStands}
use Rattle.cc_content.specs.Filling.{IsReadFrom}
use Rattle.cc_model.specs.Allowed.{IsAllowed}
use Rattle.cc_model.specs.Good.{IsGood, IsGoodSoFar}
use Rattle.cc_model.specs.History.{history}
use Rattle.cc_model.specs.Setup.{Setup}
use Rattle.cc_turns.specs.Transfers.{CanRead, fill_failed}
use Rattle.cc_turns.specs.Disk.{DiskStands, opening_of}
use Rattle.cc_turns.specs.Standing.{Standing, DiskAtFirst, TurnsHeld, nothing}
use Rattle.cc_turns.specs.Takes.{Takes, with_book, without_book}
use Rattle.cc_turns.proofs.DiskGrows.{disk_grows}
use Rattle.cc_turns.proofs.Taking.{disk_kept, transfer_kept}
use Rattle.cc_writes.specs.Hands.{HasBook, IsAtRest}
use Rattle.cc_writes.specs.Visits.{WasReadFor}
use Rattle.cc_writes.specs.Writes.{HasBoth}
use Rattle.cc_writes.specs.Rounds.{MayTellFailure}

so_far : (u : Setup) (past : List Entry) → IsGood u past → IsGoodSoFar u past
unfolding IsAllowed
so_far u past good = record { legal = good.legal; allowed = good.allowed.0; covered = good.covered }

pub on_failed_weaker : {T P Q : Type 0} (r : Result T Stop) → (P → Q) → OnFailed r P → OnFailed r Q
on_failed_weaker (Ok done) so holds = holds
on_failed_weaker (Err stop.Failed) so holds = so holds
on_failed_weaker (Err stop.NoMemory) so holds = holds

pub where_failed : {T P : Type 0} (r : Result T Stop) (x : Stop) → r ≡ Err x → x ≡ stop.Failed → OnFailed r P → P
where_failed {T = T} {P = P} r x is failed holds =
    subst (λ (y : Stop). OnFailed {T = T} (Err y) P) failed (subst (λ (o : Result T Stop). OnFailed o P) is holds)

-- what was read is what the page has to be read from, as the pass knows it now
pub found_for : {D : Type 0} (told : D → Option Disk) (faults : D → ℕ) (v : Standing) (s page : ℕ) (disk : D) (raw : List ℕ) → DiskStands told faults (v.disks s) v.seen s disk → IsGood v.setup v.seen → v.setup.opening s ≡ opening_of (v.disks s).told → ((u : Setup) (first : DiskAtFirst) (past : List Entry) (t : ℕ) → CanRead told faults u first past t page disk → IsReadFrom (opening_of first.told) (history past t) page raw) → WasReadFor v s page (Some raw)
found_for told faults v s page disk raw stands good opening found absent =
    subst (λ (o : Option (ℕ → List ℕ)). IsReadFrom o (history v.seen s) page raw) (sym opening)
    (found v.setup (v.disks s) v.seen s (record { stands = stands; good = so_far v.setup v.seen good; absent = absent }))

-- the failure of a read may be told
pub may_tell : {D : Type 0} (told : D → Option Disk) (faults : D → ℕ) (v : Standing) (s page : ℕ) (disk now : D) → DiskStands told faults (v.disks s) v.seen s disk → ((first : DiskAtFirst) (past : List Entry) (t pass : ℕ) → DiskStands told faults first past t disk → DiskStands told faults first (fill_failed pass t page ∷ past) t now) → MayTellFailure told faults v s page now
may_tell told faults v s page disk now stands failed later quiet =
    failed (v.disks s) (later ++ v.seen) s v.number (disk_grows told faults (v.disks s) later v.seen s disk quiet stands)

-- The book was given, and is taken again.
module _ {D : Type 0} (told : D → Option Disk) (faults : D → ℕ) (w v : Standing) (s : ℕ) (b : BookState) (disk : D)
    (both : HasBoth told faults w s b disk) (took : Takes (with_book s) (without_book w) v) where
  pub disk_given : (now : D) → DiskStands told faults (w.disks s) w.seen s now → DiskStands told faults (v.disks s) v.seen s now
  disk_given now stands = disk_kept told faults (with_book s) (without_book w) v s now took refl both.rest.device stands

  held_same : v.held ≡ w.held
  held_same = ap (λ x. x.held) took.same ∙ subst (λ (h : TurnsHeld). record h { book = Some s } ≡ h) (sym both.book.held) refl

  pub opening_same : v.setup.opening s ≡ opening_of (v.disks s).told
  opening_same = ap (λ x. x.setup.opening s) took.same ∙ (both.opening ∙ ap (λ x. opening_of (x.disks s).told) (sym took.same))

  book_taken : (c : BookState) → c.stream ≡ s → BookStands (v.setup.opening s) v.seen c → HasBook v s c
  book_taken c is stands = record {
    held = subst (λ (h : TurnsHeld). h ≡ record nothing { device = h.device; book = Some s }) (sym held_same) both.book.held;
    stream = is;
    stands = stands;
    good = took.good;
  }

  rest_taken : IsAtRest v s
  rest_taken = record {
    device = ap (λ (h : TurnsHeld). h.device) held_same ∙ both.rest.device;
    no_transfer = transfer_kept (with_book s) (without_book w) v s took both.rest.device ∙ both.rest.no_transfer;
  }

  pub both_taken : (c : BookState) (now : D) → c.stream ≡ s → BookStands (v.setup.opening s) v.seen c → DiskStands told faults (w.disks s) w.seen s now → HasBoth told faults v s c now
  both_taken c now is stands disk_stands = record {
    book = book_taken c is stands;
    rest = rest_taken;
    disk = disk_given now disk_stands;
    opening = opening_same;
  }
