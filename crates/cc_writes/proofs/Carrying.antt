-- A page is carried to the disk, with the book given meanwhile or kept.
use Rattle.std.specs.Prelude.{◌≡◌, ℕ, Bool, true, List, [], Option, Some, refl}
use Rattle.std.proofs.Common.{ap, sym, ◌∙◌, subst}
use Rattle.cc_entry.specs.Place.{Page}
use Rattle.cc_entry.specs.declared.entry.End.{End}
use Rattle.cc_entry.specs.declared.entry.Entry.{Entry}
use Rattle.cc_traits.specs.Disk.{Disk}
use Rattle.cc_book.specs.Book.{BookState, BookStands}
use Rattle.cc_laws.proofs.TurnSteps.{is_quiet-none}
use Rattle.cc_model.specs.Turns.{Device, Book, is_quiet}
use Rattle.cc_turns.specs.Transfers.{CanTransfer, transferred}
use Rattle.cc_turns.specs.Disk.{DiskStands}
use Rattle.cc_turns.specs.Standing.{Standing, TurnsHeld, DiskAtFirst, nothing}
use Rattle.cc_turns.specs.Takes.{Takes, with_book, without_book}
use Rattle.cc_writes.specs.Hands.{HasBook}
use Rattle.cc_writes.specs.Transfers.{GrowsBeside, IsCarried}

-- the pass went on at once
pub beside-none : (w : Standing) (s : ℕ) (keeps : Bool) → GrowsBeside w s keeps w.seen
beside-none w s keeps = record { later = []; grew = refl; quiet = is_quiet-none (Device s); others = tt; kept = λ is. is_quiet-none (Book s) }

-- the transfer of a page by its number, with the bytes of a snapshot
pub carried-so : {D : Type 0} (told : D → Option Disk) (faults : D → ℕ) (page : Page) (n : ℕ) (bytes content : List ℕ) (how : End) (old new : D) → n ≡ page.page → content ≡ bytes → ((first : DiskAtFirst) (before later : List Entry) (s pass : ℕ) → CanTransfer told faults first before s n content old → is_quiet (Device s) later ≡ true → DiskStands told faults first (transferred pass s n how later before) s new) → IsCarried told faults page bytes how old new
carried-so told faults page n bytes content how old new is same ended first before later pass can quiet =
    subst (λ (m : ℕ). DiskStands told faults first (transferred pass page.stream m how later before) page.stream new) is
    (ended first before later page.stream pass
    (subst (λ (m : ℕ). CanTransfer told faults first before page.stream m content old) (sym is)
    (subst (λ (l : List ℕ). CanTransfer told faults first before page.stream page.page l old) (sym same) can)) quiet)

-- the book was given, and taken again
pub taken-again : (w y x : Standing) (s n : ℕ) (b c : BookState) → HasBook w s b → y ≡ without_book w → n ≡ s → Takes (with_book n) y x → c.stream ≡ n → BookStands (x.setup.opening n) x.seen c → HasBook x s c
taken-again w y x s n b c has gave is took stream stands = record {
  held = held ∙ ap (λ (d : Option ℕ). record nothing { device = d; book = Some s }) (sym (ap (λ h. h.device) held));
  stream = stream ∙ is;
  stands = subst (λ (m : ℕ). BookStands (x.setup.opening m) x.seen c) is stands;
  good = took.good;
}
  where
    held : x.held ≡ record nothing { device = w.held.device; book = Some s }
    held = ap (λ z. z.held) took.same
        ∙ (ap (λ (z : Standing). record z.held { book = Some n }) gave
        ∙ (ap (λ (h : TurnsHeld). record h { book = Some n }) has.held
        ∙ ap (λ (m : ℕ). record nothing { device = w.held.device; book = Some m }) is))
