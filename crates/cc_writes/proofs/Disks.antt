-- A disk goes on standing where nothing was done that it stands for.
use Rattle.std.specs.Prelude.{◌≡◌, ℕ}
use Rattle.std.specs.declared.option.Option.{Option}
use Rattle.std.proofs.Common.{sym, ap, ◌∙◌, subst}
use Rattle.cc_traits.specs.Disk.{Disk}
use Rattle.cc_book.specs.Book.{BookState}
use Rattle.cc_turns.specs.Disk.{DiskStands, opening_of}
use Rattle.cc_turns.specs.Standing.{Standing, DiskAtFirst}
use Rattle.cc_writes.specs.Hands.{HasBook, IsAtRest, SameDisk, WentWith}
use Rattle.cc_writes.proofs.VisitDisks.{disk_still}
use Rattle.cc_writes.specs.Writes.{HasBoth}

module _ {D : Type 0} (told : D → Option Disk) (faults : D → ℕ) (flight : ℕ) (w v : Standing) (s : ℕ) (b c : BookState) (disk : D)
    (both : HasBoth told faults w s b disk) (book : HasBook v s c) (rest : IsAtRest v s) (went : WentWith flight w v) where
  disks_same : v.disks s ≡ w.disks s
  disks_same = ap (λ x. x.disks s) went.same

  pub with_disk : DiskStands told faults (w.disks s) v.seen s disk → HasBoth told faults v s c disk
  with_disk stands = record {
    book = book;
    rest = rest;
    disk = subst (λ (first : DiskAtFirst). DiskStands told faults first v.seen s disk) (sym disks_same) stands;
    opening = ap (λ x. x.setup.opening s) went.same ∙ (both.opening ∙ ap (λ (first : DiskAtFirst). opening_of first.told) (sym disks_same));
  }

  -- what is in hand goes on standing, with the book of another moment
  pub both_still : SameDisk w.seen v.seen s → HasBoth told faults v s c disk
  both_still same = with_disk (disk_still told faults (w.disks s) w.seen v.seen s disk same both.disk)

-- The same where the book's own stream is named, which is that of the disk.
module _ {D : Type 0} (told : D → Option Disk) (faults : D → ℕ) (flight : ℕ) (w v : Standing) (s n : ℕ) (b c : BookState) (disk : D)
    (is : n ≡ s) (both : HasBoth told faults w s b disk) (book : HasBook v n c) (rest : IsAtRest v n) (went : WentWith flight w v) where
  pub book_of : HasBook v s c
  book_of = subst (λ (t : ℕ). HasBook v t c) is book

  pub rest_of : IsAtRest v s
  rest_of = subst (λ (t : ℕ). IsAtRest v t) is rest

  pub still_of : SameDisk w.seen v.seen n → HasBoth told faults v s c disk
  still_of same = both_still told faults flight w v s b c disk both book_of rest_of went (subst (λ (t : ℕ). SameDisk w.seen v.seen t) is same)
