-- A disk goes on standing where the failure of a read was told.
use Rattle.std.specs.Prelude.{◌≡◌, ℕ, List, ◌∷◌, ◌++◌}
use Rattle.std.specs.declared.option.Option.{Option}
use Rattle.std.proofs.Common.{sym, ap, ◌∙◌, subst, inl, inr}
use Rattle.cc_entry.specs.declared.entry.Entry.{Entry}
use Rattle.cc_traits.specs.Disk.{Disk}
use Rattle.cc_book.specs.Book.{BookState}
use Rattle.cc_model.specs.Turns.{Device}
use Rattle.cc_turns.specs.Transfers.{fill_failed}
use Rattle.cc_turns.specs.Disk.{DiskStands}
use Rattle.cc_turns.specs.Standing.{Standing}
use Rattle.cc_writes.specs.Hands.{HasBook, IsAtRest, WentWith}
use Rattle.cc_writes.proofs.VisitDisks.{disk_still}
use Rattle.cc_writes.proofs.Resting.{is-held}
use Rattle.cc_writes.specs.Writes.{HasBoth}
use Rattle.cc_writes.proofs.Disks.{with_disk, both_still, book_of, rest_of}
use Rattle.cc_writes.specs.Rounds.{MayTellFailure, WasTold}

module _ {D : Type 0} (told : D → Option Disk) (faults : D → ℕ) (flight : ℕ) (w v : Standing) (s : ℕ) (b c : BookState) (disk : D)
    (both : HasBoth told faults w s b disk) (book : HasBook v s c) (rest : IsAtRest v s) (went : WentWith flight w v) where
  -- what is in hand goes on standing where a failure of the disk was told
  pub both_told : (page : ℕ) → MayTellFailure told faults w s page disk → WasTold w v s page → HasBoth told faults v s c disk
  both_told page may (inr same) = both_still told faults flight w v s b c disk both book rest went same
  both_told page may (inl t) =
      let stands = may t.1.grows.later (t.1.grows.quiet (Device s) (is-held s w.held.device both.rest.device)) in
      let placed : t.0 ≡ fill_failed w.number s page ∷ (t.1.grows.later ++ w.seen) =
      t.1.placed ∙ ap (λ (past : List Entry). fill_failed w.number s page ∷ past) t.1.grows.grew in
      with_disk told faults flight w v s b c disk both book rest went (disk_still told faults (w.disks s) t.0 v.seen s disk t.2
      (subst (λ (past : List Entry). DiskStands told faults (w.disks s) past s disk) (sym placed) stands))

-- The same where the book's own stream is named, which is that of the disk.
module _ {D : Type 0} (told : D → Option Disk) (faults : D → ℕ) (flight : ℕ) (w v : Standing) (s n : ℕ) (b c : BookState) (disk : D)
    (is : n ≡ s) (both : HasBoth told faults w s b disk) (book : HasBook v n c) (rest : IsAtRest v n) (went : WentWith flight w v) where
  pub told_of : (page : ℕ) → MayTellFailure told faults w s page disk → WasTold w v n page → HasBoth told faults v s c disk
  told_of page may was =
      both_told told faults flight w v s b c disk both
      (book_of told faults flight w v s n b c disk is both book rest went) (rest_of told faults flight w v s n b c disk is both book rest went) went page may
      (subst (λ (t : ℕ). WasTold w v t page) is was)
