-- What the writing of a page leaves of the work under way, over both its parts.
use Rattle.std.specs.Prelude.{◌≡◌, ℕ, Bool, true, List, Result, Ok, Err}
use Rattle.std.proofs.Common.{ap, sym, ◌∙◌, subst, inl, inr, ⊎_elim}
use Rattle.cc_entry.specs.Place.{Page}
use Rattle.cc_entry.specs.declared.entry.Entry.{Entry}
use Rattle.cc_entry.specs.declared.error.CcError.{CcError}
use Rattle.cc_entry.specs.declared.error.CcError.TheVariants as error
use Rattle.std.specs.declared.option.Option.{Option}
use Rattle.cc_traits.specs.Disk.{Disk}
use Rattle.cc_book.specs.Book.{BookState}
use Rattle.cc_effects.specs.Asked.{Work, may_write}
use Rattle.cc_model.specs.Faults.{WriteFailed, LogFailed}
use Rattle.cc_model.specs.History.{history}
use Rattle.cc_model.specs.Touches.{is_dirty}
use Rattle.cc_turns.specs.Disk.{DiskStands}
use Rattle.cc_turns.specs.Standing.{Standing, DiskAtFirst}
use Rattle.cc_turns.specs.Takes.{Grows}
use Rattle.cc_writes.specs.Hands.{HasBook, WentWith}
use Rattle.cc_writes.specs.Ways.{IsAtWork, WorkHasFailed}
use Rattle.cc_writes.specs.Writes.{HasBoth, IsToWrite, WorkWantedMemory, WorkWriteLeft}
use Rattle.cc_writes.specs.Logs.{HoldsBoth, FlushLeft, IsWant}
use Rattle.cc_writes.specs.Transfers.{PutLeft}
use Rattle.cc_writes.specs.declared.log.LogFlush.{LogFlush}
use Rattle.cc_writes.specs.declared.log.LogFlush.TheVariants as flush
use Rattle.cc_writes.specs.declared.writes.PageTransfer.{PageTransfer}
use Rattle.cc_writes.specs.declared.writes.PageTransfer.TheVariants as write
use Rattle.cc_writes.proofs.OneVisit.{went-number}
use Rattle.cc_writes.proofs.Quiet.{holds_both, history-both, rest-kept}
use Rattle.cc_writes.proofs.Works.{either, may_write-same, work-grown, work-written, work-not_written, work-wanted}
use Rattle.cc_writes.proofs.Flushing.{flush-history, flush-disk, work-grows, work-reached, work-unlogged}
use Rattle.cc_writes.proofs.Writing.{opening-kept, disks-kept}

-- where room or memory was wanting, the work is under way
want-left : (me : ℕ) (work : Work) (page : Page) (e : CcError) (begun seen : List Entry) → IsWant e → IsAtWork me work begun seen → WorkWriteLeft me work page (Err e) begun seen
want-left me work page (error.JournalFull entries) begun seen want is = is
want-left me work page error.NoMemory begun seen want is = inl is
want-left me work page other begun seen want is = absurd want

-- what the writing of a page leaves whose log is flushed
module _ (x : Standing) (page : Page) (both : HoldsBoth x page.stream) (work : Work) (begun : List Entry) (may : may_write work page x.seen ≡ true)
    (is : IsAtWork x.number work begun x.seen) where
  at-front : (front : List Entry) → Grows x front → IsAtWork x.number work begun front
  at-front front grows = subst (λ (past : List Entry). IsAtWork x.number work begun past) (sym grows.grew) (work-grown x.number work begun x.seen grows.later grows.others is)

  may-front : (front : List Entry) → Grows x front → may_write work page front ≡ true
  may-front front grows = may_write-same work page x.seen front (history-both x page.stream front both grows) may

  put-work : (keeps : Bool) (result : Result PageTransfer CcError) (seen : List Entry) → PutLeft x page keeps result seen → WorkWriteLeft x.number work page result begun seen
  put-work keeps (Ok write.Written) seen left =
      subst (λ (past : List Entry). IsAtWork x.number work begun past) (sym left.placed)
      (work-written x.number work page begun left.before left.later (at-front left.before left.grows) (may-front left.before left.grows) left.quiet left.others)
  put-work keeps (Ok write.NotWritten) seen left =
      subst (λ (past : List Entry). WorkHasFailed x.number work (WriteFailed page.page) begun past) (sym left.placed)
      (work-not_written x.number work page begun left.before left.later (at-front left.before left.grows) (may-front left.before left.grows) left.quiet left.others)
  put-work keeps (Ok (write.NotLogged handle)) seen left = absurd left
  put-work keeps (Err (error.JournalFull entries)) seen left = at-front seen left
  put-work keeps (Err error.NoMemory) seen left =
      ⊎_elim
      (λ grows. inl (at-front seen grows))
      (λ ended. inr (subst (λ (past : List Entry). WorkWantedMemory x.number work begun past) (sym ended.placed)
      (work-wanted x.number work page begun ended.before ended.later (at-front ended.before ended.grows) (may-front ended.before ended.grows) ended.quiet ended.others)))
      left
  put-work keeps (Err other) seen left = absurd left

-- after the flush of the log
module _ {D : Type 0} (told : D → Option Disk) (faults : D → ℕ) (n : ℕ) (w x : Standing) (page : Page) (b : BookState) (disk : D)
    (both : HasBoth told faults w page.stream b disk) (went : WentWith n w x) (has : HasBook x page.stream b)
    (flushed : Result LogFlush CcError) (left : FlushLeft w page flushed x.seen) where
  held : HoldsBoth w page.stream
  held = holds_both w page.stream b both.book both.rest.device

  same : history x.seen page.stream ≡ history w.seen page.stream
  same = flush-history w page flushed x.seen held left

  pub both-flushed : HasBoth told faults x page.stream b disk
  both-flushed = record {
    book = has;
    rest = rest-kept n w x page.stream both.rest went same;
    disk = subst (λ (first : DiskAtFirst). DiskStands told faults first x.seen page.stream disk) (sym (disks-kept n w x page.stream went))
        (flush-disk told faults (w.disks page.stream) w page.stream disk both.rest.device both.disk page flushed x.seen left);
    opening = opening-kept n w x page.stream went both.opening;
  }

  pub dirty-flushed : IsToWrite page w.seen → is_dirty (history x.seen page.stream) page.page ≡ true
  dirty-flushed write_it = ap (λ h. is_dirty h page.page) same ∙ write_it.dirty

  module _ (write_it : IsToWrite page w.seen) (work : Work) (begun : List Entry) (may : may_write work page w.seen ≡ true) (is : IsAtWork w.number work begun w.seen) where
    pub written-left : (keeps : Bool) (result : Result PageTransfer CcError) (seen : List Entry) → flushed ≡ Ok flush.Reached → PutLeft x page keeps result seen → WorkWriteLeft w.number work page result begun seen
    written-left keeps result seen reached put =
        let there = subst (λ (r : Result LogFlush CcError). FlushLeft w page r x.seen) reached left in
        subst (λ (m : ℕ). WorkWriteLeft m work page result begun seen) (went-number n w x went)
        (put-work x page (holds_both x page.stream b has both-flushed.rest.device) work begun (may_write-same work page w.seen x.seen same may)
        (subst (λ (m : ℕ). IsAtWork m work begun x.seen) (sym (went-number n w x went)) (work-reached w page held write_it.stamped work begun (either _ _ may) is x.seen there.0)) keeps result seen put)

    pub unlogged-left : (handle : ℕ) → flushed ≡ Ok (flush.Failed handle) → WorkHasFailed w.number work (LogFailed handle) begun x.seen
    unlogged-left handle failed =
        let there = subst (λ (r : Result LogFlush CcError). FlushLeft w page r x.seen) failed left in
        work-unlogged w page held write_it.stamped work begun (either _ _ may) is handle there.0 x.seen there.1

    pub unflushed-left : (e : CcError) → flushed ≡ Err e → WorkWriteLeft w.number work page (Err e) begun x.seen
    unflushed-left e err =
        let there = subst (λ (r : Result LogFlush CcError). FlushLeft w page r x.seen) err left in
        want-left w.number work page e begun x.seen there.1 (work-grows w page held write_it.stamped work begun (either _ _ may) is x.seen there.0)
