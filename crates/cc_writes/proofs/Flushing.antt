-- The flush of a page's log: what it leaves of the page, of its stream and of the work under way.
use Rattle.std.specs.Prelude.{◌≡◌, ℕ, ◌<◌, ◌≤◌, true, false, ◌||◌, List, Result, Ok, Err, max, refl}
use Rattle.std.specs.declared.option.Option.{Option}
use Rattle.std.specs.declared.option.Option.TheVariants.{Some, None}
use Rattle.std.proofs.Common.{ap, sym, ◌∙◌, subst, arith, inl, inr, ⊎_elim}
use Rattle.std.proofs.lemmas.Bool.{eq-eqb}
use Rattle.cc_entry.specs.Place.{Page}
use Rattle.cc_entry.specs.declared.entry.Entry.{Entry}
use Rattle.cc_entry.specs.declared.entry.Entry.TheVariants as entry
use Rattle.cc_entry.specs.declared.error.CcError.{CcError}
use Rattle.cc_traits.specs.Disk.{Disk}
use Rattle.cc_book.specs.Book.{BookState}
use Rattle.cc_effects.specs.Asked.{Work, may_write, stores}
use Rattle.cc_laws.proofs.HistorySteps.{history-log_flushed, history-log_failed}
use Rattle.cc_laws.proofs.LogSteps.{flushed_to-flushed}
use Rattle.cc_model.specs.Covered.{FlushedUpTo, IsLogged}
use Rattle.cc_model.specs.Faults.{LogFailed}
use Rattle.cc_model.specs.Good.{IsGood}
use Rattle.cc_model.specs.History.{history}
use Rattle.cc_model.specs.Logs.{flushed_to}
use Rattle.cc_model.specs.Settings.{log_of}
use Rattle.cc_model.specs.Stamps.{newest_of, is_unstamped}
use Rattle.cc_model.specs.Turns.{Device}
use Rattle.cc_turns.proofs.Keeping.{DiskStands-kept, leaves_disk}
use Rattle.cc_turns.specs.Disk.{DiskStands}
use Rattle.cc_turns.specs.Standing.{Standing, DiskAtFirst}
use Rattle.cc_turns.specs.Takes.{Grows}
use Rattle.cc_turns.proofs.DiskGrows.{disk_grows}
use Rattle.cc_writes.specs.Hands.{HasBook, WentWith}
use Rattle.cc_writes.specs.Visits.{HasPlaced}
use Rattle.cc_writes.specs.Ways.{IsAtWork, WorkHasFailed}
use Rattle.cc_writes.specs.Logs.{HoldsBoth, IsDue, HasPlacedDueEntry, FlushToLsnLeft, FlushLeft, ReachedBy, IsWant, newest_on}
use Rattle.cc_writes.specs.declared.log.LogFlush.{LogFlush}
use Rattle.cc_writes.specs.declared.log.LogFlush.TheVariants as flush
use Rattle.cc_writes.proofs.OneVisit.{went-number, went-holds}
use Rattle.cc_writes.proofs.Quiet.{is_held, history-both, book-kept}
use Rattle.cc_writes.proofs.Works.{asks-log-same, asks_log, work-grown, work-flushed, work-log_failed}
use Rattle.cc_writes.proofs.Logging.{left-turn}

-- a page whose log is flushed to its newest LSN
logged-by : (past : List Entry) (s p handle to : ℕ) → is_unstamped (history past s) p ≡ false → log_of (history past s) ≡ Some handle → newest_of (history past s) p ≡ Some to → to ≤ flushed_to past handle → IsLogged past s p
logged-by past s p handle to stamped log newest within = record {
  stamped = stamped;
  flushed = subst (λ (l : Option ℕ). FlushedUpTo past l (newest_of (history past s) p)) (sym log) (subst (λ (l : Option ℕ). FlushedUpTo past (Some handle) l) (sym newest) within);
}

-- one with no LSN to flush to, and one of a stream without a log
pub logged-unstamped : (past : List Entry) (s p : ℕ) → is_unstamped (history past s) p ≡ false → newest_of (history past s) p ≡ None → IsLogged past s p
logged-unstamped past s p stamped newest = record { stamped = stamped; flushed = subst (λ (l : Option ℕ). FlushedUpTo past (log_of (history past s)) l) (sym newest) (none (log_of (history past s))) }
  where
    none : (log : Option ℕ) → FlushedUpTo past log None
    none None = tt
    none (Some handle) = tt

pub logged-logless : (past : List Entry) (s p : ℕ) → is_unstamped (history past s) p ≡ false → log_of (history past s) ≡ None → IsLogged past s p
logged-logless past s p stamped log = record { stamped = stamped; flushed = subst (λ (l : Option ℕ). FlushedUpTo past l (newest_of (history past s) p)) (sym log) tt }

-- the history of the stream stays with an entry of a log
placed-flushed : (w : Standing) (s handle to : ℕ) (seen : List Entry) → HoldsBoth w s → HasPlaced w (entry.Flushed w.number handle to) seen → history seen s ≡ history w.seen s
placed-flushed w s handle to seen both placed = ap (λ past. history past s) placed.placed ∙ (history-log_flushed w.number handle to placed.front s ∙ history-both w s placed.front both placed.grows)

placed-failed : (w : Standing) (s handle : ℕ) (seen : List Entry) → HoldsBoth w s → HasPlaced w (entry.LogFailed w.number handle) seen → history seen s ≡ history w.seen s
placed-failed w s handle seen both placed = ap (λ past. history past s) placed.placed ∙ (history-log_failed w.number handle placed.front s ∙ history-both w s placed.front both placed.grows)

module _ (w : Standing) (page : Page) (both : HoldsBoth w page.stream) (stamped : is_unstamped (history w.seen page.stream) page.page ≡ false)
    (handle to : ℕ) (log : log_of (history w.seen page.stream) ≡ Some handle) (newest : newest_on page w.seen ≡ Some to) where
  due-there : (front : List Entry) → Grows w front → flushed_to front handle < to → IsDue page handle to front
  due-there front grows due =
      let same = history-both w page.stream front both grows in
      record { log = ap log_of same ∙ log; newest = ap (λ h. newest_of h page.page) same ∙ newest; due = due }

  logged-there : (seen : List Entry) → history seen page.stream ≡ history w.seen page.stream → to ≤ flushed_to seen handle → IsLogged seen page.stream page.page
  logged-there seen same within =
      logged-by seen page.stream page.page handle to (ap (λ h. is_unstamped h page.page) same ∙ stamped) (ap log_of same ∙ log) (ap (λ h. newest_of h page.page) same ∙ newest) within

  left-here : (result : Result LogFlush CcError) (seen : List Entry) → FlushToLsnLeft w handle to result seen → FlushLeft w page result seen
  left-here (Ok flush.Reached) seen left =
      ⊎_elim
      (λ found. (inl found.0, logged-there seen (history-both w page.stream seen both found.0) found.1))
      (λ flushed. (
        inr (handle, to, record { placed = flushed.placed; due = due-there flushed.placed.front flushed.placed.grows flushed.due }),
        logged-there seen (placed-flushed w page.stream handle to seen both flushed.placed)
            (subst (λ (past : List Entry). to ≤ flushed_to past handle) (sym flushed.placed.placed)
            (subst (λ (n : ℕ). to ≤ n) (sym (flushed_to-flushed w.number handle to flushed.placed.front handle (eq-eqb handle handle refl))) (most to (flushed_to flushed.placed.front handle)))),
      ))
      left
    where
      most : (a b : ℕ) → a ≤ max a b
      most a b = omega arith
  left-here (Ok (flush.Failed failed)) seen left =
      subst (λ (n : ℕ). (lsn : ℕ) × HasPlacedDueEntry w page n lsn (entry.LogFailed w.number n) seen) (sym left.0)
      (to, record { placed = left.1.placed; due = due-there left.1.placed.front left.1.placed.grows left.1.due })
  left-here (Err e) seen left = (left.0, subst IsWant (sym left.1) tt)

-- what the flush leaves, from where the newest LSN was looked for
pub flush-left : (n : ℕ) (w x : Standing) (page : Page) (handle to : ℕ) (result : Result LogFlush CcError) (seen : List Entry) → HoldsBoth w page.stream → is_unstamped (history w.seen page.stream) page.page ≡ false → log_of (history w.seen page.stream) ≡ Some handle → WentWith n w x → Grows w x.seen → newest_on page x.seen ≡ Some to → FlushToLsnLeft x handle to result seen → FlushLeft w page result seen
flush-left n w x page handle to result seen both stamped log went grows newest left =
    left-here w page both stamped handle to log (ap (λ h. newest_of h page.page) (sym (history-both w page.stream x.seen both grows)) ∙ newest) result seen
    (left-turn w x handle to result seen (went-number n w x went) (went-holds n w x went) grows left)

pub none-left : (w : Standing) (page : Page) (seen : List Entry) → HoldsBoth w page.stream → is_unstamped (history w.seen page.stream) page.page ≡ false → Grows w seen → newest_on page seen ≡ None → FlushLeft w page (Ok flush.Reached) seen
none-left w page seen both stamped grows newest =
    (inl grows, logged-unstamped seen page.stream page.page (ap (λ h. is_unstamped h page.page) (history-both w page.stream seen both grows) ∙ stamped) newest)

-- the history of the page's stream stays
pub flush-history : (w : Standing) (page : Page) (result : Result LogFlush CcError) (seen : List Entry) → HoldsBoth w page.stream → FlushLeft w page result seen → history seen page.stream ≡ history w.seen page.stream
flush-history w page (Ok flush.Reached) seen both left =
    ⊎_elim (λ grows. history-both w page.stream seen both grows) (λ flushed. placed-flushed w page.stream flushed.0 flushed.1 seen both flushed.2.placed) left.0
flush-history w page (Ok (flush.Failed handle)) seen both left = placed-failed w page.stream handle seen both left.1.placed
flush-history w page (Err e) seen both left = history-both w page.stream seen both left.0

-- so the pass has the book in its hands as before
pub flush-book : (n : ℕ) (w x : Standing) (page : Page) (b : BookState) (result : Result LogFlush CcError) → HasBook w page.stream b → HoldsBoth w page.stream → WentWith n w x → IsGood x.setup x.seen → FlushLeft w page result x.seen → HasBook x page.stream b
flush-book n w x page b result has both went good left =
    book-kept n w x page.stream b has went (flush-history w page result x.seen both left) good

-- and the disk stands
module _ {D : Type 0} (told : D → Option Disk) (faults : D → ℕ) (first : DiskAtFirst) (w : Standing) (s : ℕ) (disk : D)
    (device : w.held.device ≡ Some s) (stands : DiskStands told faults first w.seen s disk) where
  pub disk-grown : (seen : List Entry) → Grows w seen → DiskStands told faults first seen s disk
  disk-grown seen grows =
      subst (λ (past : List Entry). DiskStands told faults first past s disk) (sym grows.grew)
      (disk_grows told faults first grows.later w.seen s disk (grows.quiet (Device s) (is_held s w.held.device device)) stands)

  disk-placed : (e : Entry) (seen : List Entry) → leaves_disk s e ≡ true → HasPlaced w e seen → DiskStands told faults first seen s disk
  disk-placed e seen leaves placed =
      subst (λ (past : List Entry). DiskStands told faults first past s disk) (sym placed.placed)
      (DiskStands-kept told faults first e placed.front s disk leaves (disk-grown placed.front placed.grows))

  pub flush-disk : (page : Page) (result : Result LogFlush CcError) (seen : List Entry) → FlushLeft w page result seen → DiskStands told faults first seen s disk
  flush-disk page (Ok flush.Reached) seen left =
      ⊎_elim (λ grows. disk-grown seen grows) (λ flushed. disk-placed (entry.Flushed w.number flushed.0 flushed.1) seen refl flushed.2.placed) left.0
  flush-disk page (Ok (flush.Failed handle)) seen left = disk-placed (entry.LogFailed w.number handle) seen refl left.1.placed
  flush-disk page (Err e) seen left = disk-grown seen left.0

-- The work of the pass goes on, or was stopped.
module _ (w : Standing) (page : Page) (both : HoldsBoth w page.stream) (stamped : is_unstamped (history w.seen page.stream) page.page ≡ false)
    (work : Work) (begun : List Entry) (may : (may_write work page w.seen || stores work page w.seen) ≡ true) (is : IsAtWork w.number work begun w.seen) where
  pub work-grows : (seen : List Entry) → Grows w seen → IsAtWork w.number work begun seen
  work-grows seen grows = subst (λ (past : List Entry). IsAtWork w.number work begun past) (sym grows.grew) (work-grown w.number work begun w.seen grows.later grows.others is)

  asks-there : (front : List Entry) (handle to : ℕ) → Grows w front → IsDue page handle to front → (may_write work page front || stores work page front) ≡ true
  asks-there front handle to grows due = asks-log-same work page w.seen front (history-both w page.stream front both grows) may

  pub work-reached : (seen : List Entry) → ReachedBy w page seen → IsAtWork w.number work begun seen
  work-reached seen reached =
      ⊎_elim (λ grows. work-grows seen grows)
      (λ flushed.
      let handle = flushed.0 in
      let to = flushed.1 in
      let front = flushed.2.placed.front in
      let grows = flushed.2.placed.grows in
      subst (λ (past : List Entry). IsAtWork w.number work begun past) (sym flushed.2.placed.placed)
      (work-flushed w.number work handle to begun front
      (asks_log work page handle to front (asks-there front handle to grows flushed.2.due) (ap (λ h. is_unstamped h page.page) (history-both w page.stream front both grows) ∙ stamped) flushed.2.due)
      (work-grows front grows)))
      reached

  pub work-unlogged : (handle to : ℕ) (seen : List Entry) → HasPlacedDueEntry w page handle to (entry.LogFailed w.number handle) seen → WorkHasFailed w.number work (LogFailed handle) begun seen
  work-unlogged handle to seen failed =
      let front = failed.placed.front in
      let grows = failed.placed.grows in
      subst (λ (past : List Entry). WorkHasFailed w.number work (LogFailed handle) begun past) (sym failed.placed.placed)
      (work-log_failed w.number work handle begun front
      (record {
        to = to;
        asks = asks_log work page handle to front (asks-there front handle to grows failed.due) (ap (λ h. is_unstamped h page.page) (history-both w page.stream front both grows) ∙ stamped) failed.due;
        due = failed.due.due;
      })
      (work-grows front grows))
