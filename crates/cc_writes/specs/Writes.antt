-- What the writing of a page asks and leaves.
use Rattle.std.specs.Prelude.{◌≡◌, ℕ, ◌⊎◌, Bool, true, false, Result, Ok, Err, List, [], ◌∷◌, ◌++◌}
use Rattle.std.specs.declared.option.Option.{Option}
use Rattle.std.specs.declared.option.Option.TheVariants.{Some}
use Rattle.cc_entry.specs.Place.{Page}
use Rattle.cc_entry.specs.declared.error.CcError.{CcError}
use Rattle.cc_entry.specs.declared.error.CcError.TheVariants as error
use Rattle.cc_entry.specs.declared.entry.End.{End}
use Rattle.cc_entry.specs.declared.entry.End.TheVariants as how
use Rattle.cc_entry.specs.declared.entry.Entry.{Entry}
use Rattle.cc_entry.specs.declared.entry.Entry.TheVariants as entry
use Rattle.cc_traits.specs.Disk.{Disk}
use Rattle.cc_book.specs.Book.{BookState}
use Rattle.cc_effects.specs.Asked.{Work}
use Rattle.cc_effects.specs.Moments.{own, Others}
use Rattle.cc_effects.specs.Stops.{found_no_memory}
use Rattle.cc_model.specs.Faults.{WriteFailed, LogFailed}
use Rattle.cc_model.specs.History.{history}
use Rattle.cc_model.specs.Settings.{log_of}
use Rattle.cc_model.specs.Stamps.{is_unstamped}
use Rattle.cc_model.specs.Touches.{is_dirty}
use Rattle.cc_model.specs.Turns.{Device, Book, is_quiet}
use Rattle.cc_turns.specs.Transfers.{transferred}
use Rattle.cc_turns.specs.Disk.{DiskStands, opening_of}
use Rattle.cc_turns.specs.Standing.{Standing}
use Rattle.cc_turns.specs.Takes.{Grows}
use Rattle.cc_writes.specs.Hands.{HasBook, IsAtRest}
use Rattle.cc_writes.specs.Ways.{IsAtWork, IsStoppedBy, WorkHasFailed}
use Rattle.cc_writes.specs.declared.writes.PageTransfer.{PageTransfer}
use Rattle.cc_writes.specs.declared.writes.PageTransfer.TheVariants as write

-- A pass has the disk and the book of a stream in its hands, and no transfer of the stream is under way: both stand for
-- what it has seen.
pub record HasBoth {D : Type 0} (told : D → Option Disk) (faults : D → ℕ) (w : Standing) (s : ℕ) (b : BookState)
    (device : D) : Type 0 where
  pub book : HasBook w s b
  pub rest : IsAtRest w s
  pub disk : DiskStands told faults (w.disks s) w.seen s device
  pub opening : w.setup.opening s ≡ opening_of (w.disks s).told

-- A page is dirty, and no pin owes it a stamp.
pub record IsToWrite (page : Page) (past : List Entry) : Type 0 where
  pub dirty : is_dirty (history past page.stream) page.page ≡ true
  pub stamped : is_unstamped (history past page.stream) page.page ≡ false

-- the transfer found no memory
pub record WorkWantedMemory (me : ℕ) (work : Work) (old new : List Entry) : Type 0 where
  pub stop : Entry
  pub stopped : IsStoppedBy me work stop old new
  pub want : found_no_memory stop ≡ true

-- What the writing of a page left of the work that was under way, by cases over its answer: the page was written, or
-- the disk or the log failed; there was no room for its entries; memory was wanting, before the transfer or in it.
abbrev pub WorkWriteLeft : ℕ → Work → Page → Result PageTransfer CcError → List Entry → List Entry → Type 0
WorkWriteLeft me work page (Ok write.Written) old new = IsAtWork me work old new
WorkWriteLeft me work page (Ok write.NotWritten) old new = WorkHasFailed me work (WriteFailed page.page) old new
WorkWriteLeft me work page (Ok (write.NotLogged handle)) old new = WorkHasFailed me work (LogFailed handle) old new
WorkWriteLeft me work page (Err (error.JournalFull entries)) old new = IsAtWork me work old new
WorkWriteLeft me work page (Err error.NoMemory) old new = IsAtWork me work old new ⊎ WorkWantedMemory me work old new
WorkWriteLeft me work page (Err other) old new = ⊥

-- So far the pass placed nothing, or that a log was flushed; and nobody changed a stream whose book and disk it holds.
pub record IsBefore (w : Standing) (past : List Entry) : Type 0 where
  pub since : List Entry
  pub grew : past ≡ since ++ w.seen
  pub only : (own w.number since ≡ [])
      ⊎ ((handle : ℕ) × (to : ℕ) × (own w.number since ≡ entry.Flushed w.number handle to ∷ []))
  pub same : (s : ℕ) → w.held.book ≡ Some s → w.held.device ≡ Some s → history past s ≡ history w.seen s

-- The pass transferred a page: its begin, then what others placed meanwhile, then its end, which says how. Nobody else
-- used the stream's disk meanwhile. Where the book was kept, nobody else changed the stream either.
pub record HasTransferred (w : Standing) (page : Page) (how : End) (keeps : Bool) (seen : List Entry) : Type 0 where
  pub before : List Entry
  pub is_before : IsBefore w before
  pub later : List Entry
  pub quiet : is_quiet (Device page.stream) later ≡ true
  pub others : Others w.number later
  pub kept : keeps ≡ true → is_quiet (Book page.stream) later ≡ true
  pub placed : seen ≡ transferred w.number page.stream page.page how later before

-- The log of the page's stream failed in its hands.
pub record HasNotLogged (w : Standing) (page : Page) (handle : ℕ) (seen : List Entry) : Type 0 where
  pub front : List Entry
  pub grows : Grows w front
  pub log : log_of (history front page.stream) ≡ Some handle
  pub placed : seen ≡ entry.LogFailed w.number handle ∷ front

-- What is answered stands in the journal, by cases over the answer.
abbrev pub WriteShown : Standing → Page → Bool → Result PageTransfer CcError → List Entry → Type 0
WriteShown w page keeps (Ok write.Written) seen = HasTransferred w page how.Good keeps seen
WriteShown w page keeps (Ok write.NotWritten) seen = HasTransferred w page how.Failed keeps seen
WriteShown w page keeps (Ok (write.NotLogged handle)) seen = HasNotLogged w page handle seen
WriteShown w page keeps (Err (error.JournalFull entries)) seen = IsBefore w seen
WriteShown w page keeps (Err error.NoMemory) seen = IsBefore w seen ⊎ HasTransferred w page how.NoMemory keeps seen
WriteShown w page keeps (Err other) seen = ⊥
