-- What the begin of a page's transfer leaves, and its end.
use Rattle.std.specs.Prelude.{◌≡◌, ℕ, ◌+◌, ◌*◌, ◌^◌, ◌<◌, ◌⊎◌, Bool, true, Result, Ok, Err, List, ◌∷◌, ◌++◌, length, slice_index}
use Rattle.std.specs.declared.option.Option.{Option}
use Rattle.std.specs.declared.option.Option.TheVariants.{Some}
use Rattle.cc_entry.specs.Place.{Page}
use Rattle.cc_entry.specs.declared.error.CcError.{CcError}
use Rattle.cc_entry.specs.declared.error.CcError.TheVariants as error
use Rattle.cc_entry.specs.declared.entry.End.{End}
use Rattle.cc_entry.specs.declared.entry.End.TheVariants as how
use Rattle.cc_entry.specs.declared.entry.Entry.{Entry}
use Rattle.cc_entry.specs.declared.entry.Entry.TheVariants as entry
use Rattle.cc_traits.specs.Disk.{Disk}
use Rattle.cc_book.specs.Book.{BookState, IsSnapshot, GoesOn, Stays}
use Rattle.cc_content.specs.Contents.{IsByteOfContents}
use Rattle.cc_effects.specs.Moments.{Others}
use Rattle.cc_journal.specs.Journal.{JournalState}
use Rattle.cc_model.specs.History.{history}
use Rattle.cc_model.specs.Turns.{Device, Book, is_quiet}
use Rattle.cc_turns.specs.Transfers.{CanTransfer, transferred}
use Rattle.cc_turns.specs.Disk.{DiskStands, opening_of}
use Rattle.cc_turns.specs.Standing.{Standing, DiskAtFirst}
use Rattle.cc_turns.specs.Takes.{Grows}
use Rattle.cc_writes.specs.Hands.{HasBook}
use Rattle.cc_writes.specs.Visits.{HasPlaced}
use Rattle.cc_writes.specs.Logs.{IsWant, IsStopAt}
use Rattle.cc_writes.specs.declared.writes.PageTransfer.{PageTransfer}
use Rattle.cc_writes.specs.declared.writes.PageTransfer.TheVariants as write

-- The transfer of a page began, with these bytes, which are the page's at the front of its entry.
pub record TransferHasBegun (w : Standing) (page : Page) (bytes : List ℕ) (seen : List Entry) : Type 0 where
  pub placed : HasPlaced w (entry.WriteBegin w.number page) seen
  pub numbered : page.page < 2 ^ 51
  pub whole : length bytes ≡ 4096
  pub bytes_are : (i : ℕ) → i < 4096 →
      IsByteOfContents (w.setup.opening page.stream) (history placed.front page.stream) (4096 * page.page + i)
      (slice_index bytes i)

-- What the begin of a transfer leaves, by cases over how it ended.
abbrev pub BeginLeft : Standing → Page → Result (List ℕ) CcError → List Entry → Type 0
BeginLeft w page (Ok bytes) seen = TransferHasBegun w page bytes seen
BeginLeft w page (Err e) seen = Grows w seen × IsWant e

-- Others went on, with the stream's book too unless it was kept, but not with its disk, and the pass placed nothing.
pub record GrowsBeside (w : Standing) (s : ℕ) (keeps : Bool) (seen : List Entry) : Type 0 where
  pub later : List Entry
  pub grew : seen ≡ later ++ w.seen
  pub quiet : is_quiet (Device s) later ≡ true
  pub others : Others w.number later
  pub kept : keeps ≡ true → is_quiet (Book s) later ≡ true

-- The disk took a page, or failed to: it stands for every past with the begin of the transfer and this end of it, if
-- it could transfer the page with these bytes as it began.
abbrev pub IsCarried : {D : Type 0} → (D → Option Disk) → (D → ℕ) → Page → List ℕ → End → D → D → Type 0
IsCarried told faults page bytes how old new =
    (first : DiskAtFirst) (before later : List Entry) (pass : ℕ) →
    CanTransfer told faults first before page.stream page.page bytes old → is_quiet (Device page.stream) later ≡ true →
    DiskStands told faults first (transferred pass page.stream page.page how later before) page.stream new

-- what the writing of a page answers whose transfer ended so
abbrev pub transfer_answer : End → Result PageTransfer CcError
transfer_answer how.Good = Ok write.Written
transfer_answer how.Failed = Ok write.NotWritten
transfer_answer how.NoMemory = Err error.NoMemory

-- A page's transfer began and ended so, and the pass placed nothing else.
pub record IsTransferred (w : Standing) (page : Page) (how : End) (keeps : Bool) (seen : List Entry) : Type 0 where
  pub before : List Entry
  pub grows : Grows w before
  pub later : List Entry
  pub quiet : is_quiet (Device page.stream) later ≡ true
  pub others : Others w.number later
  pub kept : keeps ≡ true → is_quiet (Book page.stream) later ≡ true
  pub placed : seen ≡ transferred w.number page.stream page.page how later before

-- What the writing of a page leaves whose log is flushed, by cases over its answer.
abbrev pub PutLeft : Standing → Page → Bool → Result PageTransfer CcError → List Entry → Type 0
PutLeft w page keeps (Ok write.Written) seen = IsTransferred w page how.Good keeps seen
PutLeft w page keeps (Ok write.NotWritten) seen = IsTransferred w page how.Failed keeps seen
PutLeft w page keeps (Ok (write.NotLogged handle)) seen = ⊥
PutLeft w page keeps (Err (error.JournalFull entries)) seen = Grows w seen
PutLeft w page keeps (Err error.NoMemory) seen = Grows w seen ⊎ IsTransferred w page how.NoMemory keeps seen
PutLeft w page keeps (Err other) seen = ⊥

-- The begin of a transfer on a book and a journal in hand: it began, with a snapshot of the page, and a place is
-- reserved for its end.
pub record TransferIsBegun {Q : Type 0} (pass : ℕ) (page : Page) (bytes : List ℕ) (b c : BookState) (j k : JournalState Q)
    : Type 0 where
  pub placed : k ≡ record j {
    entries = entry.WriteBegin pass page ∷ j.entries;
    reserved = j.reserved + 1;
    rows = k.rows;
  }
  pub snapshot : IsSnapshot b page.page bytes
  pub stands : GoesOn j.entries k.entries b c
  pub stream : c.stream ≡ b.stream

-- or there was no room for both its entries, or no memory
pub record IsUnbegun {Q : Type 0} (e : CcError) (b c : BookState) (j k : JournalState Q) : Type 0 where
  pub cause : IsStopAt 2 j e
  pub stays : Stays j k b c

abbrev pub BegunLeft : {Q : Type 0} → ℕ → Page → Result (List ℕ) CcError → BookState → BookState → JournalState Q
    → JournalState Q → Type 0
BegunLeft pass page (Ok bytes) b c j k = TransferIsBegun pass page bytes b c j k
BegunLeft pass page (Err e) b c j k = IsUnbegun e b c j k

-- The transfer of a page is under way: the pass placed its begin as the last that it has seen, with these bytes, the
-- page's at the front of its entry, and the disk stands for that front.
pub record OwnTransferIsUnderWay {D : Type 0} (told : D → Option Disk) (faults : D → ℕ) (w : Standing) (page : Page)
    (bytes : List ℕ) (b : BookState) (disk : D) : Type 0 where
  pub book : HasBook w page.stream b
  pub device : w.held.device ≡ Some page.stream
  pub opening : w.setup.opening page.stream ≡ opening_of (w.disks page.stream).told
  pub before : List Entry
  pub placed : w.seen ≡ entry.WriteBegin w.number page ∷ before
  pub can : CanTransfer told faults (w.disks page.stream) before page.stream page.page bytes disk

-- What the rest of it leaves: its end, behind what others placed meanwhile, by cases over the answer.
pub record IsFinished (w : Standing) (page : Page) (how : End) (keeps : Bool) (seen : List Entry) : Type 0 where
  pub later : List Entry
  pub quiet : is_quiet (Device page.stream) later ≡ true
  pub others : Others w.number later
  pub kept : keeps ≡ true → is_quiet (Book page.stream) later ≡ true
  pub placed : seen ≡ entry.WriteEnd w.number page how ∷ (later ++ w.seen)

abbrev pub TransferFinishLeft : Standing → Page → Bool → Result PageTransfer CcError → List Entry → Type 0
TransferFinishLeft w page keeps (Ok write.Written) seen = IsFinished w page how.Good keeps seen
TransferFinishLeft w page keeps (Ok write.NotWritten) seen = IsFinished w page how.Failed keeps seen
TransferFinishLeft w page keeps (Ok (write.NotLogged handle)) seen = ⊥
TransferFinishLeft w page keeps (Err error.NoMemory) seen = IsFinished w page how.NoMemory keeps seen
TransferFinishLeft w page keeps (Err other) seen = ⊥
