-- The World as contracts see it, what it keeps, and what an event leaves of it.
use Rattle.std.specs.Prelude.{◌≡◌, ℕ, ◌+◌, ◌<◌, ◌≤◌, List, [], ◌∷◌, length, slice_get, slice_set, vec_capacity}
use Rattle.std.specs.declared.option.Option.{Option}
use Rattle.std.specs.declared.option.Option.TheVariants.{Some, None}
use Rattle.cc_entry.specs.declared.entry.Entry.{Entry}
use Rattle.cc_entry.specs.declared.error.CcError.TheVariants as error
use Rattle.cc_traits.specs.declared.setup.Setup.{Setup as Begins}
use Rattle.cc_book.specs.Book.{BookState, BookStands}
use Rattle.cc_journal.specs.Capacity.{IsWithinCapacity}
use Rattle.cc_journal.specs.Journal.{JournalState, room_of}
use Rattle.cc_journal.specs.Queue.{AllUnposted}
use Rattle.cc_log.specs.Turn.{LogTurnState}
use Rattle.cc_model.specs.Good.{IsGood}
use Rattle.cc_model.specs.Logs.{flushed_to}
use Rattle.cc_model.specs.History.{history}
use Rattle.cc_model.specs.Room.{reserved_in}
use Rattle.cc_turns.specs.Desk.{Begun, Tells, LogIsHome, IsNew, disk_at_first, log_at_first, made_from, openings}
use Rattle.cc_turns.specs.Log.{FileStands}
use Rattle.cc_turns.specs.Places.{IsRoomFor}
use Rattle.cc_world.specs.Journals.{JournalHasPlaced, Queued, refused_plainly}
use Rattle.cc_world.specs.Rows.{DiskIsUsed, RowStands}
use Rattle.cc_effects.specs.Events.{Answers, IsWanting, MayFault, MayHappen, Where, OnStream, OnLog, OnJournal, Nowhere, asked_by_event, faulted_by, place_of_event}
use Rattle.cc_effects.specs.declared.events.Event.{Event}
use Rattle.cc_effects.specs.declared.events.StepReply.{StepReply}
use Rattle.cc_effects.specs.declared.events.StepReply.TheVariants as step
use Rattle.cc_world.specs.declared.rows.BegunTransfer.{BegunTransfer}
use Rattle.cc_world.specs.declared.rows.StreamRow.{StreamRow}
use Rattle.cc_world.specs.declared.machine.Rows.{Rows}
use Rattle.cc_turns.specs.Slots.{setup_in}

-- The World: what the run was made from, a row for each stream, the logs, and the journal.
pub record WorldState (D L Q : Type 0) : Type 0 where
  pub begun : Begun D L
  pub rows : List (StreamRow D)
  pub logs : List (LogTurnState L)
  pub journal : JournalState Q

-- the World of these fields
abbrev pub world_of : {D L Q : Type 0} → Begins D L → List (StreamRow D) → List (LogTurnState L) → JournalState Q → WorldState D L Q
world_of begun rows logs journal = record { begun = made_from begun; rows = rows; logs = logs; journal = journal }

-- A row is at its place: it is of that stream, and stands for the past.
pub record RowIsHome {D L Q : Type 0} (tells : Tells D L Q) (disks : List D) (past : List Entry) (s : ℕ) (row : StreamRow D)
    : Type 0 where
  pub stream : row.book.stream ≡ s
  pub stands : RowStands tells.disk tells.disk_faults (openings tells.disk tells.disk_faults disks s)
      (disk_at_first tells.disk tells.disk_faults (slice_get disks s)) past row

-- There are so many things, and each is as it is to be at its place.
pub record AreAt {A : Type 0} (count : ℕ) (IsAt : ℕ → A → Type 0) (things : List A) : Type 0 where
  pub counted : length things ≡ count
  pub each : (n : ℕ) (a : A) → slice_get things n ≡ Some a → IsAt n a

-- The journal is good, has the limits of the setup, has reserved just what its entries owe, no routine that waits was
-- posted, no log was flushed that there is not, nothing happened to a stream that there is not, and it was always within
-- the capacity.
pub record JournalRests {D L Q : Type 0} (tells : Tells D L Q) (begun : Begun D L) (j : JournalState Q) : Type 0 where
  pub good : IsGood (setup_in tells begun) j.entries
  pub limits : (j.capacity ≡ begun.capacity) × (j.threshold ≡ begun.threshold) × (j.logs ≡ length begun.logs)
  pub reserved : j.reserved ≡ reserved_in j.entries
  pub unposted : AllUnposted tells.posted j.queue
  pub strange : (handle : ℕ) → length begun.logs ≤ handle → flushed_to j.entries handle ≡ 0
  pub no_stream : (s : ℕ) → length begun.disks ≤ s → history j.entries s ≡ []
  pub within : IsWithinCapacity begun.capacity j.entries

-- What the World keeps, whatever happened: rows, logs and journal stand.
pub record WorldStands {D L Q : Type 0} (tells : Tells D L Q) (w : WorldState D L Q) : Type 0 where
  pub rows : AreAt (length w.begun.disks) (RowIsHome tells w.begun.disks w.journal.entries) w.rows
  pub logs : AreAt (length w.begun.logs) (LogIsHome tells.log tells.log_faults w.begun.logs w.journal.entries) w.logs
  pub journal : JournalRests tells w.begun w.journal
  pub few : (length w.begun.disks ≤ 16) × (length w.begun.logs ≤ 4)

-- The book of a stream of which nothing happened yet.
pub record IsNewBook (s : ℕ) (book : BookState) : Type 0 where
  pub stream : book.stream ≡ s
  pub stands : (opening : Option (ℕ → List ℕ)) → BookStands opening [] book

-- A row of which nothing happened yet, over a disk of a setup.
pub record IsNewRow {D : Type 0} (disks : List D) (s : ℕ) (row : StreamRow D) : Type 0 where
  pub disk : slice_get disks s ≡ Some row.disk
  pub book : IsNewBook s row.book
  pub kept : row.kept ≡ None

-- Rows have room for all that a run is made from, nothing happened to the books of its streams, and its journal is empty.
pub record AreWorldRowsFor {D L Q : Type 0} (begun : Begun D L) (made : Rows D L Q) : Type 0 where
  pub rows : IsRoomFor (length begun.disks) made.rows.items (vec_capacity made.rows)
  pub books : AreAt (length begun.disks) IsNewBook made.books.items
  pub logs : IsRoomFor (length begun.logs) made.logs.items (vec_capacity made.logs)
  pub journal : IsNew begun made.journal

-- A World of which nothing happened yet.
pub record WorldIsFresh {D L Q : Type 0} (begun : Begun D L) (w : WorldState D L Q) : Type 0 where
  pub begun_is : w.begun ≡ begun
  pub journal_is : IsNew begun w.journal

-- These entries were placed, the disk of one stream failed so many times, and nothing else of the World changed but the
-- row of that stream.
pub record WorldWent {D L Q : Type 0} (tells : Tells D L Q) (s n : ℕ) (added : List Entry) (old new : WorldState D L Q)
    : Type 0 where
  pub row : StreamRow D
  pub now : StreamRow D
  pub was : slice_get old.rows s ≡ Some row
  pub same : new ≡ record old { rows = slice_set old.rows s now; journal = new.journal }
  pub placed : JournalHasPlaced added old.journal new.journal
  pub counted : tells.disk_faults now.disk ≡ tells.disk_faults row.disk + n

-- the same of a log, whose file failed so many times
pub record WentLog {D L Q : Type 0} (tells : Tells D L Q) (handle n : ℕ) (added : List Entry) (old new : WorldState D L Q)
    : Type 0 where
  pub log : LogTurnState L
  pub now : LogTurnState L
  pub was : slice_get old.logs handle ≡ Some log
  pub same : new ≡ record old { logs = slice_set old.logs handle now; journal = new.journal }
  pub placed : JournalHasPlaced added old.journal new.journal
  pub counted : tells.log_faults now.file ≡ tells.log_faults log.file + n

-- These entries were placed, and nothing else of the World changed than the journal.
pub record WentAlone {D L Q : Type 0} (added : List Entry) (old new : WorldState D L Q) : Type 0 where
  pub same : new ≡ record old { journal = new.journal }
  pub placed : JournalHasPlaced added old.journal new.journal

abbrev pub WentAt : {D L Q : Type 0} → Tells D L Q → Where → ℕ → List Entry → WorldState D L Q → WorldState D L Q → Type 0
WentAt tells (OnStream s) n added old new = WorldWent tells s n added old new
WentAt tells (OnLog handle) n added old new = WentLog tells handle n added old new
WentAt tells OnJournal n added old new = WentAlone added old new
WentAt tells Nowhere n added old new = (added ≡ []) × (new ≡ old)

-- the disk or the log failed, where it may
abbrev pub Faulted : {D L Q : Type 0} → Tells D L Q → Where → Option Entry → WorldState D L Q → WorldState D L Q → Type 0
Faulted tells place None old new = ⊥
Faulted tells place (Some e) old new = WentAt tells place 1 (e ∷ []) old new

-- What is replied to an event on no log: there is no room for an entry, or no log.
abbrev pub IsNoLogReply : {D L Q : Type 0} → ℕ → WorldState D L Q → StepReply Q → Type 0
IsNoLogReply handle w (step.Refused (error.JournalFull entries)) = (room_of w.journal < 1) × (entries ≡ length w.journal.entries)
IsNoLogReply handle w (step.Refused (error.NoLog n)) = (1 ≤ room_of w.journal) × (n ≡ handle)
IsNoLogReply handle w other = ⊥

-- What an event leaves that may happen and for which there is room, by cases over its reply.
abbrev pub EventEnded : {D L Q : Type 0} → Tells D L Q → Event Q → StepReply Q → WorldState D L Q → WorldState D L Q → Type 0
EventEnded tells it step.NotNow old new = ⊥
EventEnded tells it step.Faulted old new =
    MayFault (setup_in tells old.begun) old.journal.entries it
    × Faulted tells (place_of_event (setup_in tells old.begun) old.journal.entries it) (faulted_by old.journal.entries it) old new
EventEnded tells it (step.Refused (error.JournalFull entries)) old new = ⊥
EventEnded tells it (step.Refused error.NoMemory) old new =
    (added : List Entry) × IsWanting old.journal.entries it added
    × WentAt tells (place_of_event (setup_in tells old.begun) old.journal.entries it) 0 added old new
EventEnded tells it other old new =
    (added : List Entry) × Answers (setup_in tells old.begun) old.journal.entries it other added
    × WentAt tells (place_of_event (setup_in tells old.begun) old.journal.entries it) 0 added old new

-- What an event leaves, its routine aside. It is not now exactly where the law forbids its entry, which is tested before
-- all else, and refused for want of room exactly where there is less than it asks; then nothing changed. A disk's
-- failure, or a log's, is told only where the event goes to it and its count rose. Memory may be wanting at any time.
abbrev pub Happened : {D L Q : Type 0} → Tells D L Q → Event Q → StepReply Q → WorldState D L Q → WorldState D L Q → Type 0
Happened tells it step.NotNow old new =
    (MayHappen (setup_in tells old.begun) old.journal.entries it → ⊥) × (new ≡ old)
Happened tells it (step.Refused (error.JournalFull entries)) old new =
    MayHappen (setup_in tells old.begun) old.journal.entries it
    × (room_of old.journal < asked_by_event (setup_in tells old.begun) old.journal.entries it)
    × (entries ≡ length old.journal.entries) × (new ≡ old)
Happened tells it (step.Refused error.NoMemory) old new = EventEnded tells it (step.Refused error.NoMemory) old new
Happened tells it other old new =
    MayHappen (setup_in tells old.begun) old.journal.entries it
    × (asked_by_event (setup_in tells old.begun) old.journal.entries it ≤ room_of old.journal)
    × EventEnded tells it other old new

-- What an event leaves of the World.
abbrev pub WorldEventLeft : {D L Q : Type 0} → Tells D L Q → Event Q → StepReply Q → WorldState D L Q → WorldState D L Q → Type 0
WorldEventLeft tells it reply old new =
    Happened tells it (refused_plainly reply) old new
    × Queued tells.posted it reply old.journal.queue new.journal.queue

-- Each of the disks that the World gives back is at rest, and stands for the journal, or has a transfer open on it.
pub record WorldDisksEnded {D L Q : Type 0} (tells : Tells D L Q) (w : WorldState D L Q) (disks : List D) : Type 0 where
  pub counted : length disks ≡ length w.begun.disks
  pub each : (s : ℕ) (disk : D) → slice_get disks s ≡ Some disk →
      (kept : Option BegunTransfer) × DiskIsUsed tells.disk tells.disk_faults
      (disk_at_first tells.disk tells.disk_faults (slice_get w.begun.disks s)) w.journal.entries s disk kept

-- Each of the logs stands for it.
pub record WorldLogsEnded {D L Q : Type 0} (tells : Tells D L Q) (w : WorldState D L Q) (logs : List L) : Type 0 where
  pub counted : length logs ≡ length w.begun.logs
  pub each : (handle : ℕ) (file : L) → slice_get logs handle ≡ Some file →
      FileStands tells.log tells.log_faults (log_at_first tells.log tells.log_faults (slice_get w.begun.logs handle))
      w.journal.entries handle file
