-- What the turns of one thread keep.
use Rattle.std.specs.Prelude.{◌≡◌, ℕ, ◌-◌, ◌≤◌, Bool, List, [], length, map, slice_get, if◌then◌else◌, vec_capacity}
use Rattle.std.specs.declared.option.Option.{Option}
use Rattle.std.specs.declared.option.Option.TheVariants.{Some, None}
use Rattle.cc_book.specs.Book.{BookState, BookStands}
use Rattle.cc_traits.specs.Disk.{Disk}
use Rattle.cc_traits.specs.Log.{Log}
use Rattle.cc_journal.specs.Capacity.{IsWithinCapacity}
use Rattle.cc_journal.specs.Journal.{JournalState}
use Rattle.cc_log.specs.Turn.{LogTurnState}
use Rattle.cc_model.specs.History.{history}
use Rattle.cc_model.specs.Images.{open_of}
use Rattle.cc_model.specs.Room.{reserved_in}
use Rattle.cc_traits.specs.Setup.{capacity_of}
use Rattle.cc_traits.specs.declared.setup.Setup.{Setup}
use Rattle.cc_entry.specs.declared.entry.Entry.{Entry}
use Rattle.cc_turns.specs.Standing.{Standing, TurnsHeld, DiskAtFirst, LogAtFirst, nothing}
use Rattle.cc_turns.specs.Disk.{DiskStands, opening_of}
use Rattle.cc_turns.specs.Log.{LogStands, FileStands}
use Rattle.cc_turns.specs.Journal.{JournalStands}
use Rattle.cc_turns.specs.Takes.{HasActed}
use Rattle.cc_turns.specs.Places.{AreHome, IsRoomFor, at_home}
use Rattle.cc_turns.specs.declared.desk.TurnsOut.{TurnsOut as HeldTurns}
use Rattle.cc_turns.specs.declared.desk.Rows.{Rows}

-- what a run was made from
pub record Begun (D L : Type 0) : Type 0 where
  pub disks : List D
  pub logs : List L
  pub capacity : ℕ
  pub threshold : ℕ

abbrev pub made_from : {D L : Type 0} → Setup D L → Begun D L
made_from setup = record {
  disks = setup.disks.items;
  logs = setup.logs.items;
  capacity = capacity_of setup.journal;
  threshold = setup.threshold;
}

-- what a disk, or a log, was at first; a stream without a disk has none
abbrev pub disk_at_first : {D : Type 0} → (D → Option Disk) → (D → ℕ) → Option D → DiskAtFirst
disk_at_first told faults None = record { told = None; faults = 0 }
disk_at_first told faults (Some disk) = record { told = told disk; faults = faults disk }

abbrev pub log_at_first : {L : Type 0} → (L → Option Log) → (L → ℕ) → Option L → LogAtFirst
log_at_first told faults None = record { told = None; faults = 0 }
log_at_first told faults (Some log) = record { told = told log; faults = faults log }

-- the opening pages of each stream
abbrev pub openings : {D : Type 0} → (D → Option Disk) → (D → ℕ) → List D → ℕ → Option (ℕ → List ℕ)
openings told faults disks s = opening_of (disk_at_first told faults (slice_get disks s)).told

-- A journal with the limits that a run is made with, in which nothing stands.
pub record IsNew {D L Q : Type 0} (begun : Begun D L) (j : JournalState Q) : Type 0 where
  pub limits : (j.capacity ≡ begun.capacity) × (j.threshold ≡ begun.threshold) × (j.logs ≡ length begun.logs)
  pub empty : (j.entries ≡ []) × (j.reserved ≡ 0) × (j.queue ≡ [])

-- A desk as contracts see it: what the run was made from, its disks and the files of its logs, those that are held left out, the
-- journal as it was last at home, what stood in it as the desk began to act as its pass, that pass, the turns that are held, and
-- how often the turn of a disk was taken.
pub record DeskState (D L Q : Type 0) : Type 0 where
  pub begun : Begun D L
  pub disks : List D
  pub logs : List L
  pub last : JournalState Q
  pub since : List Entry
  pub pass : ℕ
  pub held : TurnsHeld
  pub device_turns : ℕ

-- the desk of these fields
abbrev pub desk_state : {D L Q : Type 0} → Setup D L → List (Option D) → List (Option (LogTurnState L)) → JournalState Q
    → List Entry → ℕ → HeldTurns → ℕ → DeskState D L Q
desk_state begun disks logs last since pass held device_turns = record {
  begun = made_from begun;
  disks = at_home disks;
  logs = map (λ log. log.file) (at_home logs);
  last = last;
  since = since;
  pass = pass;
  held = record { device = held.device; book = held.book; log = held.log; journal = held.journal };
  device_turns = device_turns;
}

-- What the pass knows, who has seen the whole journal: it shares its turns with no other, and nobody else has anything
-- under way.
abbrev pub standing_of : {D L Q : Type 0} → (D → Option Disk) → (D → ℕ) → (L → Option Log) → (L → ℕ) → DeskState D L Q → Standing
standing_of told faults log_told log_faults d = record {
  shared = [];
  setup = record {
    opening = openings told faults d.begun.disks;
    logs = length d.begun.logs;
    capacity = d.begun.capacity;
    threshold = d.begun.threshold;
  };
  streams = length d.begun.disks;
  disks = λ s. disk_at_first told faults (slice_get d.begun.disks s);
  logs = λ handle. log_at_first log_told log_faults (slice_get d.begun.logs handle);
  number = d.pass;
  seen = d.last.entries;
  since = d.since;
  held = d.held;
  in_flight = d.last.reserved - reserved_in d.last.entries;
  others = 0;
  most_others = 0;
  device_turns = d.device_turns;
}

-- A disk at home stands for its stream, with no transfer under way.
pub record DiskIsHome {D : Type 0} (told : D → Option Disk) (faults : D → ℕ) (disks : List D) (past : List Entry)
    (s : ℕ) (disk : D) : Type 0 where
  pub stands : DiskStands told faults (disk_at_first told faults (slice_get disks s)) past s disk
  pub at_rest : open_of (history past s) ≡ None

-- A book at home stands for its stream.
pub record BookIsHome (opening : ℕ → Option (ℕ → List ℕ)) (past : List Entry) (s : ℕ) (book : BookState) : Type 0 where
  pub stream_is : book.stream ≡ s
  pub stands : BookStands (opening s) past book

-- A log at home stands for its handle.
pub record LogIsHome {L : Type 0} (told : L → Option Log) (faults : L → ℕ) (logs : List L) (past : List Entry)
    (handle : ℕ) (log : LogTurnState L) : Type 0 where
  pub handle_is : log.handle ≡ handle
  pub stands : LogStands told faults (log_at_first told faults (slice_get logs handle)) past log

-- what disks and logs tell, how often they failed, and whether a routine was posted
pub record Tells (D L Q : Type 0) : Type 0 where
  pub disk : D → Option Disk
  pub disk_faults : D → ℕ
  pub log : L → Option Log
  pub log_faults : L → ℕ
  pub posted : Q → Bool

abbrev pub tells_of : {D L Q : Type 0} → (D → Option Disk) → (D → ℕ) → (L → Option Log) → (L → ℕ) → (Q → Bool) → Tells D L Q
tells_of told faults log_told log_faults posted = record {
  disk = told;
  disk_faults = faults;
  log = log_told;
  log_faults = log_faults;
  posted = posted;
}

-- What the turns of one thread keep: all that is not held is at home, and stands for the journal as it was last at
-- home; the journal is at home itself, or held; it was always within the capacity; and what was placed since the desk
-- acts as its pass is that pass's.
pub record DeskStands {D L Q : Type 0} (tells : Tells D L Q) (d : DeskState D L Q) (disks : List (Option D))
    (books : List (Option BookState)) (logs : List (Option (LogTurnState L))) (journal : Option (JournalState Q)) : Type 0 where
  pub disks_are : AreHome (length d.begun.disks) d.held.device
      (DiskIsHome tells.disk tells.disk_faults d.begun.disks d.last.entries) disks
  pub books_are : AreHome (length d.begun.disks) d.held.book
      (BookIsHome (openings tells.disk tells.disk_faults d.begun.disks) d.last.entries) books
  pub logs_are : AreHome (length d.begun.logs) d.held.log
      (LogIsHome tells.log tells.log_faults d.begun.logs d.last.entries) logs
  pub few : (length d.begun.disks ≤ 16) × (length d.begun.logs ≤ 4)
  pub journal_was : JournalStands tells.posted
      (standing_of tells.disk tells.disk_faults tells.log tells.log_faults d) d.last
  pub journal_is : journal ≡ (if d.held.journal then None else Some d.last)
  pub within : IsWithinCapacity d.begun.capacity d.last.entries
  pub acted : HasActed d.pass d.since d.last.entries

-- Rows have room for the disks and logs that a run is made from, the book of each stream is at home, and the journal is
-- empty.
pub record AreDeskRowsFor {D L Q : Type 0} (begun : Begun D L) (rows : Rows D L Q) : Type 0 where
  pub disks : IsRoomFor (length begun.disks) rows.disks.items (vec_capacity rows.disks)
  pub books : (opening : ℕ → Option (ℕ → List ℕ)) → AreHome (length begun.disks) None (BookIsHome opening []) rows.books.items
  pub logs : IsRoomFor (length begun.logs) rows.logs.items (vec_capacity rows.logs)
  pub journal : IsNew begun rows.journal

-- A run as it begins: made from this, and nothing was done yet.
pub record DeskIsFresh {D L Q : Type 0} (begun : Begun D L) (d : DeskState D L Q) : Type 0 where
  pub begun_is : d.begun ≡ begun
  pub journal_is : IsNew begun d.last
  pub since_is : d.since ≡ []
  pub pass_is : d.pass ≡ 0
  pub held_is : d.held ≡ nothing
  pub turns_are : d.device_turns ≡ 0

-- Each of the disks that a run gives back stands for the whole journal, and has no transfer under way.
pub record DeskDisksEnded {D L Q : Type 0} (told : D → Option Disk) (faults : D → ℕ) (d : DeskState D L Q) (disks : List D) : Type 0 where
  pub counted : length disks ≡ length d.begun.disks
  pub each : (s : ℕ) (disk : D) → slice_get disks s ≡ Some disk → DiskIsHome told faults d.begun.disks d.last.entries s disk

-- So does each of the logs.
pub record DeskLogsEnded {D L Q : Type 0} (told : L → Option Log) (faults : L → ℕ) (d : DeskState D L Q) (logs : List L) : Type 0 where
  pub counted : length logs ≡ length d.begun.logs
  pub each : (handle : ℕ) (file : L) → slice_get logs handle ≡ Some file →
      FileStands told faults (log_at_first told faults (slice_get d.begun.logs handle)) d.last.entries handle file
