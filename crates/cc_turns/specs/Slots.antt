-- Slots: a place for what each turn is of.
use Rattle.std.specs.Prelude.{◌≡◌, ℕ, ◌+◌, ◌-◌, ◌*◌, ◌≤◌, ◌<◌, List, length, slice_get}
use Rattle.std.specs.declared.option.Option.{Option}
use Rattle.std.specs.declared.option.Option.TheVariants.{Some}
use Rattle.cc_entry.specs.declared.entry.Entry.{Entry}
use Rattle.cc_journal.specs.Capacity.{IsWithinCapacity}
use Rattle.cc_journal.specs.Journal.{JournalState}
use Rattle.cc_journal.specs.Queue.{AllUnposted}
use Rattle.cc_model.specs.Good.{IsGood}
use Rattle.cc_model.specs.Room.{reserved_in}
use Rattle.cc_model.specs.Setup.{Setup}
use Rattle.cc_model.specs.Turns.{Turn, Device, Book, Log, Journal}
use Rattle.cc_turns.specs.Standing.{nothing}
use Rattle.cc_turns.specs.Desk.{Begun, DeskState, Tells, DiskIsHome, BookIsHome, LogIsHome, openings}
use Rattle.cc_turns.specs.declared.slots.Place.{Place}
use Rattle.cc_turns.specs.declared.slots.Place.TheVariants as place

-- how many slots a run has: one for each disk, each book, each log, and the journal
abbrev pub slots_of : {D L : Type 0} → Begun D L → ℕ
slots_of begun = 2 * length begun.disks + length begun.logs + 1

-- The slot of each turn: those of the disks come first, then those of the books, of the logs, and of the journal.
abbrev pub slot_of : {D L : Type 0} → Begun D L → Turn → ℕ
slot_of begun (Device stream) = stream
slot_of begun (Book stream) = length begun.disks + stream
slot_of begun (Log handle) = 2 * length begun.disks + handle
slot_of begun Journal = 2 * length begun.disks + length begun.logs

-- a run that is made from so many disks and logs has the turn
abbrev pub HasTurn : {D L : Type 0} → Begun D L → Turn → Type 0
HasTurn begun (Device stream) = stream < length begun.disks
HasTurn begun (Book stream) = stream < length begun.disks
HasTurn begun (Log handle) = handle < length begun.logs
HasTurn begun Journal = Unit {0}

-- the setup of a run
abbrev pub setup_in : {D L Q : Type 0} → Tells D L Q → Begun D L → Setup
setup_in tells begun = record {
  opening = openings tells.disk tells.disk_faults begun.disks;
  logs = length begun.logs;
  capacity = begun.capacity;
  threshold = begun.threshold;
}

-- A journal at home: it has the past, with the limits of the run; it has reserved what the past owes, and so much more
-- that is under way; and no routine that waits was posted.
pub record JournalIsHome {D L Q : Type 0} (tells : Tells D L Q) (begun : Begun D L) (past : List Entry) (under_way : ℕ)
    (j : JournalState Q) : Type 0 where
  pub entries_are : j.entries ≡ past
  pub capacity_is : j.capacity ≡ begun.capacity
  pub threshold_is : j.threshold ≡ begun.threshold
  pub logs_are : j.logs ≡ length begun.logs
  pub reserved_is : j.reserved ≡ reserved_in past + under_way
  pub unposted : AllUnposted tells.posted j.queue

-- What a turn is of stands for the past, with nothing under way but what passes have reserved.
abbrev pub Fits : {D L Q : Type 0} → Tells D L Q → Begun D L → List Entry → ℕ → Turn → Place D L Q → Type 0
Fits tells begun past under_way (Device stream) (place.Device disk) =
    DiskIsHome tells.disk tells.disk_faults begun.disks past stream disk
Fits tells begun past under_way (Book stream) (place.Book book) =
    BookIsHome (openings tells.disk tells.disk_faults begun.disks) past stream book
Fits tells begun past under_way (Log handle) (place.Log log) =
    LogIsHome tells.log tells.log_faults begun.logs past handle log
Fits tells begun past under_way Journal (place.Journal journal) = JournalIsHome tells begun past under_way journal
Fits tells begun past under_way turn other = ⊥

-- what a turn is of is in its slot, and stands for the past
pub record IsInSlot {D L Q : Type 0} (tells : Tells D L Q) (begun : Begun D L) (past : List Entry) (under_way : ℕ)
    (slots : List (Option (Place D L Q))) (turn : Turn) : Type 0 where
  pub place : Place D L Q
  pub there : slice_get slots (slot_of begun turn) ≡ Some (Some place)
  pub fits : Fits tells begun past under_way turn place

-- What all turns of a run are of is in the slots, and stands for a good past, which was always within the capacity.
pub record AreInSlots {D L Q : Type 0} (tells : Tells D L Q) (begun : Begun D L) (past : List Entry) (under_way : ℕ)
    (slots : List (Option (Place D L Q))) : Type 0 where
  pub counted : length slots ≡ slots_of begun
  pub few : (length begun.disks ≤ 16) × (length begun.logs ≤ 4)
  pub good : IsGood (setup_in tells begun) past
  pub within : IsWithinCapacity begun.capacity past
  pub each : (turn : Turn) → HasTurn begun turn → IsInSlot tells begun past under_way slots turn

-- what the pass of a desk has under way
abbrev pub under_way_in : {D L Q : Type 0} → DeskState D L Q → ℕ
under_way_in d = d.last.reserved - reserved_in d.last.entries

-- A desk that was put together again: of this run, with this past, of which so much is under way; it acts as pass 0.
pub record IsPutTogether {D L Q : Type 0} (begun : Begun D L) (past : List Entry) (under_way : ℕ) (d : DeskState D L Q) : Type 0 where
  pub begun_is : d.begun ≡ begun
  pub past_is : d.last.entries ≡ past
  pub under_way_is : under_way_in d ≡ under_way
  pub held_is : d.held ≡ nothing
  pub pass_is : d.pass ≡ 0
