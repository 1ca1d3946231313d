-- What a pass knows: the run that it takes part in, what it has seen of the journal, and which turns it holds.
use Rattle.std.specs.Prelude.{ℕ, ◌==◌, Bool, false, List}
use Rattle.std.specs.declared.option.Option.{Option}
use Rattle.std.specs.declared.option.Option.TheVariants.{Some, None}
use Rattle.cc_entry.specs.declared.entry.Entry.{Entry}
use Rattle.cc_traits.specs.Disk.{Disk}
use Rattle.cc_traits.specs.Log.{Log}
use Rattle.cc_model.specs.Setup.{Setup}
use Rattle.cc_model.specs.Turns.{Turn, Device, Book, Log as log_turn, Journal}

-- The turns that a pass holds: of a stream's disk, of a stream's book, of a log, and of the journal. At most one
-- of each kind is held.
pub record TurnsHeld : Type 0 where
  pub device : Option ℕ
  pub book : Option ℕ
  pub log : Option ℕ
  pub journal : Bool

-- no turn
abbrev pub nothing : TurnsHeld
nothing = record { device = None; book = None; log = None; journal = false }

-- whether a number is the one that may be there
abbrev pub is_the : ℕ → Option ℕ → Bool
is_the n None = false
is_the n (Some m) = m == n

-- whether a turn is held
abbrev pub holds : TurnsHeld → Turn → Bool
holds held (Device stream) = is_the stream held.device
holds held (Book stream) = is_the stream held.book
holds held (log_turn handle) = is_the handle held.log
holds held Journal = held.journal

-- what a disk, or a log, was as the run began: what it told, and its count of faults
pub record DiskAtFirst : Type 0 where
  pub told : Option Disk
  pub faults : ℕ

pub record LogAtFirst : Type 0 where
  pub told : Option Log
  pub faults : ℕ

-- What a pass knows. Of the run: the name of what it shares its turns by, [] where it shares them with nobody, its
-- setup, how many streams have a disk, and what each disk and each log was as it began. Of itself: its number, the
-- entries of the journal that it has seen, those that it had seen as it began to act, the turns that it holds, how many
-- entries it has reserved for what it has under way, how many others had, as it last took the journal, and have at most,
-- and how often it took the turn of a disk.
pub record Standing : Type 0 where
  pub shared : List ℕ
  pub setup : Setup
  pub streams : ℕ
  pub disks : ℕ → DiskAtFirst
  pub logs : ℕ → LogAtFirst
  pub number : ℕ
  pub seen : List Entry
  pub since : List Entry
  pub held : TurnsHeld
  pub in_flight : ℕ
  pub others : ℕ
  pub most_others : ℕ
  pub device_turns : ℕ
