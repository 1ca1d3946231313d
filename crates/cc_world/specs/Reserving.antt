-- The journal of the World between the reserving of a place and the entry that takes it.
use Rattle.std.specs.Prelude.{◌≡◌, ◌-◌, ◌<◌, ◌≤◌, Bool, true, false, length}
use Rattle.cc_entry.specs.Place.{File}
use Rattle.cc_entry.specs.declared.error.CcError.{CcError}
use Rattle.cc_entry.specs.declared.error.CcError.TheVariants as error
use Rattle.cc_journal.specs.Journal.{JournalState, room_of}
use Rattle.cc_model.specs.History.{history}
use Rattle.cc_model.specs.Reasons.{is_open}
use Rattle.cc_model.specs.Throttle.{queue}
use Rattle.cc_world.specs.Journals.{IsJournalStanding}

-- the journal as it was before a place was reserved
abbrev pub unreserved : {Q : Type 0} → JournalState Q → JournalState Q
unreserved j = record j { reserved = j.reserved - 1 }

-- A place is reserved for an entry. Without it the journal stands, and has room for one.
pub record HasReserved {Q : Type 0} (posted : Q → Bool) (j : JournalState Q) : Type 0 where
  pub place : 0 < j.reserved
  pub room : 1 ≤ room_of (unreserved j)
  pub standing : IsJournalStanding posted (unreserved j)

-- A write through an object may be deferred: the object is cached, fewer than 64 wait, and there is room for the entry.
pub record CanDefer {Q : Type 0} (file : File) (j : JournalState Q) : Type 0 where
  pub room : 1 ≤ room_of j
  pub cached : is_open (history j.entries file.stream) file ≡ true
  pub few : length (queue j.entries) < 64

-- Why a deferral is refused: for want of room, since the object is not cached, since 64 wait, or for want of memory.
abbrev pub IsDeferralRefusal : {Q : Type 0} → File → CcError → JournalState Q → Type 0
IsDeferralRefusal file (error.JournalFull entries) j = (room_of j < 1) × (entries ≡ length j.entries)
IsDeferralRefusal file error.NotCached j = (1 ≤ room_of j) × (is_open (history j.entries file.stream) file ≡ false)
IsDeferralRefusal file error.QueueFull j =
    (1 ≤ room_of j) × (is_open (history j.entries file.stream) file ≡ true) × (64 ≤ length (queue j.entries))
IsDeferralRefusal file error.NoMemory j = Unit {0}
IsDeferralRefusal file other j = ⊥
