-- The locks of the streams' bytes, standing for a past, and what calls for them leave of a journal.
use Rattle.std.specs.Prelude.{◌≡◌, ℕ, suc, ◌-◌, ◌<◌, Bool, true, false, Option, None, Some, List, ◌∷◌, length, slice_index_or}
use Rattle.cc_entry.specs.Place.{File, Range}
use Rattle.cc_entry.specs.Locks.{lock_conflict, unlock_answer}
use Rattle.cc_entry.specs.declared.entry.Entry.{Entry}
use Rattle.cc_entry.specs.declared.entry.Entry.TheVariants as entry
use Rattle.cc_entry.specs.declared.error.CcError.{CcError}
use Rattle.cc_entry.specs.declared.error.CcError.TheVariants as error
use Rattle.cc_locks.specs.Locks.{HeldLocks}
use Rattle.cc_model.specs.Locks.{locks_of}
use Rattle.cc_journal.specs.Journal.{JournalState}

-- there are those of 16 streams, each at its number
pub record LocksAreNumbered (locks : List HeldLocks) : Type 0 where
  pub count : length locks ≡ 16
  pub each : (s : ℕ) (d : HeldLocks) → s < 16 → (slice_index_or locks s d).stream ≡ s

-- they are the locks of each stream after a past
abbrev pub LocksStand : List Entry → List HeldLocks → Type 0
LocksStand past locks = (s : ℕ) (d : HeldLocks) → s < 16 → (slice_index_or locks s d).table ≡ locks_of past s

-- whether an entry tells of a call that made or ended a lock
abbrev pub is_lock_call : Entry → Bool
is_lock_call (entry.Locked pass file range exclusive granted id) = true
is_lock_call (entry.Unlocked pass file id gone) = true
is_lock_call other = false

-- the least id of a lock in the way of a new one
abbrev pub lock_in_way : List Entry → File → Range → Bool → Option ℕ
lock_in_way past file range exclusive = lock_conflict (locks_of past file.stream).locks range exclusive

-- A lock was granted, as no other is in its way, with the stream's next id.
pub record GrantsLock {Q : Type 0} (old new : JournalState Q) (pass : ℕ) (file : File) (range : Range) (exclusive : Bool) (id : ℕ)
    : Type 0 where
  pub free : lock_in_way old.entries file range exclusive ≡ None
  pub next : id ≡ suc (locks_of old.entries file.stream).granted
  pub placed : new ≡ record old {
    entries = entry.Locked pass file range exclusive true id ∷ old.entries;
    reserved = old.reserved - 1;
  }

-- A lock was refused with the least id that is in its way; memory is wanting only where none is, and then nothing has changed.
abbrev pub RefusesLock : {Q : Type 0} → JournalState Q → JournalState Q → ℕ → File → Range → Bool → CcError → Type 0
RefusesLock old new pass file range exclusive (error.LockConflict id) =
    (lock_in_way old.entries file range exclusive ≡ Some id) × (new ≡ record old {
      entries = entry.Locked pass file range exclusive false id ∷ old.entries;
      reserved = old.reserved - 1;
    })
RefusesLock old new pass file range exclusive error.NoMemory = (lock_in_way old.entries file range exclusive ≡ None) × (new ≡ old)
RefusesLock old new pass file range exclusive _ = ⊥

-- A call for the end of a lock answers whether the file object owned it.
pub record EndsLock {Q : Type 0} (old new : JournalState Q) (pass : ℕ) (file : File) (id : ℕ) (gone : Bool) : Type 0 where
  pub owned : gone ≡ unlock_answer (locks_of old.entries file.stream) file id
  pub placed : new ≡ record old {
    entries = entry.Unlocked pass file id gone ∷ old.entries;
    reserved = old.reserved - 1;
  }

-- the same of what is kept of the streams' locks, whichever pass calls
pub record Granted (past : List Entry) (new : List HeldLocks) (file : File) (range : Range) (exclusive : Bool) (id : ℕ) : Type 0 where
  pub free : lock_in_way past file range exclusive ≡ None
  pub next : id ≡ suc (locks_of past file.stream).granted
  pub stands : (pass : ℕ) → LocksStand (entry.Locked pass file range exclusive true id ∷ past) new

abbrev pub Refused : List Entry → List HeldLocks → List HeldLocks → File → Range → Bool → CcError → Type 0
Refused past old new file range exclusive (error.LockConflict id) =
    (lock_in_way past file range exclusive ≡ Some id)
    × ((pass : ℕ) → LocksStand (entry.Locked pass file range exclusive false id ∷ past) new)
Refused past old new file range exclusive error.NoMemory = (lock_in_way past file range exclusive ≡ None) × (new ≡ old)
Refused past old new file range exclusive _ = ⊥

pub record LockEnded (past : List Entry) (new : List HeldLocks) (file : File) (id : ℕ) (gone : Bool) : Type 0 where
  pub owned : gone ≡ unlock_answer (locks_of past file.stream) file id
  pub stands : (pass : ℕ) → LocksStand (entry.Unlocked pass file id gone ∷ past) new
