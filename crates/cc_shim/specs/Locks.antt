-- What a call leaves, exactly, that makes or ends a lock of bytes, and one that tests bytes against the locks.
use Rattle.std.specs.Prelude.{◌≡◌, ℕ, Bool, true, false, List, ◌∷◌, Result, Ok, Err}
use Rattle.std.specs.declared.option.Option.{Option}
use Rattle.std.specs.declared.option.Option.TheVariants.{Some, None}
use Rattle.cc_entry.specs.Place.{File, Range}
use Rattle.cc_entry.specs.Locks.{IsAnswered}
use Rattle.cc_entry.specs.declared.entry.Entry.{Entry}
use Rattle.cc_entry.specs.declared.entry.Entry.TheVariants as entry
use Rattle.cc_entry.specs.declared.error.CcError.{CcError}
use Rattle.cc_entry.specs.declared.error.CcError.TheVariants as error
use Rattle.cc_entry.specs.declared.lock.LockCall.TheVariants as lock_call
use Rattle.cc_pieces.specs.Locks.{LockLeft, UnlockLeft}
use Rattle.cc_journal.specs.Journal.{JournalState}
use Rattle.cc_model.specs.Good.{IsGood}
use Rattle.cc_model.specs.Locks.{conflict_of, locks_of}
use Rattle.cc_turns.specs.Standing.{Standing}
use Rattle.cc_writes.specs.Hands.{Went}
use Rattle.cc_writes.specs.Logs.{IsStopAt}
use Rattle.cc_writes.specs.Ways.{IsFull}

-- The entry of a call for a lock stands last, answered by the rules at its front.
pub record IsLockedLast (me : ℕ) (file : File) (range : Range) (exclusive granted : Bool) (id : ℕ) (past : List Entry) : Type 0 where
  pub front : List Entry
  pub placed : past ≡ entry.Locked me file range exclusive granted id ∷ front
  pub answered : IsAnswered (locks_of front file.stream) (lock_call.Lock file range exclusive granted id)

-- So does the entry of a call for the end of one.
pub record IsUnlockedLast (me : ℕ) (file : File) (id : ℕ) (gone : Bool) (past : List Entry) : Type 0 where
  pub front : List Entry
  pub placed : past ≡ entry.Unlocked me file id gone ∷ front
  pub answered : IsAnswered (locks_of front file.stream) (lock_call.Unlock file id gone)

-- With what the pass has seen at the end the call is answered so: granted or refused by the entry that stands last.
abbrev pub LockedAt : ℕ → File → Range → Bool → Result ℕ CcError → List Entry → Type 0
LockedAt me file range exclusive (Ok id) past = IsLockedLast me file range exclusive true id past
LockedAt me file range exclusive (Err (error.LockConflict id)) past = IsLockedLast me file range exclusive false id past
LockedAt me file range exclusive (Err other) past = Unit {0}

abbrev pub UnlockedAt : ℕ → File → ℕ → Result Bool CcError → List Entry → Type 0
UnlockedAt me file id (Ok gone) past = IsUnlockedLast me file id gone past
UnlockedAt me file id (Err other) past = Unit {0}

-- A call for a lock was answered so: it left what explains the answer, which is exact for what the pass has seen at the end; a
-- journal that is full is full; the pass goes on as it stood, and what it has seen is good.
pub record LockEnds (old new : Standing) (file : File) (range : Range) (exclusive : Bool) (answer : Result ℕ CcError) : Type 0 where
  pub left : LockLeft old.number file range exclusive answer old.seen new.seen
  pub exact : LockedAt old.number file range exclusive answer new.seen
  pub full : IsFull 1 new answer
  pub goes_on : Went old new
  pub good : IsGood old.setup new.seen

-- The same of a call for the end of a lock.
pub record UnlockEnds (old new : Standing) (file : File) (id : ℕ) (answer : Result Bool CcError) : Type 0 where
  pub left : UnlockLeft old.number file id answer old.seen new.seen
  pub exact : UnlockedAt old.number file id answer new.seen
  pub full : IsFull 1 new answer
  pub goes_on : Went old new
  pub good : IsGood old.setup new.seen

-- The entry of such a call was placed in a journal, answered by the rules, and nothing else of it changed.
abbrev pub LockIn : {Q : Type 0} → ℕ → File → Range → Bool → Result ℕ CcError → JournalState Q → JournalState Q → Type 0
LockIn me file range exclusive (Ok id) j k =
    IsAnswered (locks_of j.entries file.stream) (lock_call.Lock file range exclusive true id)
    × (k ≡ record j { entries = entry.Locked me file range exclusive true id ∷ j.entries })
LockIn me file range exclusive (Err (error.LockConflict id)) j k =
    IsAnswered (locks_of j.entries file.stream) (lock_call.Lock file range exclusive false id)
    × (k ≡ record j { entries = entry.Locked me file range exclusive false id ∷ j.entries })
LockIn me file range exclusive (Err e) j k = IsStopAt 1 j e × (k ≡ j)

abbrev pub UnlockIn : {Q : Type 0} → ℕ → File → ℕ → Result Bool CcError → JournalState Q → JournalState Q → Type 0
UnlockIn me file id (Ok gone) j k =
    IsAnswered (locks_of j.entries file.stream) (lock_call.Unlock file id gone)
    × (k ≡ record j { entries = entry.Unlocked me file id gone ∷ j.entries })
UnlockIn me file id (Err e) j k = IsStopAt 1 j e × (k ≡ j)

-- The entry of a test was placed in a journal, with the conflict that the rules give; nothing else of it changed but rows.
pub record HasTested {Q : Type 0} (me : ℕ) (file : File) (range : Range) (write : Bool) (conflict : Option ℕ) (j k : JournalState Q)
    : Type 0 where
  pub found : conflict ≡ conflict_of (locks_of j.entries file.stream).locks write file range
  pub placed : k ≡ record j { entries = entry.Tested me file range write conflict ∷ j.entries; rows = k.rows }

abbrev pub TestIn : {Q : Type 0} → ℕ → File → Range → Bool → Result (Unit {0}) CcError → JournalState Q → JournalState Q → Type 0
TestIn me file range write (Ok done) j k = HasTested me file range write None j k
TestIn me file range write (Err (error.LockConflict id)) j k = HasTested me file range write (Some id) j k
TestIn me file range write (Err e) j k = IsStopAt 1 j e × (k ≡ j)
