-- The locks of one stream.
use Rattle.std.specs.Prelude.{◌≡◌, ℕ, ◌+◌, ◌<◌, ◌≤◌, Bool, true, false, Option, None, Some, List, [], ◌∷◌, All}
use Rattle.std.specs.List.{AllPairs}
use Rattle.cc_entry.specs.Place.{File, Range}
use Rattle.cc_entry.specs.Locks.{LockTable, lock_conflict, after_lock, after_unlock, lock_answer, unlock_answer, locks_after, AreAnswered, AreCompatible}
use Rattle.cc_entry.specs.declared.error.CcError.{CcError}
use Rattle.cc_entry.specs.declared.error.CcError.TheVariants as error
use Rattle.cc_entry.specs.declared.lock.Lock.{Lock}
use Rattle.cc_entry.specs.declared.lock.LockCall.{LockCall}
use Rattle.cc_entry.specs.declared.lock.LockCall.TheVariants as call

-- the locks of a stream, and the calls so far, with the newest first
pub record HeldLocks : Type 0 where
  pub stream : ℕ
  pub table : LockTable
  pub history : List LockCall

abbrev pub held_locks : ℕ → ℕ → List Lock → List LockCall → HeldLocks
held_locks stream granted locks history = record {
  stream = stream;
  table = record { locks = locks; granted = granted };
  history = history;
}

-- the locks are the replay of the calls, each of which was answered as by one thread at its place, and no two of them are such that
-- the later would have been refused by the earlier
pub record IsReplayed (h : HeldLocks) : Type 0 where
  pub table : h.table ≡ locks_after h.history
  pub answered : AreAnswered h.history
  pub compatible : AreCompatible h.table.locks
  pub numbered : All (λ l. l.id ≤ h.table.granted) h.table.locks

-- after a call for a lock that was answered by the rules, given the least id that conflicts
abbrev pub locked : HeldLocks → File → Range → Bool → Option ℕ → HeldLocks
locked old file range exclusive conflict =
    let answer = lock_answer old.table conflict in
    record {
      stream = old.stream;
      table = after_lock old.table file range exclusive conflict;
      history = call.Lock file range exclusive answer.0 answer.1 ∷ old.history;
    }

-- after a call for the end of a lock
abbrev pub unlocked : HeldLocks → File → ℕ → HeldLocks
unlocked old file id = record {
  stream = old.stream;
  table = after_unlock old.table file id;
  history = call.Unlock file id (unlock_answer old.table file id) ∷ old.history;
}

-- a lock is granted where none conflicts, with the next id
pub record Grants (old new : HeldLocks) (file : File) (range : Range) (exclusive : Bool) (id : ℕ) : Type 0 where
  pub free : lock_conflict old.table.locks range exclusive ≡ None
  pub next : id ≡ old.table.granted + 1
  pub after : new ≡ locked old file range exclusive None

-- a lock is refused with the least id that conflicts; memory is wanting only where none does, and then nothing has changed
abbrev pub Refuses : HeldLocks → HeldLocks → File → Range → Bool → CcError → Type 0
Refuses old new file range exclusive (error.LockConflict id) =
    (lock_conflict old.table.locks range exclusive ≡ Some id) × (new ≡ locked old file range exclusive (Some id))
Refuses old new file range exclusive error.NoMemory = (lock_conflict old.table.locks range exclusive ≡ None) × (new ≡ old)
Refuses old new file range exclusive _ = ⊥
