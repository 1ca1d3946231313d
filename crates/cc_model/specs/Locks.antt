-- The locks of a stream's bytes, which the calls that made and ended them leave.
use Rattle.std.specs.Prelude.{ℕ, ◌==◌, Bool, true, false, List, [], ◌∷◌, Option, None, Some, if◌then◌else◌}
use Rattle.std.specs.List.{cons_option}
use Rattle.cc_entry.specs.Place.{File, Range}
use Rattle.cc_entry.specs.declared.lock.Lock.{Lock}
use Rattle.cc_entry.specs.declared.lock.LockCall.{LockCall}
use Rattle.cc_entry.specs.declared.lock.LockCall.TheVariants as call
use Rattle.cc_entry.specs.Locks.{LockTable, locks_after, read_conflict, write_conflict}
use Rattle.cc_entry.specs.declared.entry.Entry.{Entry}
use Rattle.cc_entry.specs.declared.entry.Entry.TheVariants as entry

-- the call that an entry tells of, where it made or ended a lock of the stream
abbrev pub lock_call : ℕ → Entry → Option LockCall
lock_call s (entry.Locked pass file span exclusive granted id) =
    if file.stream == s then Some (call.Lock file span exclusive granted id) else None
lock_call s (entry.Unlocked pass file id gone) = if file.stream == s then Some (call.Unlock file id gone) else None
lock_call s other = None

-- those calls, newest first
unfoldable pub lock_calls : List Entry → ℕ → List LockCall
lock_calls [] s = []
lock_calls (e ∷ past) s = cons_option (lock_call s e) (lock_calls past s)

-- the locks of the stream, and how many were granted so far
abbrev pub locks_of : List Entry → ℕ → LockTable
locks_of past s = locks_after (lock_calls past s)

-- the least lock in the way of a write, or of a read
abbrev pub conflict_of : List Lock → Bool → File → Range → Option ℕ
conflict_of locks true file range = write_conflict locks file range
conflict_of locks false file range = read_conflict locks file range
