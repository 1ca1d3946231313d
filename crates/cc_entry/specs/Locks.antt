-- Locks of bytes: what conflicts with them, and what calls leave of them. A list of locks is in the order in which they were
-- granted, and a list of calls has the newest first.
use Rattle.std.specs.Prelude.{◌≡◌, ℕ, ◌+◌, ◌==◌, min, max, Bool, true, false, not, ◌&&◌, ◌||◌, nat_lt, Option, None, Some, List, [], ◌∷◌, ◌++◌, map, filter, IsTrue, ⊤}
use Rattle.std.specs.List.{reduce, list_any, AllPairs}
use Rattle.cc_entry.specs.Place.{File, Range}
use Rattle.cc_entry.specs.Pages.{has_byte}
use Rattle.cc_entry.specs.declared.lock.Lock.{Lock}
use Rattle.cc_entry.specs.declared.lock.LockCall.{LockCall}
use Rattle.cc_entry.specs.declared.lock.LockCall.TheVariants as call

-- whether two ranges overlap
abbrev pub overlaps : Range → Range → Bool
overlaps a b = nat_lt (max a.from b.from) (min a.to b.to)

-- two ranges overlap where a byte is in both
abbrev pub HaveByteInBoth : Range → Range → Type 0
HaveByteInBoth a b = (i : ℕ) × IsTrue (has_byte a i) × IsTrue (has_byte b i)

-- whether a file object owns a lock
abbrev pub is_of : Lock → File → Bool
is_of lock file = lock.file.stream == file.stream && lock.file.object == file.object

-- a read of a range by a file object conflicts with each overlapping exclusive lock of another one
abbrev pub read_conflicts : Lock → File → Range → Bool
read_conflicts lock file range = overlaps lock.span range && (lock.exclusive && not (is_of lock file))

-- a write conflicts with each overlapping shared lock, whoever owns it, and with each overlapping exclusive lock of another one
abbrev pub write_conflicts : Lock → File → Range → Bool
write_conflicts lock file range = overlaps lock.span range && (not lock.exclusive || not (is_of lock file))

-- a new exclusive lock conflicts with every overlapping lock, a new shared one with every overlapping exclusive lock, whoever owns them
abbrev pub lock_conflicts : Lock → Range → Bool → Bool
lock_conflicts lock range exclusive = overlaps lock.span range && (exclusive || lock.exclusive)

-- the least id of the locks that are picked
abbrev pub least_lock_id : (Lock → Bool) → List Lock → Option ℕ
least_lock_id picks locks = reduce min (map (λ l. l.id) (filter picks locks))

-- the least id of a lock that conflicts with a read, with a write, with a new lock
abbrev pub read_conflict : List Lock → File → Range → Option ℕ
read_conflict locks file range = least_lock_id (λ l. read_conflicts l file range) locks

abbrev pub write_conflict : List Lock → File → Range → Option ℕ
write_conflict locks file range = least_lock_id (λ l. write_conflicts l file range) locks

abbrev pub lock_conflict : List Lock → Range → Bool → Option ℕ
lock_conflict locks range exclusive = least_lock_id (λ l. lock_conflicts l range exclusive) locks

-- the locks that there are, and how many were granted so far
pub record LockTable : Type 0 where
  pub locks : List Lock
  pub granted : ℕ

abbrev pub no_locks : LockTable
no_locks = record { locks = []; granted = 0 }

-- the lock that is granted next
abbrev pub next_lock : LockTable → File → Range → Bool → Lock
next_lock table file range exclusive = record { id = table.granted + 1; file = file; span = range; exclusive = exclusive }

-- after a call that is granted where nothing conflicts with its lock, and else changes nothing
abbrev pub after_lock : LockTable → File → Range → Bool → Option ℕ → LockTable
after_lock table file range exclusive None = record {
  locks = table.locks ++ next_lock table file range exclusive ∷ [];
  granted = table.granted + 1;
}
after_lock table file range exclusive (Some id) = table

-- whether a lock is the one of this id, of this file object
abbrev pub is_named : File → ℕ → Lock → Bool
is_named file id lock = lock.id == id && is_of lock file

-- after a call that ends the lock of this id where the file object owns it
abbrev pub after_unlock : LockTable → File → ℕ → LockTable
after_unlock table file id = record table { locks = filter (λ l. not (is_named file id l)) table.locks }

-- after one more call
abbrev pub table_after_call : LockTable → LockCall → LockTable
table_after_call table (call.Lock file range exclusive granted id) =
    after_lock table file range exclusive (lock_conflict table.locks range exclusive)
table_after_call table (call.Unlock file id gone) = after_unlock table file id

-- the locks after calls of one stream, whatever they were answered
abbrev pub locks_after : List LockCall → LockTable
locks_after [] = no_locks
locks_after (last ∷ calls) = table_after_call (locks_after calls) last

-- what a call for a lock is answered, given the least id that conflicts
abbrev pub lock_answer : LockTable → Option ℕ → Bool × ℕ
lock_answer table None = (true, table.granted + 1)
lock_answer table (Some id) = (false, id)

-- what a call for the end of a lock is answered
abbrev pub unlock_answer : LockTable → File → ℕ → Bool
unlock_answer table file id = list_any (is_named file id) table.locks

-- a call has the answer that the rules give
abbrev pub IsAnswered : LockTable → LockCall → Type 0
IsAnswered table (call.Lock file range exclusive granted id) = lock_answer table (lock_conflict table.locks range exclusive) ≡ (granted, id)
IsAnswered table (call.Unlock file id gone) = unlock_answer table file id ≡ gone

-- each call has the answer of one thread at its place
abbrev pub AreAnswered : List LockCall → Type 0
AreAnswered [] = ⊤
AreAnswered (last ∷ calls) = IsAnswered (locks_after calls) last × AreAnswered calls

-- no two locks are such that the later would have been refused by the earlier
abbrev pub AreCompatible : List Lock → Type 0
AreCompatible locks = AllPairs (λ earlier later. lock_conflicts earlier later.span later.exclusive ≡ false) locks
