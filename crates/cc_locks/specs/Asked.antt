-- What may conflict with a lock.
use Rattle.std.specs.Prelude.{Bool}
use Rattle.cc_entry.specs.Place.{Range}
use Rattle.cc_entry.specs.Locks.{read_conflicts, write_conflicts, lock_conflicts}
use Rattle.cc_entry.specs.declared.lock.Lock.{Lock}
use Rattle.cc_locks.specs.declared.asked.Asked.{Asked}
use Rattle.cc_locks.specs.declared.asked.Asked.TheVariants as asked

abbrev pub span_of : Asked → Range
span_of (asked.Read file range) = range
span_of (asked.Write file range) = range
span_of (asked.Lock range exclusive) = range

-- whether a lock conflicts with it
abbrev pub conflicts : Asked → Lock → Bool
conflicts (asked.Read file range) lock = read_conflicts lock file range
conflicts (asked.Write file range) lock = write_conflicts lock file range
conflicts (asked.Lock range exclusive) lock = lock_conflicts lock range exclusive
