-- What the journal says of a log.
use Rattle.std.specs.Prelude.{ℕ, ◌==◌, List, [], ◌∷◌, max, if◌then◌else◌}
use Rattle.cc_entry.specs.declared.entry.Entry.{Entry}
use Rattle.cc_entry.specs.declared.entry.Entry.TheVariants as entry

-- the LSN to which an entry flushed the log, or 0
abbrev pub flush_of : ℕ → Entry → ℕ
flush_of log (entry.Flushed pass handle to) = if handle == log then to else 0
flush_of log other = 0

-- the LSN that an entry gave the log, by an append or a flush, or 0
abbrev pub reach_of : ℕ → Entry → ℕ
reach_of log (entry.Append pass handle lsn bytes) = if handle == log then lsn else 0
reach_of log (entry.Flushed pass handle to) = if handle == log then to else 0
reach_of log other = 0

-- the greatest LSN to which the log was flushed, or 0
unfoldable pub flushed_to : List Entry → ℕ → ℕ
flushed_to [] log = 0
flushed_to (e ∷ past) log = max (flush_of log e) (flushed_to past log)

-- the log's floor: the greatest LSN that was appended or flushed to, or 0
unfoldable pub floor_of : List Entry → ℕ → ℕ
floor_of [] log = 0
floor_of (e ∷ past) log = max (reach_of log e) (floor_of past log)
