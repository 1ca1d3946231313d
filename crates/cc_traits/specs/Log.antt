-- What a log in memory tells: its entries, and up to which LSN they are on the medium.
use Rattle.std.specs.Prelude.{◌≡◌, ℕ, ◌≤◌, List, [], ◌∷◌, ◌++◌, Option, Some, None, slice_get}

-- one entry of a log
pub record LogEntry : Type 0 where
  pub lsn : ℕ
  pub bytes : List ℕ

-- the entries, oldest first; every entry up to `durable`, an LSN or 0, is on the medium
pub record Log : Type 0 where
  pub entries : List LogEntry
  pub durable : ℕ

-- one entry was put behind the others, and what is on the medium stays there
pub record Appended (lsn : ℕ) (bytes : List ℕ) (old new : Log) : Type 0 where
  pub entries : new.entries ≡ old.entries ++ record { lsn = lsn; bytes = bytes } ∷ []
  pub durable : old.durable ≤ new.durable

-- the entries stayed, and what is on the medium stays there
pub record LogKept (old new : Log) : Type 0 where
  pub entries : new.entries ≡ old.entries
  pub durable : old.durable ≤ new.durable

-- the entries stayed, and those up to an LSN are on the medium
pub record Flushed (lsn : ℕ) (old new : Log) : Type 0 where
  pub entries : new.entries ≡ old.entries
  pub durable : old.durable ≤ new.durable
  pub reached : lsn ≤ new.durable

-- an entry has this LSN and these bytes; where there is none, there is no LSN
abbrev pub LogEntryIsRead : Option LogEntry → Option ℕ → List ℕ → Type 0
LogEntryIsRead (Some entry) lsn bytes = (lsn ≡ Some entry.lsn) × (bytes ≡ entry.bytes)
LogEntryIsRead None lsn bytes = lsn ≡ None

-- the n-th entry, counted from 0, has this LSN and these bytes, or there is none
abbrev pub HoldsEntry : ℕ → Option ℕ → List ℕ → Log → Type 0
HoldsEntry n lsn bytes log = LogEntryIsRead (slice_get log.entries n) lsn bytes
