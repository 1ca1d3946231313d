-- The entries of a log of a stream.
use Rattle.std.specs.Prelude.{◌≡◌, ℕ, ◌+◌, ◌^◌, ◌≤◌, List, length}
use Rattle.std.specs.List.{AllByRecursion}
use Rattle.std.specs.declared.option.Option.{Option}
use Rattle.std.specs.declared.option.Option.TheVariants.{Some, None}
use Rattle.cc_redo.specs.Reading.{said_by}
use Rattle.cc_redo.specs.declared.record.LogRecord.{LogRecord}
use Rattle.cc_redo.specs.declared.record.LogRecord.TheVariants.{Update, Checkpoint}
use Rattle.cc_restart_laws.specs.Stops.{AreAscending}
use Rattle.cc_traits.specs.Log.{LogEntry}

-- an update of the stream that an entry records ends at most at this size
abbrev pub EndsWithin : ℕ → ℕ → Option LogRecord → Type 0
EndsWithin s size (Some (Update stream at bytes)) = stream ≡ s → at + length bytes ≤ size
EndsWithin s size (Some (Checkpoint rows)) = Unit {0}
EndsWithin s size None = Unit {0}

abbrev pub EachEndsWithin : ℕ → ℕ → List LogEntry → Type 0
EachEndsWithin s size entries = AllByRecursion (λ entry. EndsWithin s size (said_by entry.bytes)) entries

-- The LSNs of the entries ascend, and are at most the greatest one; and each update of the stream that they record ends at most at
-- its size.
pub record IsLogOf (s size : ℕ) (entries : List LogEntry) : Type 0 where
  pub ascending : AreAscending entries
  pub in_range : AllByRecursion (λ entry. entry.lsn ≤ 2 ^ 62) entries
  pub within : EachEndsWithin s size entries
