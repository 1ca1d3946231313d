-- What a restart takes from the entries of a log: from where it redoes, what it redoes, and the numbers that it answers.
use Rattle.std.specs.Prelude.{ℕ, ◌+◌, ◌^◌, Bool, ◌&&◌, ◌==◌, nat_le, is_some, min, max, List, length, map, fold, count_by, if◌then◌else◌}
use Rattle.std.specs.List.{filter_map, list_any}
use Rattle.std.specs.declared.option.Option.{Option}
use Rattle.std.specs.declared.option.Option.TheVariants.{Some, None}
use Rattle.cc_traits.specs.Log.{LogEntry}
use Rattle.cc_format.specs.declared.log.OldestRow.{OldestRow}
use Rattle.cc_redo.specs.declared.record.LogRecord.{LogRecord}
use Rattle.cc_redo.specs.declared.record.LogRecord.TheVariants.{Update, Checkpoint}
use Rattle.cc_redo.specs.declared.scan.ReadEntry.{ReadEntry}
use Rattle.cc_redo.specs.declared.redo.Redo.{Redo}
use Rattle.cc_redo.specs.Reading.{said_by}

-- an entry of the log, as it is read
abbrev pub reading : LogEntry → ReadEntry
reading entry = record { lsn = entry.lsn; says = said_by entry.bytes }

abbrev pub readings : List LogEntry → List ReadEntry
readings entries = map reading entries

-- bytes of a stream that an update changes
pub record Change : Type 0 where
  pub at : ℕ
  pub bytes : List ℕ

abbrev pub end_of_change : Change → ℕ
end_of_change change = change.at + length change.bytes

-- The change that an entry says for a stream: that of an update of it whose end is at most its size. All others are passed
-- over.
abbrev pub change_said : Redo → Option LogRecord → Option Change
change_said redo (Some (Update stream at bytes)) =
    if (stream == redo.stream) && nat_le (at + length bytes) redo.size then Some (record { at = at; bytes = bytes }) else None
change_said redo (Some (Checkpoint rows)) = None
change_said redo None = None

-- whether an entry says an update of one of the streams that is not passed over
abbrev pub is_update : List Redo → ReadEntry → Bool
is_update streams entry = list_any (λ redo. is_some (change_said redo entry.says)) streams

abbrev pub all_updates : List Redo → List ReadEntry → ℕ
all_updates streams entries = count_by (is_update streams) entries

-- The valid data length: the greatest of the given one and the ends of all updates of the stream that were not passed over.
abbrev pub raised_by_change : ℕ → Option Change → ℕ
raised_by_change valid None = valid
raised_by_change valid (Some change) = max valid (end_of_change change)

abbrev pub valid_behind : List ReadEntry → Redo → ℕ → ℕ
valid_behind entries redo valid = fold (λ reached entry. raised_by_change reached (change_said redo entry.says)) valid entries

abbrev pub redone_valid : List ReadEntry → Redo → ℕ
redone_valid entries redo = valid_behind entries redo redo.valid

-- the greatest LSN that was read, of those that are one: 1 to 2 ^ 62; 0 where there is none
abbrev pub lsn_read : ReadEntry → ℕ
lsn_read entry = if nat_le entry.lsn (2 ^ 62) then entry.lsn else 0

abbrev pub last_behind : ℕ → List ReadEntry → ℕ
last_behind last entries = fold (λ reached entry. max reached (lsn_read entry)) last entries

abbrev pub last_lsn_of : List ReadEntry → ℕ
last_lsn_of entries = last_behind 0 entries

-- From where a checkpoint lets the updates be redone: the least of its own LSN and the oldest of its rows of the streams.
abbrev pub is_given : List Redo → ℕ → Bool
is_given streams stream = list_any (λ redo. redo.stream == stream) streams

abbrev pub oldest_given_in : List Redo → ℕ → List OldestRow → ℕ
oldest_given_in streams lsn rows = fold (λ oldest row. if is_given streams row.stream then min oldest row.oldest else oldest) lsn rows

abbrev pub from_said : List Redo → ℕ → ReadEntry → ℕ
from_said streams from entry = elim entry.says [
  | None ↦ from
  | Some told ↦ elim told [ Update stream at bytes ↦ from | Checkpoint rows ↦ oldest_given_in streams entry.lsn rows ]
]

-- the LSN from which on updates are redone: that of the last checkpoint, 1 where there is none
abbrev pub from_behind : List Redo → ℕ → List ReadEntry → ℕ
from_behind streams from entries = fold (from_said streams) from entries

abbrev pub from_of : List Redo → List ReadEntry → ℕ
from_of streams entries = from_behind streams 1 entries

-- the changes of a stream that are redone, in their order
abbrev pub redone_by : Redo → ℕ → ReadEntry → Option Change
redone_by redo from entry = if nat_le from entry.lsn then change_said redo entry.says else None

abbrev pub redone_of : Redo → ℕ → List ReadEntry → List Change
redone_of redo from entries = filter_map (redone_by redo from) entries
