-- What an entry of a log says to a restart, and what it means that it says so.
use Rattle.std.specs.Prelude.{◌≡◌, ℕ, zero, suc, ◌+◌, ◌*◌, ◌^◌, ◌<◌, ◌&&◌, ◌==◌, nat_le, List, [], ◌∷◌, length, drop, slice_index, if◌then◌else◌}
use Rattle.std.specs.declared.option.Option.{Option}
use Rattle.std.specs.declared.option.Option.TheVariants.{Some, None}
use Rattle.std.specs.List.{AllByRecursion}
use Rattle.byteorder.specs.Endian.{little_number}
use Rattle.cc_format.specs.LogRecords.{update_record, checkpoint_record}
use Rattle.cc_format.specs.declared.log.OldestRow.{OldestRow}
use Rattle.cc_redo.specs.declared.record.LogRecord.{LogRecord}
use Rattle.cc_redo.specs.declared.record.LogRecord.TheVariants.{Update, Checkpoint}

-- The entry is the record of an update with these numbers and bytes. The byte 255 begins a checkpoint, and is no stream.
pub record SpellsUpdate (entry : List ℕ) (stream at : ℕ) (bytes : List ℕ) : Type 0 where
  pub stream_fits : stream < 255
  pub at_fits : at < 2 ^ 64
  pub length_fits : length bytes < 2 ^ 32
  pub spelled : entry ≡ update_record stream at bytes

-- the numbers of a row are ones that it can spell
pub record FitsRow (row : OldestRow) : Type 0 where
  pub stream_fits : row.stream < 256
  pub page_fits : row.page < 2 ^ 64
  pub oldest_fits : row.oldest < 2 ^ 64

-- the entry is the record of a checkpoint with these rows
pub record SpellsCheckpoint (entry : List ℕ) (rows : List OldestRow) : Type 0 where
  pub rows_fit : AllByRecursion FitsRow rows
  pub count_fits : length rows < 2 ^ 32
  pub spelled : entry ≡ checkpoint_record rows

-- the entry is the spelling of the record
abbrev pub SpellsLogRecord : List ℕ → LogRecord → Type 0
SpellsLogRecord entry (Update stream at bytes) = SpellsUpdate entry stream at bytes
SpellsLogRecord entry (Checkpoint rows) = SpellsCheckpoint entry rows

-- What an entry says, read by the places of its numbers: an update, where the length is that of the bytes behind it; a
-- checkpoint, where the rows are as many as it says; else nothing.
abbrev pub update_in : ℕ → List ℕ → Option LogRecord
update_in stream rest =
    if nat_le 12 (length rest) && (length rest == 12 + little_number 4 (drop 8 rest))
    then Some (Update stream (little_number 8 rest) (drop 12 rest)) else None

abbrev pub row_in : List ℕ → OldestRow
row_in bytes = record { stream = slice_index bytes 0; page = little_number 8 (drop 1 bytes); oldest = little_number 8 (drop 9 bytes) }

unfoldable pub rows_in : ℕ → List ℕ → List OldestRow
rows_in zero bytes = []
rows_in (suc count) bytes = row_in bytes ∷ rows_in count (drop 17 bytes)

abbrev pub checkpoint_in : List ℕ → Option LogRecord
checkpoint_in rest =
    if nat_le 4 (length rest) && (length rest == 4 + 17 * little_number 4 rest)
    then Some (Checkpoint (rows_in (little_number 4 rest) (drop 4 rest))) else None

abbrev pub said_by : List ℕ → Option LogRecord
said_by [] = None
said_by (first ∷ rest) = if first == 255 then checkpoint_in rest else update_in first rest
