-- Runs over one log that follow each other: with what each begins, and what is left of it.
use Rattle.std.specs.Prelude.{ℕ, ◌<◌, List}
use Rattle.std.specs.declared.option.Option.{Option}
use Rattle.cc_entry.specs.declared.entry.Entry.{Entry}
use Rattle.cc_format.specs.Spelling.{IsReadAs}
use Rattle.cc_format.specs.declared.record.StreamRecord.{StreamRecord}
use Rattle.cc_model.specs.Good.{IsGoodSoFar}
use Rattle.cc_model.specs.Setup.{Setup}
use Rattle.cc_redo.specs.Disks.{record_number}
use Rattle.cc_redo.specs.Heard.{last_lsn_of, readings}
use Rattle.cc_restart_laws.specs.Stops.{LogKeeps}
use Rattle.cc_restart_laws.specs.Updates.{IsUpdated}
use Rattle.cc_restarts.specs.Given.{size_said, valid_said}
use Rattle.cc_script.specs.declared.script.StreamLine.{StreamLine}
use Rattle.cc_traits.specs.Disk.{Disk, page_of}
use Rattle.cc_traits.specs.Log.{Log, LogEntry}
use Rattle.cc_update_laws.specs.Devices.{GoesOnFrom}
use Rattle.cc_update_laws.specs.Logs.{IsLogOf}
use Rattle.cc_stop_laws.specs.Redoable.{HasFile, HasLeft, StreamIsNumbered, IsRedoable}

-- A run in which a stream changed by logged updates alone. Its journal is good, the stream was first initialised with the numbers
-- of its record, which was read so before, or else of its line, and the disk and the log went with the journal.
pub record IsUpdatedRun (u : Setup) (past : List Entry) (s log : ℕ) (stream : StreamLine) (read : Option StreamRecord)
    (opening left : Disk) (begun after : Log) : Type 0 where
  pub below : s < 16
  pub good : IsGoodSoFar u past
  pub updated : IsUpdated s log past
  pub reads : IsReadAs (page_of opening record_number) read
  pub numbered : StreamIsNumbered s stream read past
  pub has_left : HasLeft past s log opening left begun after

-- A run began with the file with these pages and this valid data length, with the updates of its log's entries applied; and it went on
-- with the log from the greatest LSN of these, before it appended.
pub record HasBegunWith (past : List Entry) (s log : ℕ) (stream : StreamLine) (read : Option StreamRecord) (pages : ℕ → List ℕ)
    (first : ℕ) (opening : Disk) (begun : Log) : Type 0 where
  pub has : HasFile s (size_said stream read) begun.entries pages first (valid_said stream read) opening
  pub entries : IsLogOf s (size_said stream read) begun.entries
  pub goes_on : GoesOnFrom log (last_lsn_of (readings begun.entries)) past

-- What is left of a stream's disk and of a log: whatever a crash leaves of the disk, and wherever it cuts the log past what is durable,
-- a restart makes of them the file with these pages and this valid data length, with the updates of the kept entries applied in their
-- order, each whole.
pub record IsRedoneFrom (s : ℕ) (stream : StreamLine) (size : ℕ) (pages : ℕ → List ℕ) (first : ℕ) (left : Disk) (after : Log) : Type 0 where
  pub entries : IsLogOf s size after.entries
  pub redoable : (kept : List LogEntry) → LogKeeps after.durable after.entries kept → IsRedoable s stream size kept pages first left

-- a log whose entries were read by a restart, which the next one is to read too: they count as durable
abbrev pub as_read : Log → Log
as_read log = record { entries = log.entries; durable = last_lsn_of (readings log.entries) }
