-- What a stop leaves of a stream's disk, how the next run is handed it, and what the restart of its log makes of it.
use Rattle.std.specs.Prelude.{◌≡◌, ℕ, ◌*◌, ◌<◌, ◌≤◌, ◌⊎◌, true, List, [], ◌∷◌, ◌++◌, Contains, slice_get}
use Rattle.std.specs.declared.option.Option.{Option}
use Rattle.std.specs.declared.option.Option.TheVariants.{Some, None}
use Rattle.cc_entry.specs.declared.entry.End.{End}
use Rattle.cc_entry.specs.declared.entry.Entry.{Entry}
use Rattle.cc_entry.specs.declared.entry.Entry.TheVariants as entry
use Rattle.cc_format.specs.Spelling.{IsReadAs}
use Rattle.cc_format.specs.declared.record.StreamRecord.{StreamRecord}
use Rattle.cc_format.specs.declared.record.StreamRecord.TheVariants.{V2}
use Rattle.cc_log.specs.Turn.{HoldsLogEntries, appended}
use Rattle.cc_model.specs.History.{history}
use Rattle.cc_model.specs.Logs.{flushed_to}
use Rattle.cc_model.specs.Objects.{had_map}
use Rattle.cc_model.specs.Records.{first_valid}
use Rattle.cc_model.specs.Touches.{size_of}
use Rattle.cc_redo.specs.Disks.{IsPossible, record_number}
use Rattle.cc_redo.specs.declared.redo.Redo.{Redo}
use Rattle.cc_restart_laws.specs.Stops.{LogKeeps, MakesFile, file_byte, updated_byte, updates_in, valid_after_changes}
use Rattle.cc_restarts.specs.Given.{AreRestartSizes, IsRedoOf, size_said, valid_said}
use Rattle.cc_script.specs.declared.script.RestartLine.{RestartLine}
use Rattle.cc_script.specs.declared.script.StreamLine.{StreamLine}
use Rattle.cc_traits.specs.Disk.{Disk, may_of, page_of}
use Rattle.cc_traits.specs.Log.{Log, LogEntry}
use Rattle.cc_turns.specs.Disk.{HasGone}
use Rattle.cc_turns.specs.RecordPage.{RecordHasGone}
use Rattle.cc_update_laws.specs.Devices.{IsWholeDisk}

-- the device of this number tells this
pub record TellsAt {A T : Type 0} (told : A → Option T) (devices : List A) (n : ℕ) (it : T) : Type 0 where
  pub device : A
  pub at : slice_get devices n ≡ Some device
  pub tells : told device ≡ Some it

-- What a run leaves of a stream's disk and of its log, as they tell it: they have gone with the journal, the record page too.
pub record HasLeft (past : List Entry) (s log : ℕ) (opening left : Disk) (begun after : Log) : Type 0 where
  pub gone : HasGone (history past s) opening left
  pub record_gone : RecordHasGone past s opening left
  pub logged : HoldsLogEntries (appended past log) (flushed_to past log) begun after

-- each record of the stream was written behind its first initialise, and tells no less valid data than this
abbrev pub RecordsTell : ℕ → ℕ → List Entry → Type 0
RecordsTell s least past =
    (later front : List Entry) (pass size valid : ℕ) (how : End) → past ≡ later ++ entry.Record pass s size valid how ∷ front →
    (had_map (history front s) ≡ true) × (least ≤ valid)

-- A stream was first initialised with the numbers of its record, which was read so before, or else of its line; and the records
-- that were written of it tell no less valid data.
pub record StreamIsNumbered (s : ℕ) (stream : StreamLine) (read : Option StreamRecord) (past : List Entry) : Type 0 where
  pub sizes : AreRestartSizes stream read
  pub opened : had_map (history past s) ≡ true → first_valid (history past s) ≡ valid_said stream read
  pub size : had_map (history past s) ≡ true → size_of (history past s) ≡ size_said stream read
  pub records : RecordsTell s (valid_said stream read) past

-- Whatever a crash leaves of the disk of a stream, the record page and each page of it: a restart that is given the stream with the
-- numbers that its record then has, or else its line, makes of the page that of one file. It is the file with these pages and this
-- valid data length, with the updates of these entries applied in their order.
pub record IsRedoable (s : ℕ) (stream : StreamLine) (size : ℕ) (kept : List LogEntry) (pages : ℕ → List ℕ) (first : ℕ) (disk : Disk)
    : Type 0 where
  pub sizes : (content : List ℕ) (read : Option StreamRecord) → Contains (may_of disk record_number) content → IsReadAs content read →
      AreRestartSizes stream read × (size_said stream read ≡ size) × (first ≤ valid_said stream read)
  pub makes : (content : List ℕ) (read : Option StreamRecord) → Contains (may_of disk record_number) content → IsReadAs content read →
      (streams : List Redo) (redo : Redo) → IsRedoOf s stream read redo → Contains streams redo →
      (p : ℕ) (bytes : List ℕ) → 4096 * p < size → Contains (may_of disk p) bytes → MakesFile streams kept redo pages first p bytes

-- the lines of a stream in two scripts say the same size and valid data length
pub record SameNumbers (one other : StreamLine) : Type 0 where
  pub size : other.size ≡ one.size
  pub valid : other.valid ≡ one.valid

-- a stream whose record page spells none is named with the same size and valid data length again
abbrev pub NamesAgain : Disk → StreamLine → StreamLine → Type 0
NamesAgain disk one other = IsReadAs (page_of disk record_number) None → SameNumbers one other

-- What a crash left of a disk is handed in: each page has one of the contents that the crash may leave, and no other.
pub record IsHandedOn (left handed : Disk) : Type 0 where
  pub whole : IsWholeDisk handed
  pub among : (p : ℕ) → Contains (may_of left p) (page_of handed p)

-- Of several disks and logs that are handed in, the ones of these numbers are what a crash left of a disk and of a log: a front of the
-- log's entries that has each durable one.
pub record IsHandedIn {D L : Type 0} (told : D → Option Disk) (log_told : L → Option Log) (disks : List D) (logs : List L) (s log : ℕ)
    (left : Disk) (after : Log) (handed : Disk) (kept : Log) : Type 0 where
  pub disk_at : TellsAt told disks s handed
  pub log_at : TellsAt log_told logs log kept
  pub handed_on : IsHandedOn left handed
  pub keeps : LogKeeps after.durable after.entries kept.entries

-- each page of a disk holds what a crash can leave of it
abbrev pub HoldsPossible : Disk → Type 0
HoldsPossible disk = (p : ℕ) → IsPossible disk p

-- What may be left behind a run that gave this disk back and opened its stream at no time: of each page what the disk holds, or what a
-- crash could leave of it as the run began; and what a crash can leave now, where that was one content alone.
abbrev pub IsLeftUnopened : Disk → Disk → Disk → Type 0
IsLeftUnopened opening back left =
    (p : ℕ) (bytes : List ℕ) → Contains (may_of left p) bytes → (bytes ≡ page_of back p) ⊎ (Contains (may_of opening p) bytes
    ⊎ ((may_of opening p ≡ page_of opening p ∷ []) × Contains (may_of back p) bytes))

-- Of the lines of a script the n-th that restarts a log restarts this one; the stream is stored, and has that log.
pub record RestartsStream (s log : ℕ) (stream : StreamLine) (streams : List StreamLine) (restarts : List RestartLine) (n : ℕ)
    : Type 0 where
  pub named : slice_get streams s ≡ Some stream
  pub stored : stream.stored ≡ true
  pub logged : stream.log ≡ Some log
  pub restart : RestartLine
  pub at : slice_get restarts n ≡ Some restart
  pub of_log : restart.handle ≡ log

-- no other does
abbrev pub RestartsOnce : ℕ → List RestartLine → ℕ → Type 0
RestartsOnce log restarts n = (k : ℕ) (other : RestartLine) → slice_get restarts k ≡ Some other → other.handle ≡ log → k ≡ n

-- A disk has, with this valid data length, the file with these pages and this valid data length at first, with the updates of these
-- entries applied in their order, each whole. A crash leaves that alone.
pub record HasFile (s size : ℕ) (kept : List LogEntry) (pages : ℕ → List ℕ) (first valid : ℕ) (disk : Disk) : Type 0 where
  pub redo : Redo
  pub stream_is : redo.stream ≡ s
  pub size_is : redo.size ≡ size
  pub least : valid_after_changes (updates_in redo kept) first ≤ valid
  pub file : (i : ℕ) → i < size → file_byte (page_of disk) valid i ≡ updated_byte pages first (updates_in redo kept) i
  pub whole : IsWholeDisk disk

-- A restart that was handed this disk tells this as valid: the greatest of what it was given, by the record on that disk or else by the
-- line of the stream, and the ends of the updates of these entries that were not passed over, those from before a checkpoint too.
pub record TellsGreatest (line : StreamLine) (handed : Disk) (kept : List LogEntry) (redo : Redo) (valid : ℕ) : Type 0 where
  pub read : Option StreamRecord
  pub reads : IsReadAs (page_of handed record_number) read
  pub greatest : valid ≡ valid_after_changes (updates_in redo kept) (valid_said line read)

-- It has it with the valid data length that its record tells, and the record tells the size.
pub record IsFileMade (s size : ℕ) (kept : List LogEntry) (pages : ℕ → List ℕ) (first : ℕ) (made : Disk) : Type 0 where
  pub valid : ℕ
  pub spelled : IsReadAs (page_of made record_number) (Some (V2 size valid))
  pub has : HasFile s size kept pages first valid made
