-- A worked journal of a run that is stopped: an update, a checkpoint, another update, and the begin of the first page's write. Its
-- stream has two pages, all of them valid, and each byte of its disk is 90.
use Rattle.std.specs.Prelude.{ℕ, ◌+◌, ◌*◌, true, false, List, [], ◌∷◌, map, replicate, slice_index}
use Rattle.std.specs.declared.option.Option.TheVariants.{Some, None}
use Rattle.cc_entry.specs.Place.{File, Page}
use Rattle.cc_entry.specs.declared.call.Call.{Call}
use Rattle.cc_entry.specs.declared.call.Call.TheVariants as call
use Rattle.cc_entry.specs.declared.query.Query.TheVariants as query
use Rattle.cc_entry.specs.declared.entry.End.TheVariants as how
use Rattle.cc_entry.specs.declared.entry.Entry.{Entry}
use Rattle.cc_entry.specs.declared.entry.Entry.TheVariants as entry
use Rattle.cc_entry.specs.declared.place.DirtyRow.{DirtyRow}
use Rattle.cc_entry.specs.declared.place.FileSizes.{FileSizes}
use Rattle.cc_entry.specs.declared.reply.Outcome.TheVariants as outcome
use Rattle.cc_entry.specs.declared.reply.Reply.{Reply}
use Rattle.cc_entry.specs.declared.reply.Reply.TheVariants as reply
use Rattle.cc_entry.specs.declared.query.Value.TheVariants as value
use Rattle.cc_format.specs.LogRecords.{checkpoint_record, update_record}
use Rattle.cc_format.specs.declared.log.OldestRow.{OldestRow}
use Rattle.cc_model.specs.History.{history}
use Rattle.cc_model.specs.Images.{crash_pages}
use Rattle.cc_model.specs.Setup.{Setup}
use Rattle.cc_traits.specs.Log.{LogEntry}

abbrev pub opening_page : ℕ → List ℕ
opening_page p = replicate 4096 90

-- every disk has such pages, and there is one log
abbrev pub setup : Setup
setup = record { opening = λ s. Some opening_page; logs = 1; capacity = 1048576; threshold = 1024 }

-- the first object of stream 0, its sizes, and a page of it
abbrev pub a : File
a = record { stream = 0; object = 0 }

abbrev pub sizes : FileSizes
sizes = record { allocation = 8192; size = 8192; valid = 8192 }

abbrev pub page : ℕ → Page
page p = record { stream = 0; page = p }

-- a done call of a pass on stream 0, by its number among the pass's calls
abbrev pub answers : ℕ → ℕ → Call → Reply → Entry
answers pass nth it r = entry.Call pass nth (Some 0) it (outcome.Done r)

abbrev pub done : ℕ → ℕ → Call → Entry
done pass nth it = answers pass nth it reply.Unit

abbrev pub states : ℕ → Entry
states nth = answers 1 nth (call.Query (query.State a)) (reply.Value (value.State (record { sizes = sizes; log = Some 0 })))

-- pass 0 opens the stream, and gives it log 0
abbrev pub begun : List Entry
begun = done 0 2 (call.SetLog a 0) ∷ done 0 1 (call.Initialise a sizes 16 false) ∷ []

-- the record of an update of one byte at a place
abbrev pub byte_record : ℕ → ℕ → List ℕ
byte_record at byte = update_record 0 at (byte ∷ [])

-- Pass 1 changes the first byte of a page, through the hold of a number: it pins the byte and asks for the state; the record is
-- appended with an LSN; the byte is written, stamped and let go. Its calls count from one on.
abbrev pub pinned : ℕ → ℕ → ℕ → List Entry → List Entry
pinned nth id p past =
    states (nth + 1) ∷ answers 1 nth (call.PinRead a (4096 * p) 1 true) (reply.Hold id) ∷ entry.PageIn 1 (page p) true ∷ past

abbrev pub recorded : ℕ → ℕ → ℕ → ℕ → ℕ → List Entry → List Entry
recorded nth id p byte lsn past = entry.Append 1 0 lsn (byte_record (4096 * p) byte) ∷ pinned nth id p past

abbrev pub wrote : ℕ → ℕ → ℕ → ℕ → ℕ → List Entry → List Entry
wrote nth id p byte lsn past = done 1 (nth + 2) (call.PinnedWrite id (4096 * p) (byte ∷ [])) ∷ recorded nth id p byte lsn past

abbrev pub updated : ℕ → ℕ → ℕ → ℕ → ℕ → List Entry → List Entry
updated nth id p byte lsn past =
    done 1 (nth + 4) (call.EndHold id) ∷ done 1 (nth + 3) (call.SetDirty id (Some lsn)) ∷ wrote nth id p byte lsn past

-- the first byte of the first page becomes 171
abbrev pub first : List Entry
first = updated 1 1 0 171 1 begun

-- the checkpoint asks for the dirty pages of the log: the first page, with its LSN
abbrev pub dirty_row : DirtyRow
dirty_row = record { page = page 0; oldest = 1; newest = 1 }

abbrev pub listed : List Entry
listed = entry.Call 1 6 None (call.Query (query.DirtyPages 0)) (outcome.Done (reply.Rows (dirty_row ∷ []))) ∷ first

-- it syncs the stream of the log
abbrev pub synced : List Entry
synced =
    done 1 8 (call.Flush a (Some (record { from = 0; to = 0 }))) ∷ entry.Sync 1 0 how.Good ∷ states 7 ∷ listed

-- its record has that row, and the log is flushed up to it
abbrev pub oldest_rows : List OldestRow
oldest_rows = record { stream = 0; page = 0; oldest = 1 } ∷ []

abbrev pub checkpoint : Entry
checkpoint = entry.Append 1 0 2 (checkpoint_record oldest_rows)

abbrev pub checkpointed : List Entry
checkpointed = entry.Flushed 1 0 2 ∷ checkpoint ∷ synced

-- the first byte of the second page becomes 239
abbrev pub second : List Entry
second = updated 9 2 1 239 3 checkpointed

-- the run is stopped as the first page is written
abbrev pub stopped : List Entry
stopped = entry.WriteBegin 1 (page 0) ∷ second

-- wrong: the checkpoint's record stands behind the table, and the stream was not synced since
abbrev pub unsynced : List Entry
unsynced = checkpoint ∷ listed

-- the entries that the log then has, of which the last one is not durable
abbrev pub durable_entries : List LogEntry
durable_entries =
    record { lsn = 1; bytes = byte_record 0 171 } ∷ record { lsn = 2; bytes = checkpoint_record oldest_rows } ∷ []

abbrev pub last_entry : LogEntry
last_entry = record { lsn = 3; bytes = byte_record 4096 239 }

-- the first bytes of the contents of a page that a crash may leave
abbrev pub first_bytes : List Entry → ℕ → List ℕ
first_bytes past p = map (λ bytes. slice_index bytes 0) (crash_pages opening_page (history past 0) p)
