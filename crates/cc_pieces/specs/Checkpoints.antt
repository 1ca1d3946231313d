-- A checkpoint of a log: the dirty page table is asked, the streams of the log are synced, and the rows are appended to the
-- log and flushed there.
use Rattle.std.specs.Prelude.{◌≡◌, ◌≢◌, ℕ, zero, suc, ◌<◌, ◌≤◌, Bool, false, ◌==◌, List, [], ◌∷◌, ◌++◌, map, Result, Ok, Err, ◌⊎◌, if◌then◌else◌}
use Rattle.std.specs.declared.option.Option.{Option}
use Rattle.std.specs.declared.option.Option.TheVariants.{Some, None}
use Rattle.cc_entry.specs.Place.{File}
use Rattle.cc_entry.specs.declared.place.DirtyRow.{DirtyRow}
use Rattle.cc_entry.specs.declared.place.FileState.{FileState}
use Rattle.cc_entry.specs.declared.call.Call.{Call}
use Rattle.cc_entry.specs.declared.call.Call.TheVariants as call
use Rattle.cc_entry.specs.declared.query.Query.TheVariants as query
use Rattle.cc_entry.specs.declared.error.CcError.{CcError}
use Rattle.cc_entry.specs.declared.error.CcError.TheVariants as error
use Rattle.cc_entry.specs.declared.reply.Reply.TheVariants as reply
use Rattle.cc_entry.specs.declared.reply.Outcome.TheVariants as outcome
use Rattle.cc_entry.specs.declared.entry.Entry.{Entry}
use Rattle.cc_entry.specs.declared.answer.Answer.{Answer}
use Rattle.cc_entry.specs.declared.answer.Answer.TheVariants as answer
use Rattle.cc_model.specs.Setup.{Setup}
use Rattle.cc_format.specs.declared.log.OldestRow.{OldestRow}
use Rattle.cc_format.specs.LogRecords.{checkpoint_record}
use Rattle.cc_effects.specs.Moments.{IsIdle, Between}
use Rattle.cc_effects.specs.Calls.{CallLeft}
use Rattle.cc_effects.specs.LogCalls.{AppendLeft, LogFlushLeft}
use Rattle.cc_pieces.specs.Shim.{CallsLeft, StateLeft}
use Rattle.cc_model.specs.Stamps.{is_log}

-- the file object of a stream that its `stream` line opens
abbrev pub first_object : ℕ → File
first_object stream = record { stream = stream; object = 0 }

-- the row of a checkpoint for a row of the dirty page table
abbrev pub oldest_row : DirtyRow → OldestRow
oldest_row row = record { stream = row.page.stream; page = row.page.page; oldest = row.oldest }

-- the record of a checkpoint for rows of the dirty page table
abbrev pub record_of_rows : List DirtyRow → List ℕ
record_of_rows rows = checkpoint_record (map oldest_row rows)

-- the state of a stream was asked, and told so; none where the stream is not open
abbrev pub StateAsked : Setup → ℕ → ℕ → Option FileState → Between
StateAsked u me stream (Some state) old new = StateLeft u me (first_object stream) state old new
StateAsked u me stream None old new = CallLeft u me (call.Query (query.State (first_object stream))) (outcome.Failed error.NotCached) old new

abbrev pub state_has_log : ℕ → Option FileState → Bool
state_has_log handle None = false
state_has_log handle (Some state) = is_log handle state.log

-- a stream behind others, where it has the log
abbrev pub with_stream_of_log : ℕ → ℕ → Option FileState → List ℕ → List ℕ
with_stream_of_log handle stream state found = if state_has_log handle state then found ++ stream ∷ [] else found

-- the states of the first n streams were asked, and these of them have the log
abbrev pub StatesAsked : Setup → ℕ → ℕ → ℕ → List ℕ → Between
StatesAsked u me handle zero found old new = (found ≡ []) × IsIdle me old new
StatesAsked u me handle (suc n) found old new =
    (earlier : List ℕ) × (state : Option FileState) × (between : List Entry)
    × (found ≡ with_stream_of_log handle n state earlier)
    × StatesAsked u me handle n earlier old between
    × StateAsked u me n state between new

-- of one behind others the state was refused, but not because the stream is not open
pub record StateRefused (u : Setup) (me handle streams : ℕ) (e : CcError) (old new : List Entry) : Type 0 where
  pub n : ℕ
  pub found : List ℕ
  pub between : List Entry
  pub below : n < streams
  pub asked : StatesAsked u me handle n found old between
  pub other : e ≢ error.NotCached
  pub refused : CallLeft u me (call.Query (query.State (first_object n))) (outcome.Failed e) between new

-- memory was wanting behind some that were asked
pub record AskingStopped (u : Setup) (me handle streams : ℕ) (e : CcError) (old new : List Entry) : Type 0 where
  pub n : ℕ
  pub found : List ℕ
  pub within : n ≤ streams
  pub wanting : e ≡ error.NoMemory
  pub asked : StatesAsked u me handle n found old new

-- the flush of a stream that writes no page, and so syncs its disk alone
abbrev pub sync_call : ℕ → Call
sync_call stream = call.Flush (first_object stream) (Some (record { from = 0; to = 0 }))

-- the record was appended to the log, and the log flushed up to it
abbrev pub RecordFlushed : Setup → ℕ → ℕ → ℕ → Result ℕ CcError → Between
RecordFlushed u me handle lsn (Ok told) old new = (told ≡ lsn) × LogFlushLeft {T = Unit {0}} u me handle lsn (Ok tt) old new
RecordFlushed u me handle lsn (Err e) old new = LogFlushLeft {T = Unit {0}} u me handle lsn (Err e) old new

abbrev pub RecordLogged : Setup → ℕ → ℕ → List ℕ → Result ℕ CcError → Between
RecordLogged u me handle spelled answered old new =
    ((e : CcError) × (answered ≡ Err e) × AppendLeft u me handle spelled (Err e) old new)
    ⊎ ((between : List Entry)
    × (lsn : ℕ)
    × AppendLeft u me handle spelled (Ok lsn) old between
    × RecordFlushed u me handle lsn answered between new)

-- the streams of the log were synced before
abbrev pub SyncedLogged : Setup → ℕ → ℕ → List ℕ → List ℕ → Result ℕ CcError → Between
SyncedLogged u me handle found spelled answered old new =
    ((e : CcError) × (answered ≡ Err e) × CallsLeft u me (map sync_call found) (Err e) old new)
    ⊎ ((between : List Entry)
    × CallsLeft u me (map sync_call found) (Ok tt) old between
    × RecordLogged u me handle spelled answered between new)

-- a checkpoint by these rows: the states of all streams are asked first
abbrev pub RowsLogged : Setup → ℕ → ℕ → ℕ → List DirtyRow → Result ℕ CcError → Between
RowsLogged u me streams handle rows answered old new =
    ((e : CcError) × (answered ≡ Err e) × (AskingStopped u me handle streams e old new ⊎ StateRefused u me handle streams e old new))
    ⊎ ((between : List Entry)
    × (found : List ℕ)
    × StatesAsked u me handle streams found old between
    × SyncedLogged u me handle found (record_of_rows rows) answered between new)

-- a checkpoint of a log of a run that has so many streams
abbrev pub CheckpointLeft : Setup → ℕ → ℕ → ℕ → Result ℕ CcError → Between
CheckpointLeft u me streams handle answered old new =
    ((e : CcError) × (answered ≡ Err e) × CallLeft u me (call.Query (query.DirtyPages handle)) (outcome.Failed e) old new)
    ⊎ ((between : List Entry)
    × (rows : List DirtyRow)
    × CallLeft u me (call.Query (query.DirtyPages handle)) (outcome.Done (reply.Rows rows)) old between
    × RowsLogged u me streams handle rows answered between new)

-- a line that makes one
abbrev pub CheckpointAnswered : Setup → ℕ → ℕ → ℕ → Answer → Between
CheckpointAnswered u me streams handle (answer.NewLsn lsn) old new = CheckpointLeft u me streams handle (Ok lsn) old new
CheckpointAnswered u me streams handle (answer.Refused e) old new = CheckpointLeft u me streams handle (Err e) old new
CheckpointAnswered u me streams handle other old new = ⊥
