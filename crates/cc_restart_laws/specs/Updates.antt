-- What a journal has of the updates of one stream and of the checkpoints of its log: each change of the stream has its record
-- in the log, and each record of the log is that of an update or of a checkpoint.
use Rattle.std.specs.Prelude.{◌≡◌, ℕ, ◌*◌, ◌<◌, ◌≤◌, ◌&&◌, ◌==◌, Bool, true, false, List, [], ◌∷◌, ◌++◌, length, map}
use Rattle.std.specs.List.{list_any}
use Rattle.std.specs.declared.option.Option.{Option}
use Rattle.std.specs.declared.option.Option.TheVariants.{Some, None}
use Rattle.cc_entry.specs.Kinds.{is_pin}
use Rattle.cc_entry.specs.declared.call.Call.{Call}
use Rattle.cc_entry.specs.declared.call.Call.TheVariants as call
use Rattle.cc_entry.specs.declared.query.Query.TheVariants as query
use Rattle.cc_entry.specs.declared.entry.End.TheVariants as how
use Rattle.cc_entry.specs.declared.entry.Entry.{Entry}
use Rattle.cc_entry.specs.declared.entry.Entry.TheVariants as entry
use Rattle.cc_entry.specs.declared.place.DirtyRow.{DirtyRow}
use Rattle.cc_entry.specs.declared.reply.Outcome.TheVariants as outcome
use Rattle.cc_entry.specs.declared.reply.Reply.{Reply}
use Rattle.cc_model.specs.Acts.{Act, act_of, Opens, Closes, Resizes, Writes, Zeroes, Stores, Stamps, Discards, Looks}
use Rattle.cc_model.specs.Discards.{is_known}
use Rattle.cc_model.specs.History.{history}
use Rattle.cc_model.specs.Holds.{Hold, hold_at, holds_of}
use Rattle.cc_model.specs.Numbers.{is_among}
use Rattle.cc_model.specs.Objects.{objects, had_map}
use Rattle.cc_model.specs.Passes.{is_mine}
use Rattle.cc_model.specs.Settings.{log_of, log_after}
use Rattle.cc_model.specs.Stamps.{dirty_table}
use Rattle.cc_model.specs.Touches.{size_of, valid_of}
use Rattle.cc_effects.specs.Moments.{IsIdle}
use Rattle.cc_format.specs.declared.log.OldestRow.{OldestRow}
use Rattle.cc_redo.specs.Reading.{said_by}
use Rattle.cc_redo.specs.declared.record.LogRecord.{LogRecord}
use Rattle.cc_redo.specs.declared.record.LogRecord.TheVariants.{Update, Checkpoint}

-- whether a record is that of an update of the stream
abbrev pub is_update_of : ℕ → Option LogRecord → Bool
is_update_of s (Some (Update stream at bytes)) = stream == s
is_update_of s (Some (Checkpoint rows)) = false
is_update_of s None = false

-- whether an entry appended such a record to the log
abbrev pub records_update : ℕ → ℕ → Entry → Bool
records_update s log (entry.Append pass handle lsn bytes) = handle == log && is_update_of s (said_by bytes)
records_update s log other = false

-- An update by a pass: the bytes that it changes from a place on, the pin through which it does, and the LSN of its record.
pub record Updating : Type 0 where
  pub pass : ℕ
  pub hold : ℕ
  pub at : ℕ
  pub bytes : List ℕ
  pub lsn : ℕ

-- A pin of the pass is open on the stream, for itself alone, of just this range.
pub record IsPinned (s pass hold at len : ℕ) (past : List Entry) : Type 0 where
  pub it : Hold
  pub found : hold_at (holds_of (history past s)) hold ≡ Some it
  pub mine : it.pass ≡ pass
  pub kind : is_pin it.kind ≡ true
  pub alone : it.exclusive ≡ true
  pub from : it.at ≡ at
  pub long : it.len ≡ len

-- The record of an update was appended to the log under the update's pin, and its pass placed nothing since.
pub record HasRecord (s log : ℕ) (it : Updating) (past : List Entry) : Type 0 where
  pub spelled : List ℕ
  pub front : List Entry
  pub said : said_by spelled ≡ Some (Update s it.at it.bytes)
  pub pinned : IsPinned s it.pass it.hold it.at (length it.bytes) front
  pub idle : IsIdle it.pass (entry.Append it.pass log it.lsn spelled ∷ front) past

-- Behind its record the bytes of an update were written through the pin, and its pass placed nothing since.
pub record UpdateHasWritten (s log : ℕ) (it : Updating) (past : List Entry) : Type 0 where
  pub nth : ℕ
  pub reply : Reply
  pub front : List Entry
  pub recorded : HasRecord s log it front
  pub idle : IsIdle it.pass (entry.Call it.pass nth (Some s) (call.PinnedWrite it.hold it.at it.bytes) (outcome.Done reply) ∷ front) past

-- an entry is the set-dirty of an update, with the LSN of its record
pub record IsStamp (s : ℕ) (it : Updating) (e : Entry) : Type 0 where
  pub nth : ℕ
  pub reply : Reply
  pub is : e ≡ entry.Call it.pass nth (Some s) (call.SetDirty it.hold (Some it.lsn)) (outcome.Done reply)

-- The record of an update with this LSN was appended to the log before.
pub record HasRecorded (s log lsn : ℕ) (past : List Entry) : Type 0 where
  pub pass : ℕ
  pub at : ℕ
  pub bytes : List ℕ
  pub spelled : List ℕ
  pub later : List Entry
  pub front : List Entry
  pub splits : past ≡ later ++ entry.Append pass log lsn spelled ∷ front
  pub said : said_by spelled ≡ Some (Update s at bytes)

-- An update with a record of this LSN was written and set dirty before.
pub record WasStamped (s log lsn : ℕ) (past : List Entry) : Type 0 where
  pub it : Updating
  pub its_lsn : it.lsn ≡ lsn
  pub later : List Entry
  pub front : List Entry
  pub stamp : Entry
  pub splits : past ≡ later ++ stamp ∷ front
  pub written : UpdateHasWritten s log it front
  pub is : IsStamp s it stamp

-- The record of an update may be appended: a pin of its range is open for its pass alone, it begins within the valid data, and
-- the log is the stream's.
pub record MayAppend (s log pass at : ℕ) (bytes : List ℕ) (past : List Entry) : Type 0 where
  pub hold : ℕ
  pub pinned : IsPinned s pass hold at (length bytes) past
  pub within : at ≤ valid_of (history past s)
  pub logged : log_of (history past s) ≡ Some log

-- a call is the pinned write of an update that has its record
pub record IsUpdate (s log : ℕ) (past : List Entry) (pass : ℕ) (done : Call) : Type 0 where
  pub it : Updating
  pub mine : it.pass ≡ pass
  pub is : done ≡ call.PinnedWrite it.hold it.at it.bytes
  pub recorded : HasRecord s log it past

-- What a done call may do to the stream: it changes bytes by an update alone, sets no size and throws no page away.
abbrev pub MayActByUpdate : ℕ → ℕ → List Entry → ℕ → Call → Act → Type 0
MayActByUpdate s log past pass call (Opens file sizes quota temporary) = Unit {0}
MayActByUpdate s log past pass call (Closes file truncate) = Unit {0}
MayActByUpdate s log past pass call (Resizes allocation size) = ⊥
MayActByUpdate s log past pass call (Writes at bytes) = IsUpdate s log past pass call
MayActByUpdate s log past pass call (Zeroes from to) = ⊥
MayActByUpdate s log past pass call (Stores page bytes) = ⊥
MayActByUpdate s log past pass call (Stamps hold lsn) = Unit {0}
MayActByUpdate s log past pass call (Discards span) = ⊥
MayActByUpdate s log past pass call Looks = Unit {0}

-- and it gives the stream no other log
pub record MayDoByUpdate (s log : ℕ) (past : List Entry) (pass : ℕ) (call : Call) : Type 0 where
  pub acts : MayActByUpdate s log past pass call (act_of call)
  pub keeps_log : log_after call (Some log) ≡ Some log

-- a row of a checkpoint: the page and the oldest LSN of a row of the dirty page table
abbrev pub row_told : DirtyRow → OldestRow
row_told row = record { stream = row.page.stream; page = row.page.page; oldest = row.oldest }

-- Since a moment a good sync of the stream came at which the image of each of its pages was known.
pub record HasSyncedSince (s : ℕ) (old past : List Entry) : Type 0 where
  pub pass : ℕ
  pub later : List Entry
  pub since : List Entry
  pub splits : past ≡ later ++ entry.Sync pass s how.Good ∷ (since ++ old)
  pub known : (p : ℕ) → 4096 * p < size_of (history (since ++ old) s) → is_known (history (since ++ old) s) p ≡ true

-- These rows may be appended as a checkpoint: they are those of the dirty pages that the log's table listed before. Each update
-- with a record in the log then had been written and set dirty; none has a record since; and the stream, if it had a map, was
-- synced since.
pub record IsCheckpoint (s log : ℕ) (rows : List OldestRow) (past : List Entry) : Type 0 where
  pub pass : ℕ
  pub nth : ℕ
  pub reply : Reply
  pub later : List Entry
  pub listed : List Entry
  pub splits : past ≡ later ++ entry.Call pass nth None (call.Query (query.DirtyPages log)) (outcome.Done reply) ∷ listed
  pub told : rows ≡ map row_told (dirty_table listed log)
  pub stamped : (lsn : ℕ) → HasRecorded s log lsn listed → WasStamped s log lsn listed
  pub none_since : list_any (records_update s log) later ≡ false
  pub synced : had_map (history listed s) ≡ true →
      HasSyncedSince s (entry.Call pass nth None (call.Query (query.DirtyPages log)) (outcome.Done reply) ∷ listed) past

-- What may be appended to the log: an entry that says an update of the stream, or a checkpoint, is one.
abbrev pub MayLogRecord : ℕ → ℕ → ℕ → Option LogRecord → List Entry → Type 0
MayLogRecord s log pass (Some (Update stream at bytes)) past = stream ≡ s → MayAppend s log pass at bytes past
MayLogRecord s log pass (Some (Checkpoint rows)) past = IsCheckpoint s log rows past
MayLogRecord s log pass None past = Unit {0}

-- What an entry of the journal is to the stream, by its kind.
abbrev pub IsUpdatedBy : ℕ → ℕ → List Entry → Entry → Type 0
IsUpdatedBy s log past (entry.Append pass handle lsn bytes) = handle ≡ log → MayLogRecord s log pass (said_by bytes) past
IsUpdatedBy s log past (entry.Call pass nth (Some stream) call (outcome.Done reply)) = stream ≡ s → MayDoByUpdate s log past pass call
IsUpdatedBy s log past other = Unit {0}

-- An entry on its front: the stream changes by updates alone, which go on to their set-dirty once their bytes are written; and
-- object 0 is open behind it if the stream has had a map.
pub record IsUpdatedEntry (s log : ℕ) (past : List Entry) (e : Entry) : Type 0 where
  pub by : IsUpdatedBy s log past e
  pub finishes : (it : Updating) → UpdateHasWritten s log it past → is_mine it.pass e ≡ true → IsStamp s it e
  pub stays_open : had_map (history (e ∷ past) s) ≡ true → is_among 0 (objects (history (e ∷ past) s)) ≡ true

-- The stream is changed by updates alone, each with its record in the log, and of checkpoints the log has none but right ones.
unfoldable pub IsUpdated : ℕ → ℕ → List Entry → Type 0
IsUpdated s log [] = Unit {0}
IsUpdated s log (e ∷ past) = IsUpdatedEntry s log past e × IsUpdated s log past
