-- What the calls on the record of a stream leave: its read, and the settling of its stream. The record stands in page 2 ^ 51 of
-- the stream's disk, past every data page.
use Rattle.std.specs.Prelude.{◌≡◌, ℕ, ◌^◌, ◌⊎◌, min, Result, Ok, Err, List, ◌∷◌, ◌++◌}
use Rattle.std.specs.declared.option.Option.TheVariants.{None}
use Rattle.cc_entry.specs.Place.{File}
use Rattle.cc_entry.specs.declared.call.Call.TheVariants as call
use Rattle.cc_entry.specs.declared.query.Query.TheVariants as query
use Rattle.cc_entry.specs.declared.entry.End.{End}
use Rattle.cc_entry.specs.declared.entry.End.TheVariants as how
use Rattle.cc_entry.specs.declared.entry.Entry.TheVariants as entry
use Rattle.cc_entry.specs.declared.error.CcError.{CcError}
use Rattle.cc_entry.specs.declared.error.CcError.TheVariants as error
use Rattle.cc_entry.specs.declared.place.FileState.{FileState}
use Rattle.cc_entry.specs.declared.reply.Outcome.TheVariants as outcome
use Rattle.cc_entry.specs.declared.reply.Reply.TheVariants as reply
use Rattle.cc_entry.specs.declared.query.Value.TheVariants as value
use Rattle.cc_entry.specs.declared.entry.Entry.{Entry}
use Rattle.cc_effects.specs.Calls.{CallLeft}
use Rattle.cc_effects.specs.Moments.{IsIdle, PlacedOnly, Between}
use Rattle.cc_model.specs.History.{history}
use Rattle.cc_model.specs.Setup.{Setup}
use Rattle.cc_model.specs.Touches.{size_of, valid_of}

-- The record of a stream was read, or not: the pass placed nothing, but that the disk failed to read it.
abbrev pub LoadLeft : {A : Type 0} → ℕ → ℕ → Result A CcError → Between
LoadLeft me s (Ok told) old new = IsIdle me old new
LoadLeft me s (Err (error.ReadFault page)) old new = (page ≡ 2 ^ 51) × PlacedOnly me (entry.RecordFailed me s) old new
LoadLeft me s (Err (error.JournalFull entries)) old new = IsIdle me old new
LoadLeft me s (Err error.NoMemory) old new = IsIdle me old new
LoadLeft me s (Err other) old new = ⊥

-- A write of the record ended so: it tells the size of its front, and the lesser of the valid data length there and of `first`.
-- The pass placed nothing else.
pub record WroteRecord (me s first size valid : ℕ) (end : End) (old new : List Entry) : Type 0 where
  pub front : List Entry
  pub before : IsIdle me old front
  pub its_size : size ≡ size_of (history front s)
  pub its_valid : valid ≡ min first (valid_of (history front s))
  pub after : IsIdle me (entry.Record me s size valid end ∷ front) new

-- so of some size and valid data length
pub record WroteSome (me s first : ℕ) (end : End) (old new : List Entry) : Type 0 where
  pub size : ℕ
  pub valid : ℕ
  pub wrote : WroteRecord me s first size valid end old new

-- The record of this size and valid data length was written well, and then the disk's sync ended so.
pub record SyncedRecord (me s first size valid : ℕ) (end : End) (old new : List Entry) : Type 0 where
  pub written : List Entry
  pub wrote : WroteRecord me s first size valid how.Good old written
  pub synced : PlacedOnly me (entry.Sync me s end) written new

-- so of some size and valid data length
pub record SyncedSome (me s first : ℕ) (end : End) (old new : List Entry) : Type 0 where
  pub size : ℕ
  pub valid : ℕ
  pub synced : SyncedRecord me s first size valid end old new

-- The record was not written and synced, by cases over the error: there was no room for an entry, or no memory; or the disk
-- failed, which is told of the record's page.
abbrev pub RecordStopped : ℕ → ℕ → ℕ → CcError → Between
RecordStopped me s first (error.JournalFull entries) old new = IsIdle me old new ⊎ WroteSome me s first how.Good old new
RecordStopped me s first error.NoMemory old new =
    (IsIdle me old new ⊎ WroteSome me s first how.NoMemory old new)
    ⊎ (WroteSome me s first how.Good old new ⊎ SyncedSome me s first how.NoMemory old new)
RecordStopped me s first (error.WriteFault page) old new =
    (page ≡ 2 ^ 51) × (WroteSome me s first how.Failed old new ⊎ SyncedSome me s first how.Failed old new)
RecordStopped me s first other old new = ⊥

-- The state of a file was told, and then, from the moment `begun` on, its whole stream was flushed.
pub record StreamHasFlushed (u : Setup) (me : ℕ) (file : File) (told : FileState) (begun old new : List Entry) : Type 0 where
  pub stated : List Entry
  pub state : CallLeft u me (call.Query (query.State file)) (outcome.Done (reply.Value (value.State told))) old stated
  pub idle : IsIdle me stated begun
  pub flush : CallLeft u me (call.Flush file None) (outcome.Done reply.Unit) begun new

-- A stream was settled: its state was told, it was flushed, and its record was written and the disk synced. The record tells the
-- size of its front, and the lesser of the valid data lengths there and as the flush began; these are answered, and else what
-- the state had.
pub record StreamIsSettled (u : Setup) (me : ℕ) (file : File) (answer : FileState) (old new : List Entry) : Type 0 where
  pub told : FileState
  pub begun : List Entry
  pub flushed : List Entry
  pub has_flushed : StreamHasFlushed u me file told begun old flushed
  pub recorded :
      SyncedRecord me file.stream (valid_of (history begun file.stream)) answer.sizes.size answer.sizes.valid how.Good flushed new
  pub allocation : answer.sizes.allocation ≡ told.sizes.allocation
  pub log : answer.log ≡ told.log

-- The flush failed behind the state.
pub record IsUnflushed (u : Setup) (me : ℕ) (file : File) (e : CcError) (old new : List Entry) : Type 0 where
  pub told : FileState
  pub stated : List Entry
  pub state : CallLeft u me (call.Query (query.State file)) (outcome.Done (reply.Value (value.State told))) old stated
  pub begun : List Entry
  pub idle : IsIdle me stated begun
  pub flush : CallLeft u me (call.Flush file None) (outcome.Failed e) begun new

-- The record was not written and synced behind the flush.
pub record IsUnrecorded (u : Setup) (me : ℕ) (file : File) (e : CcError) (old new : List Entry) : Type 0 where
  pub told : FileState
  pub begun : List Entry
  pub flushed : List Entry
  pub has_flushed : StreamHasFlushed u me file told begun old flushed
  pub stopped : RecordStopped me file.stream (valid_of (history begun file.stream)) e flushed new

-- What the settling of a stream leaves, by cases over its answer: it was settled; or its state was refused, or its flush failed,
-- or its record.
abbrev pub SettleLeft : Setup → ℕ → File → Result FileState CcError → Between
SettleLeft u me file (Ok answer) old new = StreamIsSettled u me file answer old new
SettleLeft u me file (Err e) old new =
    CallLeft u me (call.Query (query.State file)) (outcome.Failed e) old new
    ⊎ (IsUnflushed u me file e old new ⊎ IsUnrecorded u me file e old new)
