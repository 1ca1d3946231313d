-- What the settling of a stream knows and leaves on its way, and at its end.
use Rattle.std.specs.Prelude.{◌≡◌, ℕ, ◌^◌, ◌≤◌, ◌⊎◌, true, Result, Ok, Err, List, ◌++◌}
use Rattle.std.specs.declared.option.Option.TheVariants.{None}
use Rattle.cc_entry.specs.Place.{File}
use Rattle.cc_entry.specs.declared.call.Call.TheVariants as call
use Rattle.cc_entry.specs.declared.entry.End.{End}
use Rattle.cc_entry.specs.declared.entry.End.TheVariants as how
use Rattle.cc_entry.specs.declared.entry.Entry.{Entry}
use Rattle.cc_entry.specs.declared.entry.Entry.TheVariants as entry
use Rattle.cc_entry.specs.declared.error.CcError.{CcError}
use Rattle.cc_entry.specs.declared.error.CcError.TheVariants as error
use Rattle.cc_entry.specs.declared.place.FileState.{FileState}
use Rattle.cc_entry.specs.declared.reply.Outcome.TheVariants as outcome
use Rattle.cc_entry.specs.declared.reply.Reply.TheVariants as reply
use Rattle.cc_effects.specs.Calls.{CallLeft}
use Rattle.cc_effects.specs.Moments.{IsIdle, PlacedOnly, Between}
use Rattle.cc_model.specs.Good.{IsGood, IsGoodSoFar}
use Rattle.cc_model.specs.History.{history}
use Rattle.cc_model.specs.Records.{MayTellValid}
use Rattle.cc_model.specs.Setup.{Setup}
use Rattle.cc_model.specs.Touches.{valid_of}
use Rattle.cc_model.specs.Turns.{Device, is_quiet}
use Rattle.cc_records.specs.Left.{WroteRecord, WroteSome, SyncedRecord, RecordStopped, SettleLeft}
use Rattle.cc_turns.specs.Standing.{Standing}
use Rattle.cc_writes.specs.Calls.{IsFullWriting}
use Rattle.cc_writes.specs.Fetch.{WentOn}
use Rattle.cc_stored.specs.declared.record.Lengths.{Lengths}

-- Whatever others place without the turn of the stream's disk: a valid data length may be told on the disk that is no more than
-- this one and no more than the stream's then.
abbrev pub TellsAfter : Standing → ℕ → ℕ → Type 0
TellsAfter w s first =
    (later : List Entry) → is_quiet (Device s) later ≡ true → IsGoodSoFar w.setup (later ++ w.seen) → (valid : ℕ) → valid ≤ first →
    valid ≤ valid_of (history (later ++ w.seen) s) → MayTellValid (history (later ++ w.seen) s) valid

-- what is answered where a write of the record, or the sync behind it, ended so
abbrev pub record_answer : End → Lengths → Result Lengths CcError
record_answer how.Good lengths = Ok lengths
record_answer how.Failed lengths = Err (error.WriteFault (2 ^ 51))
record_answer how.NoMemory lengths = Err error.NoMemory

abbrev pub sync_answer : End → Result (Unit {0}) CcError
sync_answer how.Good = Ok tt
sync_answer how.Failed = Err (error.WriteFault (2 ^ 51))
sync_answer how.NoMemory = Err error.NoMemory

-- The record was written, or not.
abbrev pub RecordWriteLeft : ℕ → ℕ → ℕ → Result Lengths CcError → Between
RecordWriteLeft me s first (Ok lengths) old new = WroteRecord me s first lengths.size lengths.valid how.Good old new
RecordWriteLeft me s first (Err (error.JournalFull entries)) old new = IsIdle me old new
RecordWriteLeft me s first (Err error.NoMemory) old new = IsIdle me old new ⊎ WroteSome me s first how.NoMemory old new
RecordWriteLeft me s first (Err (error.WriteFault page)) old new = (page ≡ 2 ^ 51) × WroteSome me s first how.Failed old new
RecordWriteLeft me s first (Err other) old new = ⊥

-- The disk was synced, or not.
abbrev pub SyncLeft : ℕ → ℕ → Result (Unit {0}) CcError → Between
SyncLeft me s (Ok done) old new = PlacedOnly me (entry.Sync me s how.Good) old new
SyncLeft me s (Err (error.JournalFull entries)) old new = IsIdle me old new
SyncLeft me s (Err error.NoMemory) old new = IsIdle me old new ⊎ PlacedOnly me (entry.Sync me s how.NoMemory) old new
SyncLeft me s (Err (error.WriteFault page)) old new = (page ≡ 2 ^ 51) × PlacedOnly me (entry.Sync me s how.Failed) old new
SyncLeft me s (Err other) old new = ⊥

-- The record was written and the disk synced, or not.
abbrev pub RecordLeft : ℕ → ℕ → ℕ → Result Lengths CcError → Between
RecordLeft me s first (Ok lengths) old new = SyncedRecord me s first lengths.size lengths.valid how.Good old new
RecordLeft me s first (Err e) old new = RecordStopped me s first e old new

-- From the moment `begun` on, behind others' entries, the stream was flushed.
pub record StreamIsFlushed (u : Setup) (me : ℕ) (file : File) (begun old new : List Entry) : Type 0 where
  pub idle : IsIdle me old begun
  pub flush : CallLeft u me (call.Flush file None) (outcome.Done reply.Unit) begun new

-- The stream was flushed, and its record written behind that and synced, or not.
pub record IsRecorded (u : Setup) (me : ℕ) (file : File) (answer : Result Lengths CcError) (old new : List Entry) : Type 0 where
  pub begun : List Entry
  pub flushed : List Entry
  pub is_flushed : StreamIsFlushed u me file begun old flushed
  pub left : RecordLeft me file.stream (valid_of (history begun file.stream)) answer flushed new

-- The flush failed.
pub record HasNotFlushed (u : Setup) (me : ℕ) (file : File) (e : CcError) (old new : List Entry) : Type 0 where
  pub begun : List Entry
  pub idle : IsIdle me old begun
  pub flush : CallLeft u me (call.Flush file None) (outcome.Failed e) begun new

-- What the settling of a stream leaves behind its state.
abbrev pub HeldLeft : Setup → ℕ → File → Result Lengths CcError → Between
HeldLeft u me file (Ok lengths) old new = IsRecorded u me file (Ok lengths) old new
HeldLeft u me file (Err e) old new = HasNotFlushed u me file e old new ⊎ IsRecorded u me file (Err e) old new

-- a state with the lengths that a record tells
abbrev pub with_lengths : FileState → Result Lengths CcError → Result FileState CcError
with_lengths state (Ok lengths) = Ok (record state { sizes = record state.sizes { size = lengths.size; valid = lengths.valid } })
with_lengths state (Err e) = Err e

-- What the settling of a stream leaves behind its state, which was told so.
abbrev pub StatedLeft : Setup → ℕ → File → FileState → Result FileState CcError → Between
StatedLeft u me file state (Ok answer) old new =
    IsRecorded u me file (Ok (record { size = answer.sizes.size; valid = answer.sizes.valid })) old new
    × (answer.sizes.allocation ≡ state.sizes.allocation) × (answer.log ≡ state.log)
StatedLeft u me file state (Err e) old new = HeldLeft u me file (Err e) old new

pub record StatedEnds (old new : Standing) (file : File) (state : FileState) (answer : Result FileState CcError) : Type 0 where
  pub left : StatedLeft old.setup old.number file state answer old.seen new.seen
  pub full : IsFullWriting (call.Flush file None) new answer
  pub goes_on : WentOn old new
  pub good : IsGood old.setup new.seen

-- A stream was settled, or not: it left what explains the answer; a journal that is told to be full is full, or a page is to be
-- written then and there is no room for its transfer; the pass goes on as it stood and may call again, and what it has seen is
-- good.
pub record SettleEnds (old new : Standing) (file : File) (answer : Result FileState CcError) : Type 0 where
  pub left : SettleLeft old.setup old.number file answer old.seen new.seen
  pub full : IsFullWriting (call.Flush file None) new answer
  pub goes_on : WentOn old new
  pub good : IsGood old.setup new.seen
