-- The lines of the streams: pass 0 initialises the first object of each, with the sizes of its record where the line is stored and
-- there is one, gives it its log, and makes a record of the first version one of the second.
use Rattle.std.specs.Prelude.{◌≡◌, ℕ, suc, ◌^◌, ◌==◌, Bool, true, false, List, [], ◌∷◌, Ok, Err, ◌⊎◌}
use Rattle.std.specs.List.{list_any}
use Rattle.std.specs.declared.option.Option.{Option}
use Rattle.std.specs.declared.option.Option.TheVariants.{Some, None}
use Rattle.cc_entry.specs.Place.{File}
use Rattle.cc_entry.specs.declared.place.FileSizes.{FileSizes}
use Rattle.cc_entry.specs.declared.place.FileState.{FileState}
use Rattle.cc_entry.specs.declared.call.Call.{Call}
use Rattle.cc_entry.specs.declared.call.Call.TheVariants as call
use Rattle.cc_entry.specs.declared.error.CcError.{CcError}
use Rattle.cc_entry.specs.declared.reply.Reply.TheVariants as reply
use Rattle.cc_entry.specs.declared.reply.Outcome.TheVariants as outcome
use Rattle.cc_entry.specs.declared.answer.Answer.{Answer}
use Rattle.cc_entry.specs.declared.answer.Answer.TheVariants as answer
use Rattle.cc_entry.specs.declared.answer.LineReply.{LineReply}
use Rattle.cc_entry.specs.declared.entry.Entry.{Entry}
use Rattle.cc_entry.specs.declared.entry.Entry.TheVariants as entry
use Rattle.cc_format.specs.Spelling.{IsReadAs, recorded_size, recorded_valid}
use Rattle.cc_format.specs.declared.record.StreamRecord.{StreamRecord}
use Rattle.cc_format.specs.declared.record.StreamRecord.TheVariants.{V1}
use Rattle.cc_script.specs.declared.script.StreamLine.{StreamLine}
use Rattle.cc_script.specs.declared.script.RestartLine.{RestartLine}
use Rattle.cc_model.specs.Setup.{Setup}
use Rattle.cc_effects.specs.Moments.{IsIdle, Between}
use Rattle.cc_effects.specs.Calls.{CallLeft}
use Rattle.cc_records.specs.Left.{LoadLeft, SettleLeft}
use Rattle.cc_pieces.specs.Answered.{CallAnswered}
use Rattle.cc_pieces.specs.Rooms.{HadNoRoom}
use Rattle.cc_pieces.specs.Restarts.{refused_for}

abbrev pub first_object_of : ℕ → File
first_object_of s = record { stream = s; object = 0 }

-- the first object of the stream of this number is initialised with these sizes
abbrev pub opening_with : ℕ → StreamLine → FileSizes → Call
opening_with s stream sizes = call.Initialise (first_object_of s) sizes stream.quota stream.temporary

-- the sizes that a stream's line says
abbrev pub said_sizes : StreamLine → FileSizes
said_sizes stream = record { allocation = stream.size; size = stream.size; valid = stream.valid }

-- it is initialised with those
abbrev pub opening_call : ℕ → StreamLine → Call
opening_call s stream = opening_with s stream (said_sizes stream)

-- the sizes that a record says which was read so, or else the line
abbrev pub opening_sizes : StreamLine → Option StreamRecord → FileSizes
opening_sizes stream None = said_sizes stream
opening_sizes stream (Some told) =
    record { allocation = recorded_size told; size = recorded_size told; valid = recorded_valid told }

-- the stream is initialised with those
abbrev pub recorded_call : ℕ → StreamLine → Option StreamRecord → Call
recorded_call s stream read = opening_with s stream (opening_sizes stream read)

-- A stream is opened by this call, with such a log, or none. The answer is that of the first call that is refused, else that of
-- the last.
abbrev pub LoggedOpening : Setup → ℕ → Call → Option ℕ → Answer → Between
LoggedOpening u s it None told old new = CallAnswered u 0 it told old new
LoggedOpening u s it (Some handle) told old new =
    ((e : CcError) × (told ≡ answer.Refused e) × CallLeft u 0 it (outcome.Failed e) old new)
    ⊎ ((between : List Entry)
    × CallLeft u 0 it (outcome.Done reply.Unit) old between
    × CallAnswered u 0 (call.SetLog (first_object_of s) handle) told between new)

-- whether an entry is a write of the stream's record
abbrev pub is_record_of : ℕ → Entry → Bool
is_record_of s (entry.Record pass stream size valid how) = stream == s
is_record_of s other = false

-- What was read of a stream's record is what its opening page spells, where the disk told its pages and no record of the stream
-- was written so far.
abbrev pub IsReadAtFirst : Setup → ℕ → List Entry → Option StreamRecord → Type 0
IsReadAtFirst u s past read =
    (pages : ℕ → List ℕ) → u.opening s ≡ Some pages → list_any (is_record_of s) past ≡ false → IsReadAs (pages (2 ^ 51)) read

-- The migration of a record of the first version: the stream is settled behind its opening.
abbrev pub MigrationLeft : Setup → ℕ → Answer → Between
MigrationLeft u s (answer.Given reply.Unit) old new =
    (state : FileState) × SettleLeft u 0 (first_object_of s) (Ok state) old new
MigrationLeft u s (answer.Refused e) old new = SettleLeft u 0 (first_object_of s) (Err e) old new
MigrationLeft u s other old new = ⊥

-- The calls of a stream's line behind the read of its record, which was read so: the stream is opened with what that says, and
-- where it is of the first version, and the stream was opened, the migration follows.
abbrev pub RecordedOpening : Setup → ℕ → StreamLine → Option StreamRecord → Answer → Between
RecordedOpening u s stream (Some (V1 size)) told old new =
    ((e : CcError)
    × (told ≡ answer.Refused e)
    × LoggedOpening u s (recorded_call s stream (Some (V1 size))) stream.log told old new)
    ⊎ ((opened : List Entry)
    × LoggedOpening u s (recorded_call s stream (Some (V1 size))) stream.log (answer.Given reply.Unit) old opened
    × MigrationLeft u s told opened new)
RecordedOpening u s stream read told old new =
    LoggedOpening u s (recorded_call s stream read) stream.log told old new

-- The record of a stream was read, and then its other calls were made.
pub record IsLoaded (u : Setup) (s : ℕ) (stream : StreamLine) (told : Answer) (old new : List Entry) : Type 0 where
  pub read : Option StreamRecord
  pub loaded : List Entry
  pub load : LoadLeft 0 s (Ok read) old loaded
  pub at_first : IsReadAtFirst u s loaded read
  pub opened : RecordedOpening u s stream read told loaded new

-- The calls of a stream's line, of which the first reads its record where it is stored. Where that is refused, no further call
-- is made.
abbrev pub StreamOpening : Setup → ℕ → StreamLine → Bool → Answer → Between
StreamOpening u s stream false told old new = LoggedOpening u s (opening_call s stream) stream.log told old new
StreamOpening u s stream true told old new =
    ((e : CcError) × (told ≡ answer.Refused e) × LoadLeft {A = Option StreamRecord} 0 s (Err e) old new)
    ⊎ IsLoaded u s stream told old new

-- The line of a stream whose log was not restarted is answered by what refused that, and makes no call.
abbrev pub OpeningBehind : Setup → ℕ → StreamLine → Option CcError → Answer → Between
OpeningBehind u s stream (Some e) told old new = (told ≡ answer.Refused e) × IsIdle 0 old new
OpeningBehind u s stream None told old new = StreamOpening u s stream stream.stored told old new

-- the line of one stream
pub record Opens (u : Setup) (s : ℕ) (stream : StreamLine) (refused : Option CcError) (told : Answer) (old new : List Entry)
    : Type 0 where
  pub opened : OpeningBehind u s stream refused told old new
  pub room : (refused ≡ None) → HadNoRoom u 4 told old new

-- the lines of the streams, numbered from `s`, each with its reply, left pieces that follow each other, behind restarts
-- that were answered so
abbrev pub Opened : Setup → List RestartLine → List LineReply → ℕ → List StreamLine → List LineReply → Between
Opened u restarts ended s [] [] old new = IsIdle 0 old new
Opened u restarts ended s (stream ∷ streams) (reply ∷ replies) old new =
    (between : List Entry)
    × Opens u s stream (refused_for stream.log restarts ended) reply.answer old between
    × Opened u restarts ended (suc s) streams replies between new
Opened u restarts ended s streams replies old new = ⊥
