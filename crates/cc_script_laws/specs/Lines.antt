-- Which lines of a script leave a stream to its updates: no other of its lines changes its bytes or its size, closes its first object,
-- gives it another log, or gives its log a record that a restart would read as an update of the stream or as a checkpoint.
use Rattle.std.specs.Prelude.{◌≡◌, ℕ, ◌^◌, ◌==◌, ◌&&◌, ◌||◌, nat_lt, not, Bool, true, false, List, ◌∷◌, ◌++◌, drop, length}
use Rattle.std.specs.declared.option.Option.{Option}
use Rattle.std.specs.declared.option.Option.TheVariants.{Some, None}
use Rattle.cc_entry.specs.Place.{File}
use Rattle.cc_entry.specs.declared.answer.Answer.{Answer}
use Rattle.cc_entry.specs.declared.answer.Answer.TheVariants as answer
use Rattle.cc_entry.specs.declared.entry.End.TheVariants as how
use Rattle.cc_entry.specs.declared.entry.Entry.{Entry}
use Rattle.cc_entry.specs.declared.entry.Entry.TheVariants as entry
use Rattle.cc_entry.specs.declared.call.Call.TheVariants as call
use Rattle.cc_entry.specs.declared.query.Query.TheVariants as query
use Rattle.cc_entry.specs.declared.error.CcError.{CcError}
use Rattle.cc_entry.specs.declared.reply.Outcome.TheVariants as outcome
use Rattle.cc_pieces.specs.Explained.{Answered, GivenToRun}
use Rattle.cc_pieces.specs.Runs.{asked_of}
use Rattle.cc_pieces.specs.Shim.{IsForWant}
use Rattle.cc_redo.specs.Reading.{said_by}
use Rattle.cc_redo.specs.declared.record.LogRecord.{LogRecord}
use Rattle.cc_redo.specs.declared.record.LogRecord.TheVariants.{Update, Checkpoint}
use Rattle.cc_script.specs.declared.script.Action.{Action}
use Rattle.cc_script.specs.declared.script.Action.TheVariants as action
use Rattle.cc_update_laws.specs.Keeping.{AreKnown, AreStamped, HasCheckpoint}

-- whether a file is of another stream
abbrev pub is_apart : ℕ → File → Bool
is_apart s file = not (file.stream == s)

-- whether a record says neither an update of the stream nor a checkpoint
abbrev pub says_neither : ℕ → Option LogRecord → Bool
says_neither s None = true
says_neither s (Some (Update stream at bytes)) = not (stream == s)
says_neither s (Some (Checkpoint rows)) = false

-- Whether a line leaves the stream to its updates. Of a line that writes through a word it is not asked of which stream the word's hold
-- is: a script has none. The numbers of an update fit the bytes in which its record spells them, and so does an LSN with which a line
-- sets a hold dirty, in the record of a checkpoint; a checkpoint asks the stream.
abbrev pub leaves_to_updates : ℕ → ℕ → Action → Bool
leaves_to_updates s log (action.Uninitialise file truncate) = is_apart s file || not (file.object == 0)
leaves_to_updates s log (action.CopyWrite file at bytes) = is_apart s file
leaves_to_updates s log (action.Zero file span) = is_apart s file
leaves_to_updates s log (action.PreparePin file at len word true exclusive) = is_apart s file
leaves_to_updates s log (action.PinnedWrite word at bytes) = false
leaves_to_updates s log (action.MdlStore word at bytes) = false
leaves_to_updates s log (action.SetDirty word (Some lsn)) = nat_lt lsn (2 ^ 64)
leaves_to_updates s log (action.SetSizes file allocation size) = is_apart s file
leaves_to_updates s log (action.Discard file span) = is_apart s file
leaves_to_updates s log (action.NcWrite file at bytes) = is_apart s file
leaves_to_updates s log (action.Write file at bytes) = is_apart s file
leaves_to_updates s log (action.Update file at bytes) =
    nat_lt file.stream 255 && (nat_lt at (2 ^ 64) && nat_lt (length bytes) (2 ^ 32))
leaves_to_updates s log (action.SetLog file handle) = is_apart s file || handle == log
leaves_to_updates s log (action.Checkpoint streams handle) = not (handle == log) || nat_lt s streams
leaves_to_updates s log (action.Append handle bytes) = not (handle == log) || says_neither s (said_by bytes)
leaves_to_updates s log other = true

-- whether a line that may change a stream makes one call or one append, so that it changes nothing where it is refused
abbrev pub is_one_call : Action → Bool
is_one_call (action.Uninitialise file truncate) = true
is_one_call (action.CopyWrite file at bytes) = true
is_one_call (action.Zero file span) = true
is_one_call (action.PreparePin file at len word zeroed exclusive) = true
is_one_call (action.PinnedWrite word at bytes) = true
is_one_call (action.MdlStore word at bytes) = true
is_one_call (action.SetDirty word lsn) = true
is_one_call (action.SetSizes file allocation size) = true
is_one_call (action.Discard file span) = true
is_one_call (action.SetLog file handle) = true
is_one_call (action.Append handle bytes) = true
is_one_call other = false

-- whether a line was refused
abbrev pub was_refused : Answer → Bool
was_refused (answer.Refused e) = true
was_refused other = false

-- whether a line left the stream to its updates: it does so whatever it is answered, or it is one call that was refused
abbrev pub left_to_updates : ℕ → ℕ → Action → Answer → Bool
left_to_updates s log asked told = leaves_to_updates s log asked || (is_one_call asked && was_refused told)

-- whether a line is a checkpoint of the log
abbrev pub checkpoints : ℕ → Action → Bool
checkpoints log (action.Checkpoint streams handle) = handle == log
checkpoints log other = false

-- a line is not refused for want of room or of memory, where it updates the stream
abbrev pub IsUnwanting : ℕ → Action → Answer → Type 0
IsUnwanting s (action.Update file at bytes) told = file.stream ≡ s → (e : CcError) → told ≡ answer.Refused e → IsForWant e → ⊥
IsUnwanting s other told = Unit {0}

-- At each good sync of the stream that a checkpoint of the pass made, behind the table that it listed and before its record, the image of
-- each page of the stream was known.
abbrev pub IsKnownAt : ℕ → ℕ → ℕ → List Entry → Type 0
IsKnownAt s log me past =
    (between listed later during : List Entry) (it : HasCheckpoint log me between listed past) →
    between ≡ later ++ entry.Sync me s how.Good ∷ during →
    AreKnown s (during ++ entry.Call me it.nth None (call.Query (query.DirtyPages log)) (outcome.Done it.reply) ∷ listed)

-- the lines of a run with their answers, in the order of the script
abbrev pub lines_answered : GivenToRun → Answered → List (Action × Answer)
lines_answered given told = asked_of (λ line. true) given.lines (drop (length given.streams) (drop (length given.restarts) told.replies))

-- At the table of the log's dirty pages that each checkpoint listed, each recorded update of the stream had been written and set dirty.
abbrev pub AreStampedAtTables : ℕ → ℕ → List Entry → Type 0
AreStampedAtTables s log past = (me : ℕ) (between listed : List Entry) → HasCheckpoint log me between listed past → AreStamped s log listed
