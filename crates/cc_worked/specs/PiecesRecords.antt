-- What the settling of a stream leaves, and the line of a stream that is stored. Each stretch has its newest entry first, and
-- stands on a past.
use Rattle.std.specs.Prelude.{ℕ, List, [], ◌∷◌, true, false}
use Rattle.std.specs.declared.option.Option.TheVariants.{Some, None}
use Rattle.cc_entry.specs.declared.place.FileState.{FileState}
use Rattle.cc_entry.specs.declared.call.Call.TheVariants as call
use Rattle.cc_entry.specs.declared.query.Query.TheVariants as query
use Rattle.cc_entry.specs.declared.reply.Reply.TheVariants as reply
use Rattle.cc_entry.specs.declared.query.Value.TheVariants as value
use Rattle.cc_entry.specs.declared.answer.Answer.{Answer}
use Rattle.cc_entry.specs.declared.answer.Answer.TheVariants as answer
use Rattle.cc_entry.specs.declared.entry.End.TheVariants as how
use Rattle.cc_entry.specs.declared.entry.Entry.{Entry}
use Rattle.cc_entry.specs.declared.entry.Entry.TheVariants as entry
use Rattle.cc_format.specs.Spelling.{first_version_page}
use Rattle.cc_script.specs.declared.script.Action.TheVariants as action
use Rattle.cc_script.specs.declared.script.StreamLine.{StreamLine}
use Rattle.cc_model.specs.Setup.{Setup}
use Rattle.cc_effects.specs.Moments.{Between}
use Rattle.cc_pieces.specs.Openings.{Opens}
use Rattle.cc_worked.specs.Values.{setup, a, page, sized, done, answers, synced}
use Rattle.cc_worked.specs.Records.{recorded}
use Rattle.cc_worked.specs.PiecesShim.{one_page_valid}
use Rattle.cc_worked.specs.PiecesRuns.{OneLine, opens, stream_with, two_full}
use Rattle.cc_worked.specs.PiecesLocks.{tells}

-- stream 0 is settled
abbrev pub SettleLine : Answer → Between
SettleLine = OneLine (action.Settle a)

-- the state of a stream without dirty pages is told, and it is flushed
abbrev pub flushed_behind : FileState → List Entry
flushed_behind state = done 1 2 (call.Flush a None) ∷ synced 1 ∷ tells state

-- then its record is written so, and nothing follows
abbrev pub record_ends : Entry → List Entry
record_ends wrote = wrote ∷ flushed_behind two_full

-- and the disk is synced
abbrev pub settles_with : Entry → List Entry
settles_with wrote = synced 1 ∷ record_ends wrote

abbrev pub settles : List Entry
settles = settles_with (recorded 8192 8192 how.Good)

-- wrong: no record is written
abbrev pub settles_without : List Entry
settles_without = synced 1 ∷ flushed_behind two_full

-- wrong: it is written before the flush
abbrev pub settles_first : List Entry
settles_first = synced 1 ∷ done 1 2 (call.Flush a None) ∷ synced 1 ∷ recorded 8192 8192 how.Good ∷ tells two_full

-- another caller makes a byte valid behind the flush, and the record tells so many bytes
abbrev pub settles_beside : ℕ → List Entry
settles_beside valid =
    synced 1
    ∷ recorded 8192 valid how.Good
    ∷ done 2 1 (call.CopyWrite a 4096 (171 ∷ []))
    ∷ entry.PageIn 2 (page 1) false
    ∷ flushed_behind one_page_valid

-- what a stream of 8192 bytes tells, of which so many are valid
abbrev pub valid_up_to : ℕ → FileState
valid_up_to valid = record { sizes = sized 8192 valid; log = None }

-- the settling told this
abbrev pub told_state : FileState → Answer
told_state state = answer.Given (reply.Value (value.State state))

-- disks on which each page is the record of the first version, of 8192 bytes
abbrev pub first_versions : Setup
first_versions = record setup { opening = λ s. Some (λ p. first_version_page 8192) }

-- the line of a stream that is stored
abbrev pub stored : StreamLine
stored = record (stream_with None) { stored = true }

abbrev pub StoredStream : Setup → Answer → Between
StoredStream u = Opens u 0 stored None

-- its record cannot be read
abbrev pub record_fails : List Entry
record_fails = entry.RecordFailed 0 0 ∷ []

-- it is opened as a record tells of which 5001 bytes are valid
abbrev pub opens_recorded : List Entry
opens_recorded = done 0 1 (call.Initialise a (sized 8192 5001) 16 false) ∷ []

-- it is opened, its state is told, and it is flushed
abbrev pub opens_and_flushes : List Entry
opens_and_flushes =
    done 0 3 (call.Flush a None) ∷ synced 0 ∷ answers 0 2 (call.Query (query.State a)) (reply.Value (value.State two_full)) ∷ opens

-- and its record is written anew
abbrev pub migrates : List Entry
migrates = synced 0 ∷ entry.Record 0 0 8192 8192 how.Good ∷ opens_and_flushes
