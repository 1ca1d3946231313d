-- Answers as they are printed.
use Rattle.std.specs.Prelude.{ℕ, Bool, true, false, List, [], ◌∷◌, ◌++◌, Option, Some, None, Result, Ok, Err, codes, decimal, length}
use Rattle.std.specs.List.{flat_map}
use Rattle.cc_entry.specs.Errors.{number_of, name_of}
use Rattle.cc_entry.specs.declared.error.CcError.{CcError}
use Rattle.cc_entry.specs.declared.error.CcError.TheVariants as error
use Rattle.cc_entry.specs.declared.place.DirtyRow.{DirtyRow}
use Rattle.cc_entry.specs.declared.place.Request.{Request}
use Rattle.cc_entry.specs.declared.answer.AheadDone.{AheadDone}
use Rattle.cc_entry.specs.declared.answer.AsyncStart.{AsyncStart}
use Rattle.cc_entry.specs.declared.answer.AsyncStart.TheVariants as start
use Rattle.cc_entry.specs.declared.answer.AsyncDone.{AsyncDone}
use Rattle.cc_entry.specs.declared.answer.Tick.{Tick}
use Rattle.cc_entry.specs.declared.answer.Answer.{Answer}
use Rattle.cc_entry.specs.declared.answer.Answer.TheVariants as answer
use Rattle.cc_entry.specs.declared.reply.Reply.{Reply}
use Rattle.cc_entry.specs.declared.reply.Reply.TheVariants as reply
use Rattle.cc_script.specs.declared.script.StreamLine.{StreamLine}
use Rattle.cc_print.specs.Append.{◌&◌}
use Rattle.cc_print.specs.Words.{page_text, request_text, bytes_text}
use Rattle.cc_print.specs.Queries.{value_text}

-- the numbers of a refusal, each behind a space
abbrev pub error_numbers : CcError → List ℕ
error_numbers error.NotCached = []
error_numbers (error.BeyondSize n) = codes " " & decimal n
error_numbers (error.BeyondValid n) = codes " " & decimal n
error_numbers (error.TooLong n) = codes " " & decimal n
error_numbers error.ViewBoundary = []
error_numbers error.Unaligned = []
error_numbers error.BadSizes = []
error_numbers (error.Held n) = codes " " & decimal n
error_numbers (error.Busy n) = codes " " & decimal n
error_numbers (error.NoViews active quota) = codes " " & decimal active & codes " " & decimal quota
error_numbers (error.NotResident n) = codes " " & decimal n
error_numbers (error.NoVacbs n) = codes " " & decimal n
error_numbers (error.JournalFull n) = codes " " & decimal n
error_numbers (error.ReadFault n) = codes " " & decimal n
error_numbers (error.WriteFault n) = codes " " & decimal n
error_numbers (error.LogFault n) = codes " " & decimal n
error_numbers (error.LogFull n) = codes " " & decimal n
error_numbers error.QueueFull = []
error_numbers error.NoMemory = []
error_numbers error.BadGranularity = []
error_numbers (error.NoLog n) = codes " " & decimal n
error_numbers (error.Unsettled n) = codes " " & decimal n
error_numbers (error.Grown n) = codes " " & decimal n
error_numbers (error.GapTooLong n) = codes " " & decimal n
error_numbers (error.LockConflict n) = codes " " & decimal n

-- a refusal: its number, its name, then its numbers
abbrev pub error_text : CcError → List ℕ
error_text e = codes "error " & decimal (number_of e) & codes " " & name_of e & error_numbers e

-- a row of the dirty pages of a log
abbrev pub row_text : List StreamLine → DirtyRow → List ℕ
row_text streams row =
    codes "; " & page_text streams row.page & codes " " & decimal row.oldest & codes " " & decimal row.newest

abbrev pub rows_text : List StreamLine → List DirtyRow → List ℕ
rows_text streams rows = flat_map (λ row. row_text streams row) rows

abbrev pub counted_rows : List StreamLine → List DirtyRow → List ℕ
counted_rows streams rows = (codes "ok rows " ++ decimal (length rows)) ++ rows_text streams rows

-- a read-ahead request with what stands behind it, if there is one
abbrev pub ahead_text : List StreamLine → Option Request → List ℕ → List ℕ
ahead_text streams (Some request) behind = codes "ok " & request_text streams request & behind
ahead_text streams None behind = codes "ok none"

-- whether every page of a request is resident
abbrev pub whole_word : Bool → List ℕ
whole_word true = codes " whole"
whole_word false = codes " part"

abbrev pub stepped_text : List StreamLine → Option AheadDone → List ℕ
stepped_text streams (Some done) = ahead_text streams (Some done.request) (whole_word done.whole)
stepped_text streams None = ahead_text streams None []

-- what a call answered that is done
abbrev pub reply_text : List StreamLine → Reply → List ℕ
reply_text streams reply.Unit = codes "ok"
reply_text streams (reply.Read bytes) = codes "ok " & bytes_text bytes
reply_text streams (reply.Hold id) = codes "ok hold " & decimal id
reply_text streams (reply.Value found) = codes "ok " & value_text found
reply_text streams (reply.Rows rows) = counted_rows streams rows
reply_text streams (reply.Ahead ahead) = ahead_text streams ahead []
reply_text streams (reply.Whole whole) = codes "ok" & whole_word whole

-- ids, each behind a space
abbrev pub more_ids : List ℕ → List ℕ
more_ids ids = flat_map (λ id. codes " " & decimal id) ids

-- the deferred writes that were posted; `-` for none
abbrev pub ids_text : List ℕ → List ℕ
ids_text [] = codes "ok posted -"
ids_text (id ∷ ids) = codes "ok posted" & more_ids (id ∷ ids)

abbrev pub tick_text : Tick → List ℕ
tick_text tick =
    codes "ok tick picked " & decimal (length tick.picked)
    & codes " written " & decimal tick.written
    & codes " skipped " & decimal tick.skipped
    & codes " failed " & decimal tick.failed

-- a queued read's bytes or refusal
abbrev pub read_text : Result (List ℕ) CcError → List ℕ
read_text (Ok bytes) = codes "ok " & bytes_text bytes
read_text (Err e) = error_text e

-- a read that was answered at once, or its number in the queue
abbrev pub started_text : AsyncStart → List ℕ
started_text (start.Ready bytes) = codes "ok " & bytes_text bytes
started_text (start.Queued id) = codes "ok queued " & decimal id.n

-- a queued read that was completed: who queued it, its number, and its answer
abbrev pub completed_text : Option AsyncDone → List ℕ
completed_text (Some done) = codes "ok done t" & decimal done.id.pass & codes " " & decimal done.id.n & codes " " & read_text done.answer
completed_text None = codes "ok none"

-- the answer of a line
abbrev pub answer_text : List StreamLine → Answer → List ℕ
answer_text streams (answer.Given r) = reply_text streams r
answer_text streams (answer.Refused e) = error_text e
answer_text streams (answer.NcRefused done cause) = error_text cause & codes " done " & decimal done
answer_text streams (answer.Count bytes) = codes "ok count " & decimal bytes
answer_text streams (answer.NewLsn lsn) = codes "ok lsn " & decimal lsn
answer_text streams (answer.Ticked tick) = tick_text tick
answer_text streams (answer.Posts ids) = ids_text ids
answer_text streams (answer.Deferred id) = codes "ok deferred " & decimal id
answer_text streams (answer.Levels levels) = codes "ok levels " & decimal levels
answer_text streams (answer.Stepped stepped) = stepped_text streams stepped
answer_text streams (answer.Started started) = started_text started
answer_text streams (answer.Completed completed) = completed_text completed
answer_text streams (answer.Restarted updates) = codes "ok restart " & decimal updates
answer_text streams (answer.LockId id) = codes "ok lock " & decimal id
answer_text streams answer.NoHold = codes "no hold"
answer_text streams answer.NotNow = codes "not now"
answer_text streams answer.Faulted = codes "faulted"
