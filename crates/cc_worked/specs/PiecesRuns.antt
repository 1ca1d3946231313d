-- What runs leave: the lines of the streams, the lines of a caller, phases, and what a run is asked after it. Each
-- stretch has its newest entry first, and stands on a past.
use Rattle.std.specs.Prelude.{ℕ, List, [], ◌∷◌, ◌++◌, true, false}
use Rattle.std.specs.declared.option.Option.{Option}
use Rattle.std.specs.declared.option.Option.TheVariants.{Some, None}
use Rattle.cc_entry.specs.Place.{Range}
use Rattle.cc_entry.specs.declared.place.FileState.{FileState}
use Rattle.cc_entry.specs.declared.call.Call.{Call}
use Rattle.cc_entry.specs.declared.call.Call.TheVariants as call
use Rattle.cc_entry.specs.declared.query.Query.TheVariants as query
use Rattle.cc_entry.specs.declared.reply.Reply.{Reply}
use Rattle.cc_entry.specs.declared.reply.Reply.TheVariants as reply
use Rattle.cc_entry.specs.declared.query.Value.TheVariants as value
use Rattle.cc_entry.specs.declared.reply.Outcome.TheVariants as outcome
use Rattle.cc_entry.specs.declared.error.CcError.TheVariants as error
use Rattle.cc_entry.specs.declared.answer.Answer.{Answer}
use Rattle.cc_entry.specs.declared.answer.Answer.TheVariants as answer
use Rattle.cc_entry.specs.declared.answer.LineReply.{LineReply}
use Rattle.cc_entry.specs.declared.entry.End.TheVariants as how
use Rattle.cc_entry.specs.declared.entry.Entry.{Entry}
use Rattle.cc_entry.specs.declared.entry.Entry.TheVariants as entry
use Rattle.cc_script.specs.declared.script.Action.{Action}
use Rattle.cc_script.specs.declared.script.Action.TheVariants as action
use Rattle.cc_script.specs.declared.script.ActionLine.{ActionLine}
use Rattle.cc_script.specs.declared.script.StreamLine.{StreamLine}
use Rattle.cc_print.specs.declared.table.TableRow.{TableRow}
use Rattle.cc_model.specs.Setup.{Setup}
use Rattle.cc_effects.specs.Moments.{Between}
use Rattle.cc_pieces.specs.Openings.{Opens, Opened}
use Rattle.cc_pieces.specs.Served.{Served}
use Rattle.cc_pieces.specs.Phases.{Plan, PhaseRan, PhasesRan}
use Rattle.cc_pieces.specs.Explained.{GivenToRun, Answered}
use Rattle.cc_worked.specs.Values.{setup, a, b, page, sized, done, answers, refused, read_in, begins, ends, fails, synced, unit, Leaves}
use Rattle.cc_worked.specs.PiecesReads.{two_pages, first_resident, a_byte, page_comes_in}
use Rattle.cc_worked.specs.PiecesWithoutEntry.{request}

-- a stream of two pages with such a log, or none
abbrev pub stream_with : Option ℕ → StreamLine
stream_with log = record { line = 1; name = 97 ∷ []; size = 8192; valid = 8192; quota = 16; temporary = false; log = log; stored = false }

-- its first object is initialised
abbrev pub initialises : Call
initialises = call.Initialise a (sized 8192 8192) 16 false

-- that is the first call of pass 0
abbrev pub opens : List Entry
opens = done 0 1 initialises ∷ []

-- and the second gives the stream its log
abbrev pub opens_with : ℕ → List Entry
opens_with handle = done 0 2 (call.SetLog a handle) ∷ opens

-- wrong: another caller opens it
abbrev pub caller_opens : List Entry
caller_opens = done 1 1 initialises ∷ []

-- there are too few views
abbrev pub opening_is_refused : List Entry
opening_is_refused = refused 0 1 initialises (error.NoVacbs 3) ∷ []

-- wrong: the log is set all the same
abbrev pub log_all_the_same : List Entry
log_all_the_same = done 0 2 (call.SetLog a 0) ∷ opening_is_refused

-- a second stream opens after the first
abbrev pub opens_both : List Entry
opens_both = entry.Call 0 2 (Some 1) (call.Initialise b (sized 8192 8192) 16 false) (outcome.Done reply.Unit) ∷ opens

-- wrong: it opens under the number of the first
abbrev pub opens_first_twice : List Entry
opens_first_twice = done 0 2 initialises ∷ opens

-- the line of a stream with such a log, or none
abbrev pub OneStream : Option ℕ → Answer → Between
OneStream log = Opens setup 0 (stream_with log) None

-- the lines of two streams without a log
abbrev pub TwoStreams : List LineReply → Between
TwoStreams = Opened setup [] [] 0 (stream_with None ∷ stream_with None ∷ [])

-- the reply of a line that had no more to say
abbrev pub unit_at : ℕ → LineReply
unit_at line = record { line = line; answer = unit }

-- a journal of so many entries at most
abbrev pub of_capacity : ℕ → Setup
of_capacity n = record setup { capacity = n }

-- the answer that the journal is full
abbrev pub full_at : ℕ → Answer
full_at entries = answer.Refused (error.JournalFull entries)

-- a line of caller 1, which has no hold
abbrev pub OneLine : Action → Answer → Between
OneLine it = Served setup 1 [] it

-- on a stream with a resident page, such a line makes this call alone, and answers what that replies
abbrev pub MakesOneCall : Action → Call → Reply → Type 0
MakesOneCall it made r = Leaves (OneLine it) (answer.Given r) first_resident (answers 1 1 made r ∷ [])

-- that stream is flushed, of which no page is dirty
abbrev pub flushes : Option Range → List Entry
flushes span = done 1 1 (call.Flush a span) ∷ synced 1 ∷ []

-- the first bytes of a stream
abbrev pub first_bytes : Range
first_bytes = record { from = 0; to = 16 }

-- what a stream of two valid pages tells of itself
abbrev pub two_full : FileState
two_full = record { sizes = sized 8192 8192; log = None }

-- a caller reads the first byte
abbrev pub reads : Action
reads = action.CopyRead a 0 1 true

-- it asks for the sizes
abbrev pub asks : Action
asks = action.Query (query.State a)

-- it reads, and then it asks
abbrev pub reads_and_asks : List Entry
reads_and_asks = answers 1 2 (call.Query (query.State a)) (reply.Value (value.State two_full)) ∷ page_comes_in

-- wrong: it asks first
abbrev pub asks_and_reads : List Entry
asks_and_reads =
    answers 1 2 (call.CopyRead a 0 1 true) a_byte ∷ read_in 1 0 ∷ answers 1 1 (call.Query (query.State a)) (reply.Value (value.State two_full)) ∷ []

-- wrong: it asks once more
abbrev pub asks_twice : List Entry
asks_twice = answers 1 3 (call.Query (query.State a)) (reply.Value (value.State two_full)) ∷ reads_and_asks

-- the two lines with their answers
abbrev pub two_lines : List (Action × Answer)
two_lines = (reads, answer.Given a_byte) ∷ (asks, answer.Given (reply.Value (value.State two_full))) ∷ []

-- a line of a script: its number, its phase, its caller and what it does
abbrev pub line_of : ℕ → ℕ → ℕ → Action → ActionLine
line_of line phase caller it = record { line = line; phase = phase; caller = caller; fails = false; action = it }

-- a caller reads in the first phase, and asks in the second
abbrev pub of_one : List ActionLine
of_one = line_of 2 1 1 reads ∷ line_of 3 2 1 asks ∷ []

-- two callers in one phase
abbrev pub of_two : List ActionLine
of_two = line_of 2 1 1 reads ∷ line_of 3 1 2 asks ∷ []

-- the replies of the one caller's lines
abbrev pub of_one_answered : List LineReply
of_one_answered =
    record { line = 2; answer = answer.Given a_byte } ∷ record { line = 3; answer = answer.Given (reply.Value (value.State two_full)) } ∷ []

-- a plan of those lines with so many ticks and steps
abbrev pub plan_with : ℕ → ℕ → Plan
plan_with ticks aheads = record { lines = of_one; answers = of_one_answered; ticks = ticks; aheads = aheads }

-- the first phase of a run with so many ticks and steps a phase, of which these steps were made, left this piece
abbrev pub OnePhase : ℕ → ℕ → List LineReply → List Entry → Type 0
OnePhase ticks aheads stepped piece =
    PhaseRan setup (plan_with ticks aheads) 1 [] stepped [] two_pages (piece ++ two_pages)

-- both phases of a run without ticks and steps did
abbrev pub TwoPhases : List Entry → Type 0
TwoPhases piece = PhasesRan setup (plan_with 0 0) 1 2 [] [] [] two_pages (piece ++ two_pages)

-- wrong: a caller that has no line places something
abbrev pub stranger_beside : List Entry
stranger_beside = read_in 2 1 ∷ page_comes_in

-- the read-ahead worker served a request
abbrev pub one_step : LineReply
one_step = record { line = 1; answer = answer.Stepped (Some (record { request = request; whole = true })) }

-- a run of those lines on one stream
abbrev pub given : GivenToRun
given = record { restarts = []; streams = stream_with None ∷ []; lines = of_one; phases = 2; ticks = 0; aheads = 0 }

-- what it answered, where the workers were not asked
abbrev pub told_by : List LineReply → Answered
told_by replies = record { replies = replies; ticked = []; stepped = [] }

-- the reply of the stream's line, and then those of the caller's
abbrev pub all_replies : List LineReply
all_replies = unit_at 1 ∷ of_one_answered

-- wrong: the line of the stream comes last
abbrev pub stream_last : List LineReply
stream_last = of_one_answered ++ unit_at 1 ∷ []

-- wrong: a line has no reply
abbrev pub one_unanswered : List LineReply
one_unanswered = unit_at 1 ∷ record { line = 2; answer = answer.Given a_byte } ∷ []

-- a page is stamped with LSN 1 and with LSN 2, and another is written to
abbrev pub two_dirty : List Entry
two_dirty =
    done 1 4 (call.CopyWrite a 4096 (171 ∷ []))
    ∷ read_in 1 1
    ∷ done 1 3 (call.SetDirty 1 (Some 2))
    ∷ done 1 2 (call.SetDirty 1 (Some 1))
    ∷ answers 1 1 (call.PinRead a 0 16 false) (reply.Hold 1)
    ∷ read_in 1 0
    ∷ done 0 2 (call.SetLog a 0)
    ∷ opens

-- the first of them is written
abbrev pub one_dirty : List Entry
one_dirty = ends 17 0 ∷ begins 17 0 ∷ entry.Flushed 17 0 2 ∷ two_dirty

-- the row of the page with two stamps
abbrev pub stamped_row : TableRow
stamped_row = record { page = page 0; oldest = Some 1; newest = Some 2 }

-- the row of the other page
abbrev pub unstamped_row : TableRow
unstamped_row = record { page = page 1; oldest = None; newest = None }

-- a read, a write and a sync fail, another write finds no memory, and a read of another stream fails
abbrev pub three_fail : List Entry
three_fail =
    entry.Sync 1 0 how.Failed
    ∷ fails 1 0
    ∷ begins 1 0
    ∷ entry.FillFailed 1 (page 1)
    ∷ entry.FillFailed 1 (record { stream = 1; page = 0 })
    ∷ entry.WriteEnd 1 (page 0) how.NoMemory
    ∷ begins 1 0
    ∷ []
