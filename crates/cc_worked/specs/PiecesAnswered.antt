-- What lines leave by their answers: lines of one call, and of the calls without an entry. Each stretch has its
-- newest entry first, and stands on a past.
use Rattle.std.specs.Prelude.{ℕ, suc, true, false, List, [], ◌∷◌, replicate}
use Rattle.std.specs.declared.option.Option.{Option}
use Rattle.cc_entry.specs.declared.answer.Answer.{Answer}
use Rattle.cc_entry.specs.declared.answer.Tick.{Tick}
use Rattle.cc_entry.specs.declared.answer.AheadDone.{AheadDone}
use Rattle.cc_entry.specs.declared.call.Call.{Call}
use Rattle.cc_entry.specs.declared.call.Call.TheVariants as call
use Rattle.cc_entry.specs.declared.error.CcError.TheVariants as error
use Rattle.cc_entry.specs.declared.place.Request.{Request}
use Rattle.cc_entry.specs.declared.entry.Entry.{Entry}
use Rattle.cc_entry.specs.declared.entry.Entry.TheVariants as entry
use Rattle.cc_model.specs.Setup.{Setup}
use Rattle.cc_effects.specs.Moments.{Between}
use Rattle.cc_pieces.specs.Answered.{CallAnswered, AppendAnswered, LogFlushAnswered, DeferAnswered, PostsAnswered}
use Rattle.cc_pieces.specs.Answered.{TickAnswered, AheadAnswered, LevelsAnswered, NcReadAnswered, NcWriteAnswered}
use Rattle.cc_worked.specs.Values.{setup, a, page, done, refused, goes_out, begins, ends}
use Rattle.cc_worked.specs.PiecesWithoutEntry.{request}

-- a line of one call
abbrev pub CallLine : Call → Answer → Between
CallLine it = CallAnswered setup 1 it

-- the byte 01 is appended to log 0
abbrev pub AppendLine : Answer → Between
AppendLine = AppendAnswered setup 1 0 (1 ∷ [])

-- a log is flushed to an LSN
abbrev pub LogFlushLine : ℕ → ℕ → Answer → Between
LogFlushLine handle lsn = LogFlushAnswered setup 1 handle lsn

-- a write of 4097 bytes is deferred
abbrev pub DeferLine : Answer → Between
DeferLine = DeferAnswered 1 a 4097 false

-- deferred writes are posted, in a run of such a setup
abbrev pub PostsLine : Setup → Answer → Between
PostsLine u = PostsAnswered u 1

-- the lazy writer ticks, and the read-ahead worker takes a step
abbrev pub TickLine : Answer → Between
TickLine = TickAnswered 17

abbrev pub AheadLine : Option Request → Answer → Between
AheadLine = AheadAnswered setup 18

-- the levels are asked, where a size has one more of them than it has bytes
abbrev pub LevelsLine : Answer → Between
LevelsLine = LevelsAnswered suc 1 a

-- a noncached read from a place on, of so many bytes
abbrev pub NcReadLine : ℕ → ℕ → Answer → Between
NcReadLine at len = NcReadAnswered setup 1 a at len

-- a noncached write of bytes, from the first place on
abbrev pub NcWriteLine : List ℕ → Answer → Between
NcWriteLine bytes = NcWriteAnswered setup 1 a 0 bytes

-- a log is flushed to LSN 4
abbrev pub flushed_to_four : List Entry
flushed_to_four = entry.Flushed 1 0 4 ∷ []

-- a tick that found nothing to write
abbrev pub none_picked : Tick
none_picked = record { picked = []; written = 0; skipped = 0; failed = 0 }

-- the request for the second page was served
abbrev pub step_done : AheadDone
step_done = record { request = request; whole = true }

-- the request for the first page, which no step served
abbrev pub first_request : Request
first_request = record { file = a; at = 0; len = 4096 }

-- the page of the request was not read
abbrev pub step_fails : List Entry
step_fails = refused 18 1 (call.AheadStep request) (error.ReadFault 1) ∷ entry.FillFailed 18 (page 1) ∷ []

-- a noncached write of a byte is refused for its first page
abbrev pub one_byte_is_refused : List Entry
one_byte_is_refused = refused 1 1 (call.NcWrite a 0) error.Unaligned ∷ []

-- the bytes of a page
abbrev pub whole_page : List ℕ
whole_page = replicate 4096 171

-- they are stored, and their transfer begins
abbrev pub page_is_stored : List Entry
page_is_stored = begins 1 0 ∷ done 1 1 (call.NcStore a 0 whole_page) ∷ []

-- it ends, the page goes out again, and the write ends
abbrev pub page_is_written : List Entry
page_is_written = done 1 2 (call.NcWrite a 0) ∷ goes_out 1 0 ∷ ends 1 0 ∷ page_is_stored
