-- What the calls without an entry of their own leave: logs, deferrals and posts, pages and ticks, read-ahead
-- steps. Each stretch has its newest entry first, and stands on a past.
use Rattle.std.specs.Prelude.{ℕ, Result, List, [], ◌∷◌, ◌++◌, true, false}
use Rattle.std.specs.declared.option.Option.{Option}
use Rattle.cc_entry.specs.declared.answer.Tick.{Tick}
use Rattle.cc_entry.specs.declared.place.Request.{Request}
use Rattle.cc_entry.specs.declared.call.Call.TheVariants as call
use Rattle.cc_entry.specs.declared.reply.Reply.TheVariants as reply
use Rattle.cc_entry.specs.declared.error.CcError.{CcError}
use Rattle.cc_entry.specs.declared.entry.Entry.{Entry}
use Rattle.cc_entry.specs.declared.entry.Entry.TheVariants as entry
use Rattle.cc_model.specs.Setup.{Setup}
use Rattle.cc_effects.specs.Moments.{Between}
use Rattle.cc_effects.specs.LogCalls.{AppendLeft, LogFlushLeft}
use Rattle.cc_effects.specs.Throttle.{DeferLeft, PostLeft}
use Rattle.cc_worked.specs.Values.{setup, a, page, opened, done, answers, read_in, begins, ends, fails}
use Rattle.cc_worked.specs.PiecesReads.{two_pages}

-- the byte 01 is appended to a log
abbrev pub AppendTo : ℕ → Result ℕ CcError → Between
AppendTo handle = AppendLeft setup 1 handle (1 ∷ [])

-- log 0 is flushed to an LSN
abbrev pub LogFlushTo : ℕ → Result ℕ CcError → Between
LogFlushTo lsn = LogFlushLeft {T = ℕ} setup 1 0 lsn

-- a write of so many bytes is deferred
abbrev pub DeferralOf : ℕ → Result ℕ CcError → Between
DeferralOf bytes = DeferLeft 1 a bytes false

-- a deferred write is posted, in a run of such a setup
abbrev pub PostIn : Setup → Result (Option ℕ) CcError → Between
PostIn u = PostLeft u 1

-- a log was flushed to LSN 3
abbrev pub flushed_to_three : List Entry
flushed_to_three = entry.Flushed 2 0 3 ∷ opened 8192 8192 ∷ []

abbrev pub appended : List Entry
appended = entry.Append 1 0 4 (1 ∷ []) ∷ []

-- wrong: the fifth log of four
abbrev pub appended_nowhere : List Entry
appended_nowhere = entry.Append 1 4 1 (1 ∷ []) ∷ []

abbrev pub log_fails : List Entry
log_fails = entry.LogFailed 1 0 ∷ []

-- a write of 4097 bytes is deferred, and posted by whom it may concern
abbrev pub deferred : List Entry
deferred = entry.Defer 1 1 a 2 false ∷ []

abbrev pub posted : List Entry
posted = entry.Posted 1 ∷ []

-- a past with that deferral
abbrev pub one_deferred : List Entry
one_deferred = deferred ++ two_pages

-- a dirty page
abbrev pub dirty : List Entry
dirty = done 1 1 (call.CopyWrite a 0 (171 ∷ [])) ∷ read_in 1 0 ∷ opened 8192 8192 ∷ []

abbrev pub page_is_written : List Entry
page_is_written = ends 17 0 ∷ begins 17 0 ∷ []

abbrev pub page_fails : List Entry
page_fails = fails 17 0 ∷ begins 17 0 ∷ []

-- wrong: it is written again after it failed
abbrev pub page_is_written_twice : List Entry
page_is_written_twice = ends 17 0 ∷ begins 17 0 ∷ page_fails

-- the page is written by the lazy writer: it was picked
abbrev pub scanned : List Entry
scanned = entry.Scan 17 (page 0 ∷ []) ∷ []

abbrev pub page_of_tick : List Entry
page_of_tick = ends 17 0 ∷ begins 17 0 ∷ scanned

abbrev pub one_written : Tick
one_written = record { picked = page 0 ∷ []; written = 1; skipped = 0; failed = 0 }

-- both pages of a stream were picked, and are written in that order
abbrev pub pages_are_written : List Entry
pages_are_written = ends 17 1 ∷ begins 17 1 ∷ page_is_written

abbrev pub both_scanned : List Entry
both_scanned = entry.Scan 17 (page 0 ∷ page 1 ∷ []) ∷ []

abbrev pub pages_of_tick : List Entry
pages_of_tick = pages_are_written ++ both_scanned

abbrev pub two_written : Tick
two_written = record { picked = page 0 ∷ page 1 ∷ []; written = 2; skipped = 0; failed = 0 }

-- wrong: the second one comes first
abbrev pub pages_out_of_order : List Entry
pages_out_of_order = page_is_written ++ (ends 17 1 ∷ begins 17 1 ∷ both_scanned)

-- a request for the second page, and its step
abbrev pub request : Request
request = record { file = a; at = 4096; len = 4096 }

abbrev pub step : List Entry
step = answers 18 1 (call.AheadStep request) (reply.Whole true) ∷ read_in 18 1 ∷ []
