-- What a line left, by its answer: a line of one call, and the lines of the calls without an entry.
use Rattle.std.specs.Prelude.{ℕ, ◌^◌, Bool, true, false, List, [], ◌∷◌, Result, Ok, Err}
use Rattle.std.specs.declared.option.Option.{Option}
use Rattle.std.specs.declared.option.Option.TheVariants.{Some, None}
use Rattle.cc_entry.specs.Place.{File, Range}
use Rattle.cc_entry.specs.declared.place.Request.{Request}
use Rattle.cc_entry.specs.declared.call.Call.{Call}
use Rattle.cc_entry.specs.declared.call.Call.TheVariants as call
use Rattle.cc_entry.specs.declared.error.CcError.{CcError}
use Rattle.cc_entry.specs.declared.error.CcError.TheVariants as error
use Rattle.cc_entry.specs.declared.reply.Reply.TheVariants as reply
use Rattle.cc_entry.specs.declared.query.Value.TheVariants as value
use Rattle.cc_entry.specs.declared.reply.Outcome.{Outcome}
use Rattle.cc_entry.specs.declared.reply.Outcome.TheVariants as outcome
use Rattle.cc_entry.specs.declared.answer.AsyncStart.TheVariants as start
use Rattle.cc_entry.specs.declared.answer.Answer.{Answer}
use Rattle.cc_entry.specs.declared.answer.Answer.TheVariants as answer
use Rattle.cc_entry.specs.declared.entry.Entry.{Entry}
use Rattle.cc_model.specs.Setup.{Setup}
use Rattle.cc_effects.specs.Moments.{Between, IsIdle}
use Rattle.cc_effects.specs.Begins.{BeginsAscending}
use Rattle.cc_effects.specs.Calls.{CallLeft}
use Rattle.cc_effects.specs.LogCalls.{AppendLeft, LogFlushLeft}
use Rattle.cc_effects.specs.Throttle.{DeferLeft, PostLeft}
use Rattle.cc_effects.specs.PageWrites.{TickLeft}
use Rattle.cc_effects.specs.ReadAhead.{AheadLeft}
use Rattle.cc_effects.specs.Levels.{LevelsLeft}
use Rattle.cc_effects.specs.Noncached.{NcReadLeft, NcWriteLeft}
use Rattle.cc_records.specs.Left.{SettleLeft}

-- a call with an entry of its own
abbrev pub CallAnswered : Setup → ℕ → Call → Answer → Between
CallAnswered u me it (answer.Given r) old new = CallLeft u me it (outcome.Done r) old new
CallAnswered u me it (answer.Refused e) old new = CallLeft u me it (outcome.Failed e) old new
CallAnswered u me it other old new = ⊥

-- a flush: whatever it was answered, the pages that it began to write ascend
pub record FlushAnswered (u : Setup) (me : ℕ) (file : File) (span : Option Range) (told : Answer) (old new : List Entry)
    : Type 0 where
  pub left : CallAnswered u me (call.Flush file span) told old new
  pub ascending : BeginsAscending me 0 (2 ^ 51) old new

-- an append to a log
abbrev pub AppendAnswered : Setup → ℕ → ℕ → List ℕ → Answer → Between
AppendAnswered u me handle bytes (answer.NewLsn lsn) old new = AppendLeft u me handle bytes (Ok lsn) old new
AppendAnswered u me handle bytes (answer.Refused e) old new = AppendLeft u me handle bytes (Err e) old new
AppendAnswered u me handle bytes other old new = ⊥

-- a flush of a log
abbrev pub LogFlushAnswered : Setup → ℕ → ℕ → ℕ → Answer → Between
LogFlushAnswered u me handle lsn (answer.Given reply.Unit) old new = LogFlushLeft {T = Unit {0}} u me handle lsn (Ok tt) old new
LogFlushAnswered u me handle lsn (answer.Refused e) old new = LogFlushLeft {T = Unit {0}} u me handle lsn (Err e) old new
LogFlushAnswered u me handle lsn other old new = ⊥

-- a deferral
abbrev pub DeferAnswered : ℕ → File → ℕ → Bool → Answer → Between
DeferAnswered me file bytes retrying (answer.Deferred id) old new = DeferLeft me file bytes retrying (Ok id) old new
DeferAnswered me file bytes retrying (answer.Refused e) old new = DeferLeft me file bytes retrying (Err e) old new
DeferAnswered me file bytes retrying other old new = ⊥

-- so many posts with these numbers, and then one that found nothing to post
abbrev pub PostsLeft : Setup → ℕ → List ℕ → Between
PostsLeft u me [] old new = PostLeft u me (Ok None) old new
PostsLeft u me (id ∷ ids) old new = (between : List Entry) × PostLeft u me (Ok (Some id)) old between × PostsLeft u me ids between new

-- so many posts, and then one that was refused
abbrev pub PostsRefused : Setup → ℕ → List ℕ → CcError → Between
PostsRefused u me [] e old new = PostLeft u me (Err e) old new
PostsRefused u me (id ∷ ids) e old new =
    (between : List Entry) × PostLeft u me (Ok (Some id)) old between × PostsRefused u me ids e between new

-- posts until there is nothing to post, or one is refused, which is told alone
abbrev pub PostsAnswered : Setup → ℕ → Answer → Between
PostsAnswered u me (answer.Posts ids) old new = PostsLeft u me ids old new
PostsAnswered u me (answer.Refused e) old new = (ids : List ℕ) × PostsRefused u me ids e old new
PostsAnswered u me other old new = ⊥

-- a tick
abbrev pub TickAnswered : ℕ → Answer → Between
TickAnswered me (answer.Ticked tick) old new = TickLeft me (Ok tick) old new
TickAnswered me (answer.Refused e) old new = TickLeft me (Err e) old new
TickAnswered me other old new = ⊥

-- a read-ahead step that took a request, or none
abbrev pub AheadAnswered : Setup → ℕ → Option Request → Answer → Between
AheadAnswered u me taken (answer.Stepped step) old new = AheadLeft u me taken (Ok step) old new
AheadAnswered u me taken (answer.Refused e) old new = AheadLeft u me taken (Err e) old new
AheadAnswered u me taken other old new = ⊥

-- a line that asks for a read-ahead step, which took a request, or none
abbrev pub StepAnswered : Setup → ℕ → Answer → Between
StepAnswered u me told old new = (taken : Option Request) × AheadAnswered u me taken told old new

-- a read that may not wait was refused, since a page was not resident
abbrev pub WasMissing : Setup → ℕ → File → ℕ → ℕ → Between
WasMissing u me file at len old new =
    (page : ℕ) × CallLeft u me (call.CopyRead file at len false) (outcome.Failed (error.NotResident page)) old new

-- A read that may be queued: it was done, or it was refused; one that was queued, or found the queue full, had been refused
-- since a page was not resident.
abbrev pub StartAnswered : Setup → ℕ → File → ℕ → ℕ → Answer → Between
StartAnswered u me file at len (answer.Started (start.Ready bytes)) old new =
    CallLeft u me (call.CopyRead file at len false) (outcome.Done (reply.Read bytes)) old new
StartAnswered u me file at len (answer.Started (start.Queued id)) old new = WasMissing u me file at len old new
StartAnswered u me file at len (answer.Refused error.QueueFull) old new = WasMissing u me file at len old new
StartAnswered u me file at len (answer.Refused (error.NotResident page)) old new = ⊥
StartAnswered u me file at len (answer.Refused e) old new =
    CallLeft u me (call.CopyRead file at len false) (outcome.Failed e) old new
StartAnswered u me file at len other old new = ⊥

-- how the entry of a read says that it ended, whose answer has these bytes, or is refused
abbrev pub bytes_outcome : Result (List ℕ) CcError → Outcome
bytes_outcome (Ok bytes) = outcome.Done (reply.Read bytes)
bytes_outcome (Err e) = outcome.Failed e

-- A step that completes a queued read: a copied read of it that waits has the answer that is told. One that found none placed
-- nothing.
abbrev pub CompletionAnswered : Setup → ℕ → Answer → Between
CompletionAnswered u me (answer.Completed None) old new = IsIdle me old new
CompletionAnswered u me (answer.Completed (Some done)) old new =
    CallLeft u me (call.CopyRead done.file done.at done.len true) (bytes_outcome done.answer) old new
CompletionAnswered u me other old new = ⊥

-- a question for the levels of a view index, over the levels of each size
abbrev pub LevelsAnswered : (ℕ → ℕ) → ℕ → File → Answer → Between
LevelsAnswered levels me file (answer.Levels n) old new = LevelsLeft levels me file (Ok n) old new
LevelsAnswered levels me file (answer.Refused e) old new = LevelsLeft levels me file (Err e) old new
LevelsAnswered levels me file other old new = ⊥

-- the settling of a stream
abbrev pub SettleAnswered : Setup → ℕ → File → Answer → Between
SettleAnswered u me file (answer.Given (reply.Value (value.State state))) old new = SettleLeft u me file (Ok state) old new
SettleAnswered u me file (answer.Refused e) old new = SettleLeft u me file (Err e) old new
SettleAnswered u me file other old new = ⊥

-- a noncached read
abbrev pub NcReadAnswered : Setup → ℕ → File → ℕ → ℕ → Answer → Between
NcReadAnswered u me file at len (answer.Given (reply.Read bytes)) old new = NcReadLeft u me file at len (Ok bytes) old new
NcReadAnswered u me file at len (answer.NcRefused done cause) old new = NcReadLeft u me file at len (Err (done, cause)) old new
NcReadAnswered u me file at len other old new = ⊥

-- a noncached write
abbrev pub NcWriteAnswered : Setup → ℕ → File → ℕ → List ℕ → Answer → Between
NcWriteAnswered u me file at bytes (answer.Count n) old new = NcWriteLeft u me file at bytes (Ok n) old new
NcWriteAnswered u me file at bytes (answer.NcRefused done cause) old new = NcWriteLeft u me file at bytes (Err (done, cause)) old new
NcWriteAnswered u me file at bytes other old new = ⊥
