-- Lines in longer stretches, one more line of a caller, and the lines that a caller has.
use Rattle.std.specs.Prelude.{◌≡◌, ℕ, ◌<◌, ◌^◌, Bool, true, false, List, [], ◌∷◌, ◌++◌, ◌||◌, length, refl, if◌then◌else◌, Result, Ok, Err}
use Rattle.std.specs.declared.option.Option.{Option}
use Rattle.std.specs.declared.option.Option.TheVariants.{Some, None}
use Rattle.std.proofs.Common.{ap, arith}
use Rattle.cc_entry.specs.Place.{File, Range}
use Rattle.cc_entry.specs.Kinds.{is_map, is_pin, is_repin, is_read_chain, is_write_chain}
use Rattle.cc_entry.specs.declared.hold.HoldKind.{HoldKind}
use Rattle.cc_entry.specs.declared.call.Call.{Call}
use Rattle.cc_entry.specs.declared.call.Call.TheVariants as call
use Rattle.cc_entry.specs.declared.error.CcError.{CcError}
use Rattle.cc_entry.specs.declared.error.CcError.TheVariants as error
use Rattle.cc_entry.specs.declared.reply.Reply.TheVariants as reply
use Rattle.cc_entry.specs.declared.reply.Outcome.{Outcome}
use Rattle.cc_entry.specs.declared.reply.Outcome.TheVariants as outcome
use Rattle.cc_entry.specs.declared.answer.AsyncStart.TheVariants as start
use Rattle.cc_entry.specs.declared.answer.Answer.{Answer}
use Rattle.cc_entry.specs.declared.answer.Answer.TheVariants as answer
use Rattle.cc_entry.specs.declared.answer.LineReply.{LineReply}
use Rattle.cc_entry.specs.declared.place.Request.{Request}
use Rattle.cc_entry.specs.declared.entry.Entry.{Entry}
use Rattle.cc_script.specs.declared.script.Action.{Action}
use Rattle.cc_script.specs.declared.script.Action.TheVariants as action
use Rattle.cc_script.specs.declared.script.ActionLine.{ActionLine}
use Rattle.cc_model.specs.Setup.{Setup}
use Rattle.cc_model.specs.Room.{room_in}
use Rattle.cc_effects.specs.Moments.{IsIdle, Between}
use Rattle.cc_effects.proofs.Begun.{ascend-after, ascend-before}
use Rattle.cc_effects.proofs.Stretches.{idle-then, idle-none, some-after, some-before}
use Rattle.cc_effects.proofs.CallSteps.{left-after, left-before}
use Rattle.cc_effects.proofs.NoncachedSteps.{nc-read-after, nc-read-before, nc-write-after, nc-write-before, unpin-after, unpin-before}
use Rattle.cc_effects.proofs.PageSteps.{tick-after, tick-before}
use Rattle.cc_effects.proofs.OtherSteps.{append-after, append-before, levels-after, levels-before, log-flush-after, log-flush-before}
use Rattle.cc_pieces.specs.Bindings.{Binding, hold_named, OnHold}
use Rattle.cc_pieces.specs.Answered.{CallAnswered, FlushAnswered, AppendAnswered, LevelsAnswered, LogFlushAnswered, NcReadAnswered, NcWriteAnswered, TickAnswered, AheadAnswered, StartAnswered, CompletionAnswered, bytes_outcome}
use Rattle.cc_pieces.specs.HoldLines.{HoldLine, HeldReadBy, UnpinAnswered, UnpinEnded, UnrepinLine}
use Rattle.cc_pieces.specs.Served.{Served, bindings_after}
use Rattle.cc_pieces.specs.Rooms.{JournalWasFull, HadNoRoom, ToldNoRoom}
use Rattle.cc_pieces.specs.Runs.{Explains, Ran, bindings_of, asked_of}
use Rattle.cc_vacb.specs.Levels.{levels_of}
use Rattle.cc_pieces.proofs.ThrottleSteps.{deferred-after, deferred-before, posted-after, posted-before}
use Rattle.cc_pieces.proofs.SettleSteps.{settled-after, settled-before}
use Rattle.cc_pieces.proofs.ShimSteps.{read-after, read-before, update-after, update-before, write-after, write-before, lock-after, lock-before, unlock-after, unlock-before}
use Rattle.cc_pieces.proofs.CheckpointSteps.{checkpoint-after, checkpoint-before}

answered-before : (u : Setup) (me : ℕ) (it : Call) (told : Answer) (older old new : List Entry) → IsIdle me older old → CallAnswered u me it told old new → CallAnswered u me it told older new
answered-before u me it (answer.Given r) older old new idle left = left-before u me it (outcome.Done r) older old new idle left
answered-before u me it (answer.Refused e) older old new idle left = left-before u me it (outcome.Failed e) older old new idle left
answered-before u me it other older old new idle left = absurd left

answered-after : (u : Setup) (me : ℕ) (it : Call) (told : Answer) (old new newer : List Entry) → CallAnswered u me it told old new → IsIdle me new newer → CallAnswered u me it told old newer
answered-after u me it (answer.Given r) old new newer left idle = left-after u me it (outcome.Done r) old new newer left idle
answered-after u me it (answer.Refused e) old new newer left idle = left-after u me it (outcome.Failed e) old new newer left idle
answered-after u me it other old new newer left idle = absurd left

flushed-before : (u : Setup) (me : ℕ) (file : File) (span : Option Range) (told : Answer) (older old new : List Entry) → IsIdle me older old → FlushAnswered u me file span told old new → FlushAnswered u me file span told older new
flushed-before u me file span told older old new idle flushed = record {
  left = answered-before u me (call.Flush file span) told older old new idle flushed.left;
  ascending = ascend-before me 0 (2 ^ 51) older old new idle flushed.ascending;
}

flushed-after : (u : Setup) (me : ℕ) (file : File) (span : Option Range) (told : Answer) (old new newer : List Entry) → FlushAnswered u me file span told old new → IsIdle me new newer → FlushAnswered u me file span told old newer
flushed-after u me file span told old new newer flushed idle = record {
  left = answered-after u me (call.Flush file span) told old new newer flushed.left idle;
  ascending = ascend-after me 0 (2 ^ 51) old new newer flushed.ascending idle;
}

appended-before : (u : Setup) (me handle : ℕ) (bytes : List ℕ) (told : Answer) (older old new : List Entry) → IsIdle me older old → AppendAnswered u me handle bytes told old new → AppendAnswered u me handle bytes told older new
appended-before u me handle bytes (answer.NewLsn lsn) older old new idle left = append-before u me handle bytes (Ok lsn) older old new idle left
appended-before u me handle bytes (answer.Refused e) older old new idle left = append-before u me handle bytes (Err e) older old new idle left
appended-before u me handle bytes other older old new idle left = absurd left

appended-after : (u : Setup) (me handle : ℕ) (bytes : List ℕ) (told : Answer) (old new newer : List Entry) → AppendAnswered u me handle bytes told old new → IsIdle me new newer → AppendAnswered u me handle bytes told old newer
appended-after u me handle bytes (answer.NewLsn lsn) old new newer left idle = append-after u me handle bytes (Ok lsn) old new newer left idle
appended-after u me handle bytes (answer.Refused e) old new newer left idle = append-after u me handle bytes (Err e) old new newer left idle
appended-after u me handle bytes other old new newer left idle = absurd left

log_flushed-before : (u : Setup) (me handle lsn : ℕ) (told : Answer) (older old new : List Entry) → IsIdle me older old → LogFlushAnswered u me handle lsn told old new → LogFlushAnswered u me handle lsn told older new
log_flushed-before u me handle lsn (answer.Given reply.Unit) older old new idle left = log-flush-before {T = Unit {0}} u me handle lsn (Ok tt) older old new idle left
log_flushed-before u me handle lsn (answer.Refused e) older old new idle left = log-flush-before {T = Unit {0}} u me handle lsn (Err e) older old new idle left
log_flushed-before u me handle lsn other older old new idle left = absurd left

log_flushed-after : (u : Setup) (me handle lsn : ℕ) (told : Answer) (old new newer : List Entry) → LogFlushAnswered u me handle lsn told old new → IsIdle me new newer → LogFlushAnswered u me handle lsn told old newer
log_flushed-after u me handle lsn (answer.Given reply.Unit) old new newer left idle = log-flush-after {T = Unit {0}} u me handle lsn (Ok tt) old new newer left idle
log_flushed-after u me handle lsn (answer.Refused e) old new newer left idle = log-flush-after {T = Unit {0}} u me handle lsn (Err e) old new newer left idle
log_flushed-after u me handle lsn other old new newer left idle = absurd left

nc_read-before : (u : Setup) (me : ℕ) (file : File) (at len : ℕ) (told : Answer) (older old new : List Entry) → IsIdle me older old → NcReadAnswered u me file at len told old new → NcReadAnswered u me file at len told older new
nc_read-before u me file at len (answer.Given (reply.Read bytes)) older old new idle left = nc-read-before u me file at len (Ok bytes) older old new idle left
nc_read-before u me file at len (answer.NcRefused done cause) older old new idle left = nc-read-before u me file at len (Err (done, cause)) older old new idle left
nc_read-before u me file at len other older old new idle left = absurd left

nc_read-after : (u : Setup) (me : ℕ) (file : File) (at len : ℕ) (told : Answer) (old new newer : List Entry) → NcReadAnswered u me file at len told old new → IsIdle me new newer → NcReadAnswered u me file at len told old newer
nc_read-after u me file at len (answer.Given (reply.Read bytes)) old new newer left idle = nc-read-after u me file at len (Ok bytes) old new newer left idle
nc_read-after u me file at len (answer.NcRefused done cause) old new newer left idle = nc-read-after u me file at len (Err (done, cause)) old new newer left idle
nc_read-after u me file at len other old new newer left idle = absurd left

nc_write-before : (u : Setup) (me : ℕ) (file : File) (at : ℕ) (bytes : List ℕ) (told : Answer) (older old new : List Entry) → IsIdle me older old → NcWriteAnswered u me file at bytes told old new → NcWriteAnswered u me file at bytes told older new
nc_write-before u me file at bytes (answer.Count n) older old new idle left = nc-write-before u me file at bytes (Ok n) older old new idle left
nc_write-before u me file at bytes (answer.NcRefused done cause) older old new idle left = nc-write-before u me file at bytes (Err (done, cause)) older old new idle left
nc_write-before u me file at bytes other older old new idle left = absurd left

nc_write-after : (u : Setup) (me : ℕ) (file : File) (at : ℕ) (bytes : List ℕ) (told : Answer) (old new newer : List Entry) → NcWriteAnswered u me file at bytes told old new → IsIdle me new newer → NcWriteAnswered u me file at bytes told old newer
nc_write-after u me file at bytes (answer.Count n) old new newer left idle = nc-write-after u me file at bytes (Ok n) old new newer left idle
nc_write-after u me file at bytes (answer.NcRefused done cause) old new newer left idle = nc-write-after u me file at bytes (Err (done, cause)) old new newer left idle
nc_write-after u me file at bytes other old new newer left idle = absurd left

levels_told-before : (me : ℕ) (file : File) (told : Answer) (older old new : List Entry) → IsIdle me older old → LevelsAnswered levels_of me file told old new → LevelsAnswered levels_of me file told older new
levels_told-before me file (answer.Levels n) older old new idle left = levels-before levels_of me file (Ok n) older old new idle left
levels_told-before me file (answer.Refused e) older old new idle left = levels-before levels_of me file (Err e) older old new idle left
levels_told-before me file other older old new idle left = absurd left

levels_told-after : (me : ℕ) (file : File) (told : Answer) (old new newer : List Entry) → LevelsAnswered levels_of me file told old new → IsIdle me new newer → LevelsAnswered levels_of me file told old newer
levels_told-after me file (answer.Levels n) old new newer left idle = levels-after levels_of me file (Ok n) old new newer left idle
levels_told-after me file (answer.Refused e) old new newer left idle = levels-after levels_of me file (Err e) old new newer left idle
levels_told-after me file other old new newer left idle = absurd left

-- a line on a hold, whatever it leaves there
held-before : (me : ℕ) (hold : Option ℕ) (Left : ℕ → Answer → Between) (told : Answer) (older old new : List Entry) → ((id : ℕ) → Left id told old new → Left id told older new) → IsIdle me older old → OnHold me hold Left told old new → OnHold me hold Left told older new
held-before me None Left told older old new step idle left = (left.0, idle-then me older old new idle left.1)
held-before me (Some id) Left told older old new step idle left = step id left

hold_line-before : (u : Setup) (me : ℕ) (bindings : List Binding) (word : ℕ) (of_kind : HoldKind → Bool) (call_on : ℕ → Call) (told : Answer) (older old new : List Entry) → IsIdle me older old → HoldLine u me bindings word of_kind call_on told old new → HoldLine u me bindings word of_kind call_on told older new
hold_line-before u me bindings word of_kind call_on told older old new idle left =
    held-before me (hold_named bindings word of_kind) (λ id. CallAnswered u me (call_on id)) told older old new (λ id one. answered-before u me (call_on id) told older old new idle one) idle left

held_read-before : (u : Setup) (me : ℕ) (bindings : List Binding) (word at len : ℕ) (mapped : Option ℕ) (told : Answer) (older old new : List Entry) → IsIdle me older old → HeldReadBy u me bindings word at len mapped told old new → HeldReadBy u me bindings word at len mapped told older new
held_read-before u me bindings word at len (Some id) told older old new idle left = answered-before u me (call.MappedRead id at len) told older old new idle left
held_read-before u me bindings word at len None told older old new idle left = hold_line-before u me bindings word is_pin (λ id. call.PinnedRead id at len) told older old new idle left

ended-before : (u : Setup) (me : ℕ) (through : Bool) (id : ℕ) (answered : Outcome) (older old new : List Entry) → IsIdle me older old → UnpinEnded u me through id answered old new → UnpinEnded u me through id answered older new
ended-before u me through id answered older old new idle ended = record {
  left = unpin-before u me id through answered older old new idle ended.left;
  ascending = ascend-before me 0 (2 ^ 51) older old new idle ended.ascending;
}

unpinned-before : (u : Setup) (me : ℕ) (through : Bool) (id : ℕ) (told : Answer) (older old new : List Entry) → IsIdle me older old → UnpinAnswered u me through id told old new → UnpinAnswered u me through id told older new
unpinned-before u me through id (answer.Given r) older old new idle left = ended-before u me through id (outcome.Done r) older old new idle left
unpinned-before u me through id (answer.Refused e) older old new idle left = ended-before u me through id (outcome.Failed e) older old new idle left
unpinned-before u me through id other older old new idle left = absurd left

unrepinned-before : (u : Setup) (me : ℕ) (bindings : List Binding) (word : ℕ) (through : Bool) (told : Answer) (older old new : List Entry) → IsIdle me older old → UnrepinLine u me bindings word through told old new → UnrepinLine u me bindings word through told older new
unrepinned-before u me bindings word through told older old new idle left =
    held-before me (hold_named bindings word is_repin) (UnpinAnswered u me through) told older old new (λ id one. unpinned-before u me through id told older old new idle one) idle left

held-after : (me : ℕ) (hold : Option ℕ) (Left : ℕ → Answer → Between) (told : Answer) (old new newer : List Entry) → ((id : ℕ) → Left id told old new → Left id told old newer) → OnHold me hold Left told old new → IsIdle me new newer → OnHold me hold Left told old newer
held-after me None Left told old new newer step left idle = (left.0, idle-then me old new newer left.1 idle)
held-after me (Some id) Left told old new newer step left idle = step id left

hold_line-after : (u : Setup) (me : ℕ) (bindings : List Binding) (word : ℕ) (of_kind : HoldKind → Bool) (call_on : ℕ → Call) (told : Answer) (old new newer : List Entry) → HoldLine u me bindings word of_kind call_on told old new → IsIdle me new newer → HoldLine u me bindings word of_kind call_on told old newer
hold_line-after u me bindings word of_kind call_on told old new newer left idle =
    held-after me (hold_named bindings word of_kind) (λ id. CallAnswered u me (call_on id)) told old new newer (λ id one. answered-after u me (call_on id) told old new newer one idle) left idle

held_read-after : (u : Setup) (me : ℕ) (bindings : List Binding) (word at len : ℕ) (mapped : Option ℕ) (told : Answer) (old new newer : List Entry) → HeldReadBy u me bindings word at len mapped told old new → IsIdle me new newer → HeldReadBy u me bindings word at len mapped told old newer
held_read-after u me bindings word at len (Some id) told old new newer left idle = answered-after u me (call.MappedRead id at len) told old new newer left idle
held_read-after u me bindings word at len None told old new newer left idle = hold_line-after u me bindings word is_pin (λ id. call.PinnedRead id at len) told old new newer left idle

ended-after : (u : Setup) (me : ℕ) (through : Bool) (id : ℕ) (answered : Outcome) (old new newer : List Entry) → UnpinEnded u me through id answered old new → IsIdle me new newer → UnpinEnded u me through id answered old newer
ended-after u me through id answered old new newer ended idle = record {
  left = unpin-after u me id through answered old new newer ended.left idle;
  ascending = ascend-after me 0 (2 ^ 51) old new newer ended.ascending idle;
}

unpinned-after : (u : Setup) (me : ℕ) (through : Bool) (id : ℕ) (told : Answer) (old new newer : List Entry) → UnpinAnswered u me through id told old new → IsIdle me new newer → UnpinAnswered u me through id told old newer
unpinned-after u me through id (answer.Given r) old new newer left idle = ended-after u me through id (outcome.Done r) old new newer left idle
unpinned-after u me through id (answer.Refused e) old new newer left idle = ended-after u me through id (outcome.Failed e) old new newer left idle
unpinned-after u me through id other old new newer left idle = absurd left

unrepinned-after : (u : Setup) (me : ℕ) (bindings : List Binding) (word : ℕ) (through : Bool) (told : Answer) (old new newer : List Entry) → UnrepinLine u me bindings word through told old new → IsIdle me new newer → UnrepinLine u me bindings word through told old newer
unrepinned-after u me bindings word through told old new newer left idle =
    held-after me (hold_named bindings word is_repin) (UnpinAnswered u me through) told old new newer (λ id one. unpinned-after u me through id told old new newer one idle) left idle

-- what the pass did not do before a tick, or behind it, is no matter to it
pub ticked-before : (me : ℕ) (told : Answer) (older old new : List Entry) → IsIdle me older old → TickAnswered me told old new → TickAnswered me told older new
ticked-before me (answer.Ticked tick) older old new idle left = tick-before me (Ok tick) older old new idle left
ticked-before me (answer.Refused e) older old new idle left = tick-before me (Err e) older old new idle left
ticked-before me other older old new idle left = absurd left

ticked-after : (me : ℕ) (told : Answer) (old new newer : List Entry) → TickAnswered me told old new → IsIdle me new newer → TickAnswered me told old newer
ticked-after me (answer.Ticked tick) old new newer left idle = tick-after me (Ok tick) old new newer left idle
ticked-after me (answer.Refused e) old new newer left idle = tick-after me (Err e) old new newer left idle
ticked-after me other old new newer left idle = absurd left

-- nor is it to a read-ahead step
pub stepped-before : (u : Setup) (me : ℕ) (taken : Option Request) (told : Answer) (older old new : List Entry) → IsIdle me older old → AheadAnswered u me taken told old new → AheadAnswered u me taken told older new
stepped-before u me None (answer.Stepped None) older old new idle left = idle-then me older old new idle left
stepped-before u me None (answer.Stepped (Some done)) older old new idle left = absurd left
stepped-before u me None (answer.Refused e) older old new idle left = absurd left
stepped-before u me (Some request) (answer.Stepped None) older old new idle left = absurd left
stepped-before u me (Some request) (answer.Stepped (Some done)) older old new idle left =
    (left.0, left-before u me (call.AheadStep request) (outcome.Done (reply.Whole done.whole)) older old new idle left.1)
stepped-before u me (Some request) (answer.Refused e) older old new idle left = left-before u me (call.AheadStep request) (outcome.Failed e) older old new idle left
stepped-before u me taken other older old new idle left = absurd left

pub stepped-after : (u : Setup) (me : ℕ) (taken : Option Request) (told : Answer) (old new newer : List Entry) → AheadAnswered u me taken told old new → IsIdle me new newer → AheadAnswered u me taken told old newer
stepped-after u me None (answer.Stepped None) old new newer left idle = idle-then me old new newer left idle
stepped-after u me None (answer.Stepped (Some done)) old new newer left idle = absurd left
stepped-after u me None (answer.Refused e) old new newer left idle = absurd left
stepped-after u me (Some request) (answer.Stepped None) old new newer left idle = absurd left
stepped-after u me (Some request) (answer.Stepped (Some done)) old new newer left idle =
    (left.0, left-after u me (call.AheadStep request) (outcome.Done (reply.Whole done.whole)) old new newer left.1 idle)
stepped-after u me (Some request) (answer.Refused e) old new newer left idle = left-after u me (call.AheadStep request) (outcome.Failed e) old new newer left idle
stepped-after u me taken other old new newer left idle = absurd left

-- nor to a read that may be queued, or to the step that completes one
started-before : (u : Setup) (me : ℕ) (file : File) (at len : ℕ) (told : Answer) (older old new : List Entry) → IsIdle me older old → StartAnswered u me file at len told old new → StartAnswered u me file at len told older new
started-before u me file at len (answer.Started (start.Ready bytes)) older old new idle left = left-before u me (call.CopyRead file at len false) (outcome.Done (reply.Read bytes)) older old new idle left
started-before u me file at len (answer.Started (start.Queued id)) older old new idle left = (left.0, left-before u me (call.CopyRead file at len false) (outcome.Failed (error.NotResident left.0)) older old new idle left.1)
started-before u me file at len (answer.Refused error.QueueFull) older old new idle left = (left.0, left-before u me (call.CopyRead file at len false) (outcome.Failed (error.NotResident left.0)) older old new idle left.1)
started-before u me file at len (answer.Refused (error.NotResident page)) older old new idle left = absurd left
started-before u me file at len (answer.Refused e) older old new idle left = left-before u me (call.CopyRead file at len false) (outcome.Failed e) older old new idle left
started-before u me file at len other older old new idle left = absurd left

started-after : (u : Setup) (me : ℕ) (file : File) (at len : ℕ) (told : Answer) (old new newer : List Entry) → StartAnswered u me file at len told old new → IsIdle me new newer → StartAnswered u me file at len told old newer
started-after u me file at len (answer.Started (start.Ready bytes)) old new newer left idle = left-after u me (call.CopyRead file at len false) (outcome.Done (reply.Read bytes)) old new newer left idle
started-after u me file at len (answer.Started (start.Queued id)) old new newer left idle = (left.0, left-after u me (call.CopyRead file at len false) (outcome.Failed (error.NotResident left.0)) old new newer left.1 idle)
started-after u me file at len (answer.Refused error.QueueFull) old new newer left idle = (left.0, left-after u me (call.CopyRead file at len false) (outcome.Failed (error.NotResident left.0)) old new newer left.1 idle)
started-after u me file at len (answer.Refused (error.NotResident page)) old new newer left idle = absurd left
started-after u me file at len (answer.Refused e) old new newer left idle = left-after u me (call.CopyRead file at len false) (outcome.Failed e) old new newer left idle
started-after u me file at len other old new newer left idle = absurd left

completed-before : (u : Setup) (me : ℕ) (told : Answer) (older old new : List Entry) → IsIdle me older old → CompletionAnswered u me told old new → CompletionAnswered u me told older new
completed-before u me (answer.Completed None) older old new idle left = idle-then me older old new idle left
completed-before u me (answer.Completed (Some done)) older old new idle left =
    left-before u me (call.CopyRead done.file done.at done.len true) (bytes_outcome done.answer) older old new idle left
completed-before u me other older old new idle left = absurd left

completed-after : (u : Setup) (me : ℕ) (told : Answer) (old new newer : List Entry) → CompletionAnswered u me told old new → IsIdle me new newer → CompletionAnswered u me told old newer
completed-after u me (answer.Completed None) old new newer left idle = idle-then me old new newer left idle
completed-after u me (answer.Completed (Some done)) old new newer left idle =
    left-after u me (call.CopyRead done.file done.at done.len true) (bytes_outcome done.answer) old new newer left idle
completed-after u me other old new newer left idle = absurd left

served-before : (u : Setup) (me : ℕ) (bindings : List Binding) (asked : Action) (told : Answer) (older old new : List Entry) → IsIdle me older old → Served u me bindings asked told old new → Served u me bindings asked told older new
served-before u me bindings (action.Initialise file sizes quota temporary) told older old new idle left =
    answered-before u me (call.Initialise file sizes quota temporary) told older old new idle left
served-before u me bindings (action.Uninitialise file truncate) told older old new idle left = answered-before u me (call.Uninitialise file truncate) told older old new idle left
served-before u me bindings (action.CopyRead file at len wait) told older old new idle left = answered-before u me (call.CopyRead file at len wait) told older old new idle left
served-before u me bindings (action.CopyWrite file at bytes) told older old new idle left = answered-before u me (call.CopyWrite file at bytes) told older old new idle left
served-before u me bindings (action.Zero file span) told older old new idle left = answered-before u me (call.Zero file span) told older old new idle left
served-before u me bindings (action.Map file at len word) told older old new idle left = answered-before u me (call.Map file at len) told older old new idle left
served-before u me bindings (action.PinRead file at len word exclusive) told older old new idle left = answered-before u me (call.PinRead file at len exclusive) told older old new idle left
served-before u me bindings (action.PinMapped word exclusive) told older old new idle left =
    hold_line-before u me bindings word is_map (λ id. call.PinMapped id exclusive) told older old new idle left
served-before u me bindings (action.PreparePin file at len word zero exclusive) told older old new idle left =
    answered-before u me (call.PreparePin file at len zero exclusive) told older old new idle left
served-before u me bindings (action.HeldRead word at len) told older old new idle left =
    held_read-before u me bindings word at len (hold_named bindings word is_map) told older old new idle left
served-before u me bindings (action.PinnedWrite word at bytes) told older old new idle left =
    hold_line-before u me bindings word is_pin (λ id. call.PinnedWrite id at bytes) told older old new idle left
served-before u me bindings (action.SetDirty word lsn) told older old new idle left = hold_line-before u me bindings word is_pin (λ id. call.SetDirty id lsn) told older old new idle left
served-before u me bindings (action.Unpin word) told older old new idle left =
    hold_line-before u me bindings word (λ its_kind. is_map its_kind || is_pin its_kind) (λ id. call.EndHold id) told older old new idle left
served-before u me bindings (action.Repin word made) told older old new idle left = hold_line-before u me bindings word is_pin (λ id. call.Repin id) told older old new idle left
served-before u me bindings (action.UnpinRepinned word through) told older old new idle left = unrepinned-before u me bindings word through told older old new idle left
served-before u me bindings (action.MdlRead file at len word) told older old new idle left = answered-before u me (call.MdlRead file at len) told older old new idle left
served-before u me bindings (action.MdlWrite file at len word) told older old new idle left = answered-before u me (call.MdlWrite file at len) told older old new idle left
served-before u me bindings (action.MdlBytes word at len) told older old new idle left =
    hold_line-before u me bindings word is_read_chain (λ id. call.MdlBytes id at len) told older old new idle left
served-before u me bindings (action.MdlStore word at bytes) told older old new idle left =
    hold_line-before u me bindings word is_write_chain (λ id. call.MdlStore id at bytes) told older old new idle left
served-before u me bindings (action.MdlDone word) told older old new idle left =
    hold_line-before u me bindings word (λ its_kind. is_read_chain its_kind || is_write_chain its_kind) (λ id. call.EndHold id) told older old new idle left
served-before u me bindings (action.MdlAbort word) told older old new idle left = hold_line-before u me bindings word is_write_chain (λ id. call.EndHold id) told older old new idle left
served-before u me bindings (action.SetSizes file allocation size) told older old new idle left = answered-before u me (call.SetSizes file allocation size) told older old new idle left
served-before u me bindings (action.Query asked) told older old new idle left = answered-before u me (call.Query asked) told older old new idle left
served-before u me bindings (action.Flush file span) told older old new idle left = flushed-before u me file span told older old new idle left
served-before u me bindings (action.Purge file span) told older old new idle left = answered-before u me (call.Purge file span) told older old new idle left
served-before u me bindings (action.Discard file span) told older old new idle left = answered-before u me (call.Discard file span) told older old new idle left
served-before u me bindings (action.NcRead file at len) told older old new idle left = nc_read-before u me file at len told older old new idle left
served-before u me bindings (action.NcWrite file at bytes) told older old new idle left = nc_write-before u me file at bytes told older old new idle left
served-before u me bindings (action.Read file path at len) told older old new idle left = read-before u me older old idle file path at len told new left
served-before u me bindings (action.Write file at bytes) told older old new idle left = write-before u me older old idle file at bytes told new left
served-before u me bindings (action.Update file at bytes) told older old new idle left = update-before u me older old idle file at bytes told new left
served-before u me bindings (action.Lock file span exclusive) told older old new idle left = lock-before u me older old idle file span exclusive told new left
served-before u me bindings (action.Unlock file id) told older old new idle left = unlock-before u me older old idle file id told new left
served-before u me bindings (action.Levels file) told older old new idle left = levels_told-before me file told older old new idle left
served-before u me bindings (action.Settle file) told older old new idle left = settled-before u me file older old idle told new left
served-before u me bindings (action.Checkpoint streams handle) told older old new idle left = checkpoint-before u me streams handle older old idle told new left
served-before u me bindings (action.SetLog file handle) told older old new idle left = answered-before u me (call.SetLog file handle) told older old new idle left
served-before u me bindings (action.Append handle bytes) told older old new idle left = appended-before u me handle bytes told older old new idle left
served-before u me bindings (action.LogFlush handle lsn) told older old new idle left = log_flushed-before u me handle lsn told older old new idle left
served-before u me bindings (action.SetGranularity file bytes) told older old new idle left = answered-before u me (call.SetGranularity file bytes) told older old new idle left
served-before u me bindings (action.SetAttributes file no_read_ahead no_write_behind) told older old new idle left = answered-before u me (call.SetAttributes file no_read_ahead no_write_behind) told older old new idle left
served-before u me bindings (action.SetThreshold file pages) told older old new idle left = answered-before u me (call.SetThreshold file pages) told older old new idle left
served-before u me bindings (action.Defer file bytes retrying) told older old new idle left = deferred-before me file bytes retrying told older old new idle left
served-before u me bindings action.Post told older old new idle left = posted-before u me told older old new idle left
served-before u me bindings (action.AskAhead file at len) told older old new idle left = answered-before u me (call.AskAhead file at len) told older old new idle left
served-before u me bindings action.AheadStep told older old new idle left = (left.0, stepped-before u me left.0 told older old new idle left.1)
served-before u me bindings (action.AsyncRead file at len) told older old new idle left = started-before u me file at len told older old new idle left
served-before u me bindings action.Complete told older old new idle left = completed-before u me told older old new idle left
served-before u me bindings action.Tick told older old new idle left = ticked-before me told older old new idle left
served-before u me bindings other told older old new idle left = absurd left

served-after : (u : Setup) (me : ℕ) (bindings : List Binding) (asked : Action) (told : Answer) (old new newer : List Entry) → Served u me bindings asked told old new → IsIdle me new newer → Served u me bindings asked told old newer
served-after u me bindings (action.Initialise file sizes quota temporary) told old new newer left idle =
    answered-after u me (call.Initialise file sizes quota temporary) told old new newer left idle
served-after u me bindings (action.Uninitialise file truncate) told old new newer left idle = answered-after u me (call.Uninitialise file truncate) told old new newer left idle
served-after u me bindings (action.CopyRead file at len wait) told old new newer left idle = answered-after u me (call.CopyRead file at len wait) told old new newer left idle
served-after u me bindings (action.CopyWrite file at bytes) told old new newer left idle = answered-after u me (call.CopyWrite file at bytes) told old new newer left idle
served-after u me bindings (action.Zero file span) told old new newer left idle = answered-after u me (call.Zero file span) told old new newer left idle
served-after u me bindings (action.Map file at len word) told old new newer left idle = answered-after u me (call.Map file at len) told old new newer left idle
served-after u me bindings (action.PinRead file at len word exclusive) told old new newer left idle = answered-after u me (call.PinRead file at len exclusive) told old new newer left idle
served-after u me bindings (action.PinMapped word exclusive) told old new newer left idle =
    hold_line-after u me bindings word is_map (λ id. call.PinMapped id exclusive) told old new newer left idle
served-after u me bindings (action.PreparePin file at len word zero exclusive) told old new newer left idle =
    answered-after u me (call.PreparePin file at len zero exclusive) told old new newer left idle
served-after u me bindings (action.HeldRead word at len) told old new newer left idle =
    held_read-after u me bindings word at len (hold_named bindings word is_map) told old new newer left idle
served-after u me bindings (action.PinnedWrite word at bytes) told old new newer left idle =
    hold_line-after u me bindings word is_pin (λ id. call.PinnedWrite id at bytes) told old new newer left idle
served-after u me bindings (action.SetDirty word lsn) told old new newer left idle = hold_line-after u me bindings word is_pin (λ id. call.SetDirty id lsn) told old new newer left idle
served-after u me bindings (action.Unpin word) told old new newer left idle =
    hold_line-after u me bindings word (λ its_kind. is_map its_kind || is_pin its_kind) (λ id. call.EndHold id) told old new newer left idle
served-after u me bindings (action.Repin word made) told old new newer left idle = hold_line-after u me bindings word is_pin (λ id. call.Repin id) told old new newer left idle
served-after u me bindings (action.UnpinRepinned word through) told old new newer left idle = unrepinned-after u me bindings word through told old new newer left idle
served-after u me bindings (action.MdlRead file at len word) told old new newer left idle = answered-after u me (call.MdlRead file at len) told old new newer left idle
served-after u me bindings (action.MdlWrite file at len word) told old new newer left idle = answered-after u me (call.MdlWrite file at len) told old new newer left idle
served-after u me bindings (action.MdlBytes word at len) told old new newer left idle =
    hold_line-after u me bindings word is_read_chain (λ id. call.MdlBytes id at len) told old new newer left idle
served-after u me bindings (action.MdlStore word at bytes) told old new newer left idle =
    hold_line-after u me bindings word is_write_chain (λ id. call.MdlStore id at bytes) told old new newer left idle
served-after u me bindings (action.MdlDone word) told old new newer left idle =
    hold_line-after u me bindings word (λ its_kind. is_read_chain its_kind || is_write_chain its_kind) (λ id. call.EndHold id) told old new newer left idle
served-after u me bindings (action.MdlAbort word) told old new newer left idle = hold_line-after u me bindings word is_write_chain (λ id. call.EndHold id) told old new newer left idle
served-after u me bindings (action.SetSizes file allocation size) told old new newer left idle = answered-after u me (call.SetSizes file allocation size) told old new newer left idle
served-after u me bindings (action.Query asked) told old new newer left idle = answered-after u me (call.Query asked) told old new newer left idle
served-after u me bindings (action.Flush file span) told old new newer left idle = flushed-after u me file span told old new newer left idle
served-after u me bindings (action.Purge file span) told old new newer left idle = answered-after u me (call.Purge file span) told old new newer left idle
served-after u me bindings (action.Discard file span) told old new newer left idle = answered-after u me (call.Discard file span) told old new newer left idle
served-after u me bindings (action.NcRead file at len) told old new newer left idle = nc_read-after u me file at len told old new newer left idle
served-after u me bindings (action.NcWrite file at bytes) told old new newer left idle = nc_write-after u me file at bytes told old new newer left idle
served-after u me bindings (action.Read file path at len) told old new newer left idle = read-after u me new newer idle file path at len told old left
served-after u me bindings (action.Write file at bytes) told old new newer left idle = write-after u me new newer idle file at bytes told old left
served-after u me bindings (action.Update file at bytes) told old new newer left idle = update-after u me new newer idle file at bytes told old left
served-after u me bindings (action.Lock file span exclusive) told old new newer left idle = lock-after u me new newer idle file span exclusive told old left
served-after u me bindings (action.Unlock file id) told old new newer left idle = unlock-after u me new newer idle file id told old left
served-after u me bindings (action.Levels file) told old new newer left idle = levels_told-after me file told old new newer left idle
served-after u me bindings (action.Settle file) told old new newer left idle = settled-after me new newer idle u file told old left
served-after u me bindings (action.Checkpoint streams handle) told old new newer left idle = checkpoint-after u me streams handle new newer idle told old left
served-after u me bindings (action.SetLog file handle) told old new newer left idle = answered-after u me (call.SetLog file handle) told old new newer left idle
served-after u me bindings (action.Append handle bytes) told old new newer left idle = appended-after u me handle bytes told old new newer left idle
served-after u me bindings (action.LogFlush handle lsn) told old new newer left idle = log_flushed-after u me handle lsn told old new newer left idle
served-after u me bindings (action.SetGranularity file bytes) told old new newer left idle = answered-after u me (call.SetGranularity file bytes) told old new newer left idle
served-after u me bindings (action.SetAttributes file no_read_ahead no_write_behind) told old new newer left idle = answered-after u me (call.SetAttributes file no_read_ahead no_write_behind) told old new newer left idle
served-after u me bindings (action.SetThreshold file pages) told old new newer left idle = answered-after u me (call.SetThreshold file pages) told old new newer left idle
served-after u me bindings (action.Defer file bytes retrying) told old new newer left idle = deferred-after me file bytes retrying told old new newer left idle
served-after u me bindings action.Post told old new newer left idle = posted-after u me told old new newer left idle
served-after u me bindings (action.AskAhead file at len) told old new newer left idle = answered-after u me (call.AskAhead file at len) told old new newer left idle
served-after u me bindings action.AheadStep told old new newer left idle = (left.0, stepped-after u me left.0 told old new newer left.1 idle)
served-after u me bindings (action.AsyncRead file at len) told old new newer left idle = started-after u me file at len told old new newer left idle
served-after u me bindings action.Complete told old new newer left idle = completed-after u me told old new newer left idle
served-after u me bindings action.Tick told old new newer left idle = ticked-after me told old new newer left idle
served-after u me bindings other told old new newer left idle = absurd left

full-before : (u : Setup) (limit entries me : ℕ) (older old new : List Entry) → IsIdle me older old → JournalWasFull u limit entries old new → JournalWasFull u limit entries older new
full-before u limit entries me older old new idle was =
    some-before (λ moment. (entries ≡ length moment) × (room_in u moment 0 < limit)) older idle.during new (rw idle.grew at was)

full-after : (u : Setup) (limit entries me : ℕ) (old new newer : List Entry) → JournalWasFull u limit entries old new → IsIdle me new newer → JournalWasFull u limit entries old newer
full-after u limit entries me old new newer was idle =
    rw idle.grew (some-after (λ moment. (entries ≡ length moment) × (room_in u moment 0 < limit)) old new idle.during was)

pub room-before : (u : Setup) (limit me : ℕ) (told : Answer) (older old new : List Entry) → IsIdle me older old → HadNoRoom u limit told old new → HadNoRoom u limit told older new
room-before u limit me (answer.Refused (error.JournalFull entries)) older old new idle had = full-before u limit entries me older old new idle had
room-before u limit me (answer.NcRefused done (error.JournalFull entries)) older old new idle had = full-before u limit entries me older old new idle had
room-before u limit me (answer.Completed (Some done)) older old new idle had = by done.answer had
  where
    by : (o : Result (List ℕ) CcError) → ToldNoRoom u limit o old new → ToldNoRoom u limit o older new
    by (Err (error.JournalFull entries)) had = full-before u limit entries me older old new idle had
    by other had = tt
room-before u limit me other older old new idle had = tt

room-after : (u : Setup) (limit me : ℕ) (told : Answer) (old new newer : List Entry) → HadNoRoom u limit told old new → IsIdle me new newer → HadNoRoom u limit told old newer
room-after u limit me (answer.Refused (error.JournalFull entries)) old new newer had idle = full-after u limit entries me old new newer had idle
room-after u limit me (answer.NcRefused done (error.JournalFull entries)) old new newer had idle = full-after u limit entries me old new newer had idle
room-after u limit me (answer.Completed (Some done)) old new newer had idle = by done.answer had
  where
    by : (o : Result (List ℕ) CcError) → ToldNoRoom u limit o old new → ToldNoRoom u limit o old newer
    by (Err (error.JournalFull entries)) had = full-after u limit entries me old new newer had idle
    by other had = tt
room-after u limit me other old new newer had idle = tt

-- others' entries before and after a piece belong to it as well
pub explains-before : (u : Setup) (limit me : ℕ) (bindings : List Binding) (asked : Action) (told : Answer) (older old new : List Entry) → IsIdle me older old → Explains u limit me bindings asked told old new → Explains u limit me bindings asked told older new
explains-before u limit me bindings asked told older old new idle explains = record {
  served = served-before u me bindings asked told older old new idle explains.served;
  room = room-before u limit me told older old new idle explains.room;
}

pub explains-after : (u : Setup) (limit me : ℕ) (bindings : List Binding) (asked : Action) (told : Answer) (old new newer : List Entry) → Explains u limit me bindings asked told old new → IsIdle me new newer → Explains u limit me bindings asked told old newer
explains-after u limit me bindings asked told old new newer explains idle = record {
  served = served-after u me bindings asked told old new newer explains.served idle;
  room = room-after u limit me told old new newer explains.room idle;
}

-- one more piece
pub ran-more : (u : Setup) (limit me : ℕ) (bindings : List Binding) (lines : List (Action × Answer)) (asked : Action) (told : Answer) (old between new : List Entry) → Ran u limit me bindings lines old between → Explains u limit me (bindings_of bindings lines) asked told between new → Ran u limit me bindings (lines ++ (asked, told) ∷ []) old new
ran-more u limit me bindings [] asked told old between new ran explains =
    (new, explains-before u limit me bindings asked told old between new ran explains, idle-none me new)
ran-more u limit me bindings (first ∷ lines) asked told old between new ran explains =
    (ran.0, ran.1, ran-more u limit me (bindings_after first.0 first.1 bindings) lines asked told ran.0 between new ran.2 explains)

-- entries of others
pub ran-idle : (u : Setup) (limit me : ℕ) (bindings : List Binding) (lines : List (Action × Answer)) (old between new : List Entry) → Ran u limit me bindings lines old between → IsIdle me between new → Ran u limit me bindings lines old new
ran-idle u limit me bindings [] old between new ran idle = idle-then me old between new ran idle
ran-idle u limit me bindings (first ∷ lines) old between new ran idle =
    (ran.0, ran.1, ran-idle u limit me (bindings_after first.0 first.1 bindings) lines ran.0 between new ran.2 idle)

pub asked-own : (test : ActionLine → Bool) (lines : List ActionLine) (replies : List LineReply) (line : ActionLine) (reply : LineReply) → length lines ≡ length replies → test line ≡ true → asked_of test (lines ++ line ∷ []) (replies ++ reply ∷ []) ≡ asked_of test lines replies ++ (line.action, reply.answer) ∷ []
asked-own test [] [] line reply same own = rw own refl
asked-own test [] (r ∷ replies) line reply same own = absurd (cc)
asked-own test (l ∷ lines) [] line reply same own = absurd (cc)
asked-own test (l ∷ lines) (r ∷ replies) line reply same own = by (asked-own test lines replies line reply (omega (arith, same)) own) (test l)
  where
    by : asked_of test (lines ++ line ∷ []) (replies ++ reply ∷ []) ≡ asked_of test lines replies ++ (line.action, reply.answer) ∷ [] → (b : Bool) → (if b then (l.action, r.answer) ∷ asked_of test (lines ++ line ∷ []) (replies ++ reply ∷ []) else asked_of test (lines ++ line ∷ []) (replies ++ reply ∷ [])) ≡ (if b then (l.action, r.answer) ∷ asked_of test lines replies else asked_of test lines replies) ++ (line.action, reply.answer) ∷ []
    by rest true = ap (λ more. (l.action, r.answer) ∷ more) rest
    by rest false = rest

pub asked-other : (test : ActionLine → Bool) (lines : List ActionLine) (replies : List LineReply) (line : ActionLine) (reply : LineReply) → length lines ≡ length replies → test line ≡ false → asked_of test (lines ++ line ∷ []) (replies ++ reply ∷ []) ≡ asked_of test lines replies
asked-other test [] [] line reply same other = rw other refl
asked-other test [] (r ∷ replies) line reply same other = absurd (cc)
asked-other test (l ∷ lines) [] line reply same other = absurd (cc)
asked-other test (l ∷ lines) (r ∷ replies) line reply same other = by (asked-other test lines replies line reply (omega (arith, same)) other) (test l)
  where
    by : asked_of test (lines ++ line ∷ []) (replies ++ reply ∷ []) ≡ asked_of test lines replies → (b : Bool) → (if b then (l.action, r.answer) ∷ asked_of test (lines ++ line ∷ []) (replies ++ reply ∷ []) else asked_of test (lines ++ line ∷ []) (replies ++ reply ∷ [])) ≡ (if b then (l.action, r.answer) ∷ asked_of test lines replies else asked_of test lines replies)
    by rest true = ap (λ more. (l.action, r.answer) ∷ more) rest
    by rest false = rest
