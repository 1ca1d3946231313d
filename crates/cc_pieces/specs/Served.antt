-- What the actions of a script leave that a run serves: one case for each. A run serves no other.
use Rattle.std.specs.Prelude.{ℕ, List, []}
use Rattle.cc_entry.specs.declared.call.Call.TheVariants as call
use Rattle.cc_entry.specs.declared.answer.Answer.{Answer}
use Rattle.cc_entry.specs.declared.answer.Answer.TheVariants as answer
use Rattle.cc_script.specs.declared.script.Action.{Action}
use Rattle.cc_script.specs.declared.script.Action.TheVariants as action
use Rattle.cc_model.specs.Setup.{Setup}
use Rattle.cc_effects.specs.Moments.{Between}
use Rattle.cc_entry.specs.declared.hold.HoldKind.TheVariants as kind
use Rattle.cc_pieces.specs.Bindings.{Binding, bound, bindings_pinned}
use Rattle.cc_pieces.specs.HoldLines.{PinMappedLine, HeldReadLine, PinnedWriteLine, StampLine, UnpinLine, RepinLine, UnrepinLine}
use Rattle.cc_pieces.specs.HoldLines.{ChainReadLine, ChainStoreLine, ChainDoneLine, ChainAbortLine}
use Rattle.cc_pieces.specs.Answered.{CallAnswered, FlushAnswered, AppendAnswered, LogFlushAnswered, DeferAnswered, PostsAnswered, TickAnswered, StepAnswered, LevelsAnswered, SettleAnswered, NcReadAnswered, NcWriteAnswered, StartAnswered, CompletionAnswered}
use Rattle.cc_pieces.specs.Locks.{LockAnswered, UnlockAnswered, LockedReadAnswered, LockedWriteAnswered, LockedUpdateAnswered}
use Rattle.cc_pieces.specs.Checkpoints.{CheckpointAnswered}
use Rattle.cc_vacb.specs.Levels.{levels_of}

-- From one moment to another, the caller's line left what explains its answer. The lines of `steps` alone are none of a
-- run: their events stand in `Steps`.
abbrev pub Served : Setup → ℕ → List Binding → Action → Answer → Between
Served u me bindings (action.Initialise file sizes quota temporary) told old new =
    CallAnswered u me (call.Initialise file sizes quota temporary) told old new
Served u me bindings (action.Uninitialise file truncate) told old new = CallAnswered u me (call.Uninitialise file truncate) told old new
Served u me bindings (action.CopyRead file at len wait) told old new = CallAnswered u me (call.CopyRead file at len wait) told old new
Served u me bindings (action.CopyWrite file at bytes) told old new = CallAnswered u me (call.CopyWrite file at bytes) told old new
Served u me bindings (action.Zero file span) told old new = CallAnswered u me (call.Zero file span) told old new
Served u me bindings (action.Map file at len word) told old new = CallAnswered u me (call.Map file at len) told old new
Served u me bindings (action.PinRead file at len word exclusive) told old new =
    CallAnswered u me (call.PinRead file at len exclusive) told old new
Served u me bindings (action.PinMapped word exclusive) told old new = PinMappedLine u me bindings word exclusive told old new
Served u me bindings (action.PreparePin file at len word zero exclusive) told old new =
    CallAnswered u me (call.PreparePin file at len zero exclusive) told old new
Served u me bindings (action.HeldRead word at len) told old new = HeldReadLine u me bindings word at len told old new
Served u me bindings (action.PinnedWrite word at bytes) told old new = PinnedWriteLine u me bindings word at bytes told old new
Served u me bindings (action.SetDirty word lsn) told old new = StampLine u me bindings word lsn told old new
Served u me bindings (action.Unpin word) told old new = UnpinLine u me bindings word told old new
Served u me bindings (action.Repin word made) told old new = RepinLine u me bindings word told old new
Served u me bindings (action.UnpinRepinned word through) told old new = UnrepinLine u me bindings word through told old new
Served u me bindings (action.MdlRead file at len word) told old new = CallAnswered u me (call.MdlRead file at len) told old new
Served u me bindings (action.MdlWrite file at len word) told old new = CallAnswered u me (call.MdlWrite file at len) told old new
Served u me bindings (action.MdlBytes word at len) told old new = ChainReadLine u me bindings word at len told old new
Served u me bindings (action.MdlStore word at bytes) told old new = ChainStoreLine u me bindings word at bytes told old new
Served u me bindings (action.MdlDone word) told old new = ChainDoneLine u me bindings word told old new
Served u me bindings (action.MdlAbort word) told old new = ChainAbortLine u me bindings word told old new
Served u me bindings (action.SetSizes file allocation size) told old new =
    CallAnswered u me (call.SetSizes file allocation size) told old new
Served u me bindings (action.Query asked) told old new = CallAnswered u me (call.Query asked) told old new
Served u me bindings (action.Flush file span) told old new = FlushAnswered u me file span told old new
Served u me bindings (action.Purge file span) told old new = CallAnswered u me (call.Purge file span) told old new
Served u me bindings (action.Discard file span) told old new = CallAnswered u me (call.Discard file span) told old new
Served u me bindings (action.NcRead file at len) told old new = NcReadAnswered u me file at len told old new
Served u me bindings (action.NcWrite file at bytes) told old new = NcWriteAnswered u me file at bytes told old new
Served u me bindings (action.Read file path at len) told old new = LockedReadAnswered u me file path at len told old new
Served u me bindings (action.Write file at bytes) told old new = LockedWriteAnswered u me file at bytes told old new
Served u me bindings (action.Update file at bytes) told old new = LockedUpdateAnswered u me file at bytes told old new
Served u me bindings (action.Lock file span exclusive) told old new = LockAnswered me file span exclusive told old new
Served u me bindings (action.Unlock file id) told old new = UnlockAnswered me file id told old new
Served u me bindings (action.Levels file) told old new = LevelsAnswered levels_of me file told old new
Served u me bindings (action.Settle file) told old new = SettleAnswered u me file told old new
Served u me bindings (action.Checkpoint streams handle) told old new = CheckpointAnswered u me streams handle told old new
Served u me bindings (action.SetLog file handle) told old new = CallAnswered u me (call.SetLog file handle) told old new
Served u me bindings (action.Append handle bytes) told old new = AppendAnswered u me handle bytes told old new
Served u me bindings (action.LogFlush handle lsn) told old new = LogFlushAnswered u me handle lsn told old new
Served u me bindings (action.SetGranularity file bytes) told old new = CallAnswered u me (call.SetGranularity file bytes) told old new
Served u me bindings (action.SetAttributes file no_read_ahead no_write_behind) told old new =
    CallAnswered u me (call.SetAttributes file no_read_ahead no_write_behind) told old new
Served u me bindings (action.SetThreshold file pages) told old new = CallAnswered u me (call.SetThreshold file pages) told old new
Served u me bindings (action.Defer file bytes retrying) told old new = DeferAnswered me file bytes retrying told old new
Served u me bindings action.Post told old new = PostsAnswered u me told old new
Served u me bindings (action.AskAhead file at len) told old new = CallAnswered u me (call.AskAhead file at len) told old new
Served u me bindings action.AheadStep told old new = StepAnswered u me told old new
Served u me bindings (action.AsyncRead file at len) told old new = StartAnswered u me file at len told old new
Served u me bindings action.Complete told old new = CompletionAnswered u me told old new
Served u me bindings action.Tick told old new = TickAnswered me told old new
Served u me bindings other told old new = ⊥

-- the caller's bindings after the line
abbrev pub bindings_after : Action → Answer → List Binding → List Binding
bindings_after (action.Map file at len word) told bindings = bound word kind.Map told bindings
bindings_after (action.PinRead file at len word exclusive) told bindings = bound word kind.Pin told bindings
bindings_after (action.PinMapped word exclusive) told bindings = bindings_pinned word told bindings
bindings_after (action.PreparePin file at len word zero exclusive) told bindings = bound word kind.Pin told bindings
bindings_after (action.Repin word made) told bindings = bound made kind.Repin told bindings
bindings_after (action.MdlRead file at len word) told bindings = bound word kind.ReadChain told bindings
bindings_after (action.MdlWrite file at len word) told bindings = bound word kind.WriteChain told bindings
bindings_after other told bindings = bindings

-- the deferred writes that an answer names
abbrev pub ids_posted : Answer → List ℕ
ids_posted (answer.Posts ids) = ids
ids_posted other = []

-- the deferred writes that the line posted
abbrev pub posted_by : Action → Answer → List ℕ
posted_by action.Post told = ids_posted told
posted_by other told = []
