-- The event that a line of `steps` is: by its verb, its caller and what its words name.
use Rattle.std.specs.Prelude.{ℕ, Bool, true, false, ◌||◌}
use Rattle.std.specs.declared.option.Option.{Option}
use Rattle.std.specs.declared.option.Option.TheVariants.{Some, None}
use Rattle.std.specs.Prelude.{List}
use Rattle.cc_entry.specs.Kinds.{is_map, is_pin, is_repin, is_read_chain, is_write_chain}
use Rattle.cc_entry.specs.declared.call.Call.{Call}
use Rattle.cc_entry.specs.declared.call.Call.TheVariants as call
use Rattle.cc_script.specs.declared.script.Action.{Action}
use Rattle.cc_script.specs.declared.script.Action.TheVariants as action
use Rattle.cc_effects.specs.declared.events.Event.{Event}
use Rattle.cc_effects.specs.declared.events.Event.TheVariants as event
use Rattle.cc_pieces.specs.Bindings.{Binding, hold_named}

-- What a line is: an event that is no call of its caller; a call; or a line whose word names no hold that serves.
pub data Doing : Type 0 where
  Happens : Event (Unit {0}) → Doing
  Makes : Call → Doing
  NamesNone : Doing

-- a call on the hold that a word names
abbrev pub on_hold : Option ℕ → (ℕ → Call) → Doing
on_hold None call_on = NamesNone
on_hold (Some id) call_on = Makes (call_on id)

-- a read of mapped bytes, or else of pinned ones
abbrev pub held_read : Option ℕ → Option ℕ → ℕ → ℕ → Doing
held_read (Some id) pinned at len = Makes (call.MappedRead id at len)
held_read None pinned at len = on_hold pinned (λ id. call.PinnedRead id at len)

-- What the line of a caller with these bindings is. A noncached run, an end of a repin through the disk, read-ahead, a
-- read that may be queued with its completion, and a tick are no lines of `steps`.
abbrev pub doing_of : ℕ → List Binding → Action → Doing
doing_of me bindings (action.Initialise file sizes quota temporary) = Makes (call.Initialise file sizes quota temporary)
doing_of me bindings (action.Uninitialise file truncate) = Makes (call.Uninitialise file truncate)
doing_of me bindings (action.CopyRead file at len wait) = Makes (call.CopyRead file at len wait)
doing_of me bindings (action.CopyWrite file at bytes) = Makes (call.CopyWrite file at bytes)
doing_of me bindings (action.Zero file span) = Makes (call.Zero file span)
doing_of me bindings (action.Map file at len word) = Makes (call.Map file at len)
doing_of me bindings (action.PinRead file at len word exclusive) = Makes (call.PinRead file at len exclusive)
doing_of me bindings (action.PinMapped word exclusive) =
    on_hold (hold_named bindings word is_map) (λ id. call.PinMapped id exclusive)
doing_of me bindings (action.PreparePin file at len word zero exclusive) = Makes (call.PreparePin file at len zero exclusive)
doing_of me bindings (action.HeldRead word at len) =
    held_read (hold_named bindings word is_map) (hold_named bindings word is_pin) at len
doing_of me bindings (action.PinnedWrite word at bytes) =
    on_hold (hold_named bindings word is_pin) (λ id. call.PinnedWrite id at bytes)
doing_of me bindings (action.SetDirty word lsn) = on_hold (hold_named bindings word is_pin) (λ id. call.SetDirty id lsn)
doing_of me bindings (action.Unpin word) =
    on_hold (hold_named bindings word (λ its_kind. is_map its_kind || is_pin its_kind)) (λ id. call.EndHold id)
doing_of me bindings (action.Repin word made) = on_hold (hold_named bindings word is_pin) (λ id. call.Repin id)
doing_of me bindings (action.UnpinRepinned word through) = on_hold (hold_named bindings word is_repin) (λ id. call.EndHold id)
doing_of me bindings (action.MdlRead file at len word) = Makes (call.MdlRead file at len)
doing_of me bindings (action.MdlWrite file at len word) = Makes (call.MdlWrite file at len)
doing_of me bindings (action.MdlBytes word at len) =
    on_hold (hold_named bindings word is_read_chain) (λ id. call.MdlBytes id at len)
doing_of me bindings (action.MdlStore word at bytes) =
    on_hold (hold_named bindings word is_write_chain) (λ id. call.MdlStore id at bytes)
doing_of me bindings (action.MdlDone word) =
    on_hold (hold_named bindings word (λ its_kind. is_read_chain its_kind || is_write_chain its_kind)) (λ id. call.EndHold id)
doing_of me bindings (action.MdlAbort word) = on_hold (hold_named bindings word is_write_chain) (λ id. call.EndHold id)
doing_of me bindings (action.NcRead file at len) = NamesNone
doing_of me bindings (action.NcWrite file at bytes) = NamesNone
doing_of me bindings (action.Read file path at len) = NamesNone
doing_of me bindings (action.Write file at bytes) = NamesNone
doing_of me bindings (action.Update file at bytes) = NamesNone
doing_of me bindings (action.Lock file span exclusive) = NamesNone
doing_of me bindings (action.Unlock file id) = NamesNone
doing_of me bindings (action.Levels file) = NamesNone
doing_of me bindings (action.Settle file) = NamesNone
doing_of me bindings (action.Checkpoint streams handle) = NamesNone
doing_of me bindings (action.AskAhead file at len) = NamesNone
doing_of me bindings action.AheadStep = NamesNone
doing_of me bindings (action.AsyncRead file at len) = NamesNone
doing_of me bindings action.Complete = NamesNone
doing_of me bindings action.Tick = NamesNone
doing_of me bindings (action.NcReadPage file page) = Makes (call.NcRead file page)
doing_of me bindings (action.NcStorePage file page bytes) = Makes (call.NcStore file page bytes)
doing_of me bindings (action.NcWritePage file page) = Makes (call.NcWrite file page)
doing_of me bindings (action.SetSizes file allocation size) = Makes (call.SetSizes file allocation size)
doing_of me bindings (action.Query asked) = Makes (call.Query asked)
doing_of me bindings (action.Flush file span) = Makes (call.Flush file span)
doing_of me bindings (action.Purge file span) = Makes (call.Purge file span)
doing_of me bindings (action.Discard file span) = Makes (call.Discard file span)
doing_of me bindings (action.SetLog file handle) = Makes (call.SetLog file handle)
doing_of me bindings (action.SetGranularity file bytes) = Makes (call.SetGranularity file bytes)
doing_of me bindings (action.SetAttributes file no_read_ahead no_write_behind) =
    Makes (call.SetAttributes file no_read_ahead no_write_behind)
doing_of me bindings (action.SetThreshold file pages) = Makes (call.SetThreshold file pages)
doing_of me bindings (action.Append handle bytes) = Happens (event.Append me handle bytes)
doing_of me bindings (action.LogFlush handle lsn) = Happens (event.LogFlush me handle lsn)
doing_of me bindings (action.Fill page) = Happens (event.Fill me page)
doing_of me bindings (action.Drop page) = Happens (event.Drop page)
doing_of me bindings (action.WriteBegin page) = Happens (event.WriteBegin me page)
doing_of me bindings (action.WriteEnd page) = Happens (event.WriteEnd page)
doing_of me bindings (action.Sync stream) = Happens (event.Sync me stream)
doing_of me bindings action.Scan = Happens (event.Scan me)
doing_of me bindings (action.Defer file bytes retrying) = Happens (event.Defer me file bytes retrying tt)
doing_of me bindings action.Post = Happens (event.Post me)

-- the event of a line, by whether it is to fail; none where its word names no hold
abbrev pub event_by : ℕ → Bool → Doing → Option (Event (Unit {0}))
event_by me fails (Happens it) = Some it
event_by me false (Makes it) = Some (event.Do me it)
event_by me true (Makes it) = Some (event.Fail me it)
event_by me fails NamesNone = None
