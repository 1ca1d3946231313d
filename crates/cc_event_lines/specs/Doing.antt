-- What a line is as the run makes it of its action, part by part.
use Rattle.std.specs.Prelude.{ℕ, List}
use Rattle.std.specs.declared.option.Option.{Option}
use Rattle.std.specs.declared.option.Option.TheVariants.{Some, None}
use Rattle.std.specs.Option.{option_map}
use Rattle.cc_entry.specs.Kinds.{is_map, is_pin}
use Rattle.cc_entry.specs.declared.call.Call.{Call}
use Rattle.cc_entry.specs.declared.call.Call.TheVariants as call
use Rattle.cc_script.specs.HoldWords.{meets}
use Rattle.cc_script.specs.declared.bound.Need.TheVariants as need
use Rattle.cc_script.specs.declared.script.Action.{Action}
use Rattle.cc_script.specs.declared.script.Action.TheVariants as action
use Rattle.cc_pieces.specs.Bindings.{Binding, hold_named}
use Rattle.cc_pieces.specs.Events.{Doing, Happens, Makes, NamesNone, on_hold}
use Rattle.cc_effects.specs.declared.events.Event.{Event}
use Rattle.cc_effects.specs.declared.events.Event.TheVariants as event
use Rattle.cc_event_lines.specs.Happening.{without_routine}
use Rattle.cc_event_lines.specs.declared.doing.MadeDoing.{MadeDoing as Made}
use Rattle.cc_event_lines.specs.declared.doing.MadeDoing.TheVariants as made

-- what a line of a caller is by its definition, where the run made this of it; a deferral has its routine yet to come
abbrev pub doing_made : {Q : Type 0} → ℕ → Made Q → Doing
doing_made me (made.Happens it) = Happens (without_routine it)
doing_made me (made.Makes it) = Makes it
doing_made me (made.Defers file bytes retrying) = Happens (event.Defer me file bytes retrying tt)
doing_made me made.Posts = Happens (event.Post me)
doing_made me made.NamesNone = NamesNone

-- an event that neither takes nor gives back a routine
abbrev pub IsPlainEvent : {Q : Type 0} → Event Q → Type 0
IsPlainEvent (event.Defer pass file bytes retrying routine) = ⊥
IsPlainEvent (event.Post pass) = ⊥
IsPlainEvent other = Unit {0}

abbrev pub HappensPlainly : {Q : Type 0} → Made Q → Type 0
HappensPlainly (made.Happens it) = IsPlainEvent it
HappensPlainly other = Unit {0}

-- a line whose bytes are copied before it happens: a call, or an append
abbrev pub IsCopied : Doing → Type 0
IsCopied (Happens (event.Append pass handle bytes)) = Unit {0}
IsCopied (Happens it) = ⊥
IsCopied (Makes it) = Unit {0}
IsCopied NamesNone = ⊥

abbrev pub IsCopiedIn : Option Doing → Type 0
IsCopiedIn None = ⊥
IsCopiedIn (Some it) = IsCopied it

-- an event that copies no bytes
abbrev pub event_in : ℕ → Action → Option Doing
event_in me (action.LogFlush handle lsn) = Some (Happens (event.LogFlush me handle lsn))
event_in me (action.Fill page) = Some (Happens (event.Fill me page))
event_in me (action.Drop page) = Some (Happens (event.Drop page))
event_in me (action.WriteBegin page) = Some (Happens (event.WriteBegin me page))
event_in me (action.WriteEnd page) = Some (Happens (event.WriteEnd page))
event_in me (action.Sync stream) = Some (Happens (event.Sync me stream))
event_in me action.Scan = Some (Happens (event.Scan me))
event_in me (action.Defer file bytes retrying) = Some (Happens (event.Defer me file bytes retrying tt))
event_in me action.Post = Some (Happens (event.Post me))
event_in me other = None

-- a call on bytes or pages of a file, which copies none
abbrev pub call_on_range : Action → Option Call
call_on_range (action.CopyRead file at len wait) = Some (call.CopyRead file at len wait)
call_on_range (action.Zero file span) = Some (call.Zero file span)
call_on_range (action.Map file at len word) = Some (call.Map file at len)
call_on_range (action.PinRead file at len word exclusive) = Some (call.PinRead file at len exclusive)
call_on_range (action.PreparePin file at len word zero exclusive) = Some (call.PreparePin file at len zero exclusive)
call_on_range (action.MdlRead file at len word) = Some (call.MdlRead file at len)
call_on_range (action.MdlWrite file at len word) = Some (call.MdlWrite file at len)
call_on_range (action.NcReadPage file page) = Some (call.NcRead file page)
call_on_range (action.NcWritePage file page) = Some (call.NcWrite file page)
call_on_range (action.Flush file span) = Some (call.Flush file span)
call_on_range (action.Purge file span) = Some (call.Purge file span)
call_on_range (action.Discard file span) = Some (call.Discard file span)
call_on_range other = None

-- a call on a file as a whole, or on none
abbrev pub call_on_file : Action → Option Call
call_on_file (action.Initialise file sizes quota temporary) = Some (call.Initialise file sizes quota temporary)
call_on_file (action.Uninitialise file truncate) = Some (call.Uninitialise file truncate)
call_on_file (action.SetSizes file allocation size) = Some (call.SetSizes file allocation size)
call_on_file (action.Query asked) = Some (call.Query asked)
call_on_file (action.SetLog file handle) = Some (call.SetLog file handle)
call_on_file (action.SetGranularity file bytes) = Some (call.SetGranularity file bytes)
call_on_file (action.SetAttributes file no_read_ahead no_write_behind) =
    Some (call.SetAttributes file no_read_ahead no_write_behind)
call_on_file (action.SetThreshold file pages) = Some (call.SetThreshold file pages)
call_on_file other = None

-- a call or an event whose bytes are copied
abbrev pub written_by : ℕ → List Binding → Action → Option Doing
written_by me bindings (action.CopyWrite file at bytes) = Some (Makes (call.CopyWrite file at bytes))
written_by me bindings (action.NcStorePage file page bytes) = Some (Makes (call.NcStore file page bytes))
written_by me bindings (action.PinnedWrite word at bytes) =
    Some (on_hold (hold_named bindings word (meets need.Pin)) (λ id. call.PinnedWrite id at bytes))
written_by me bindings (action.MdlStore word at bytes) =
    Some (on_hold (hold_named bindings word (meets need.WriteChain)) (λ id. call.MdlStore id at bytes))
written_by me bindings (action.Append handle bytes) = Some (Happens (event.Append me handle bytes))
written_by me bindings other = None

-- a read of mapped bytes, or else of pinned ones
abbrev pub read_on : Option ℕ → Option ℕ → ℕ → ℕ → Option Call
read_on (Some id) pinned at len = Some (call.MappedRead id at len)
read_on None pinned at len = option_map (λ id. call.PinnedRead id at len) pinned

-- a call on a hold that copies no bytes
abbrev pub call_on_hold : List Binding → Action → Option Call
call_on_hold bindings (action.HeldRead word at len) =
    read_on (hold_named bindings word is_map) (hold_named bindings word is_pin) at len
call_on_hold bindings (action.PinMapped word exclusive) =
    option_map (λ id. call.PinMapped id exclusive) (hold_named bindings word (meets need.Map))
call_on_hold bindings (action.SetDirty word lsn) =
    option_map (λ id. call.SetDirty id lsn) (hold_named bindings word (meets need.Pin))
call_on_hold bindings (action.Repin word made) =
    option_map (λ id. call.Repin id) (hold_named bindings word (meets need.Pin))
call_on_hold bindings (action.MdlBytes word at len) =
    option_map (λ id. call.MdlBytes id at len) (hold_named bindings word (meets need.ReadChain))
call_on_hold bindings (action.Unpin word) =
    option_map (λ id. call.EndHold id) (hold_named bindings word (meets need.MapOrPin))
call_on_hold bindings (action.UnpinRepinned word through) =
    option_map (λ id. call.EndHold id) (hold_named bindings word (meets need.Repin))
call_on_hold bindings (action.MdlDone word) =
    option_map (λ id. call.EndHold id) (hold_named bindings word (meets need.Chain))
call_on_hold bindings (action.MdlAbort word) =
    option_map (λ id. call.EndHold id) (hold_named bindings word (meets need.WriteChain))
call_on_hold bindings other = None

-- what a line is that makes such a call, where there is one
abbrev pub called_on : {Q : Type 0} → Option Call → Made Q
called_on None = made.NamesNone
called_on (Some it) = made.Makes it
