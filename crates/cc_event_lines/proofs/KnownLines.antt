-- The events of a script's lines name streams that there are, and a line whose event is plain is no deferral.
use Rattle.std.specs.Prelude.{◌≡◌, ℕ, ◌<◌, ◌≤◌, Bool, true, false, ◌||◌, List, refl, IfSome}
use Rattle.std.specs.declared.option.Option.{Option}
use Rattle.std.specs.declared.option.Option.TheVariants.{Some, None}
use Rattle.std.proofs.Common.{arith}
use Rattle.cc_entry.specs.Place.{File}
use Rattle.cc_entry.specs.Queries.{file_of_query}
use Rattle.cc_entry.specs.Kinds.{is_map, is_pin, is_repin, is_read_chain, is_write_chain}
use Rattle.cc_entry.specs.declared.call.Call.{Call}
use Rattle.cc_entry.specs.declared.call.Call.TheVariants as call
use Rattle.cc_model.specs.Acts.{file_of}
use Rattle.cc_script.specs.Within.{IsFileWithin}
use Rattle.cc_script.specs.EventActions.{is_defer}
use Rattle.cc_script.specs.declared.script.Action.{Action}
use Rattle.cc_script.specs.declared.script.Action.TheVariants as action
use Rattle.cc_pieces.specs.Bindings.{Binding, hold_named}
use Rattle.cc_pieces.specs.Events.{Doing, Happens, Makes, NamesNone, doing_of, held_read, on_hold}
use Rattle.cc_effects.specs.Events.{IsKnown, NamesOf}
use Rattle.cc_effects.specs.declared.events.Event.{Event}
use Rattle.cc_effects.specs.declared.events.Event.TheVariants as event
use Rattle.cc_event_lines.specs.Doing.{IsCopied, IsPlainEvent}
use Rattle.cc_event_lines.specs.Happening.{without_routine}
use Rattle.cc_event_lines.specs.Lines.{IsKnownTo, event_of_call}

-- what a line is names streams that there are
abbrev pub IsDoingKnown : ℕ → Doing → Type 0
IsDoingKnown disks (Happens it) = IsKnown disks it
IsDoingKnown disks (Makes it) = NamesOf disks (file_of it)
IsDoingKnown disks NamesNone = Unit {0}

hold-known : (disks : ℕ) (o : Option ℕ) (call_on : ℕ → Call) → ((id : ℕ) → NamesOf disks (file_of (call_on id))) → IsDoingKnown disks (on_hold o call_on)
hold-known disks None call_on none = tt
hold-known disks (Some id) call_on none = none id

read-known : (disks : ℕ) (mapped pinned : Option ℕ) (at len : ℕ) → IsDoingKnown disks (held_read mapped pinned at len)
read-known disks (Some id) pinned at len = tt
read-known disks None None at len = tt
read-known disks None (Some id) at len = tt

below : (n streams disks : ℕ) → n < streams → streams ≤ disks → n < disks
below n streams disks less most = omega arith

pub doing-known : (disks me : ℕ) (bindings : List Binding) (asked : Action) → IsKnownTo disks asked → IsDoingKnown disks (doing_of me bindings asked)
doing-known disks me bindings (action.Initialise file sizes quota temporary) known = below _ _ _ known.1.stream known.2
doing-known disks me bindings (action.Uninitialise file truncate) known = below _ _ _ known.1.stream known.2
doing-known disks me bindings (action.CopyRead file at len wait) known = below _ _ _ known.1.stream known.2
doing-known disks me bindings (action.CopyWrite file at bytes) known = below _ _ _ known.1.stream known.2
doing-known disks me bindings (action.Zero file span) known = below _ _ _ known.1.stream known.2
doing-known disks me bindings (action.Map file at len word) known = below _ _ _ known.1.stream known.2
doing-known disks me bindings (action.PinRead file at len word exclusive) known = below _ _ _ known.1.stream known.2
doing-known disks me bindings (action.PinMapped word exclusive) known = hold-known disks (hold_named bindings word (is_map)) (λ id. call.PinMapped id exclusive) (λ id. tt)
doing-known disks me bindings (action.PreparePin file at len word zero exclusive) known = below _ _ _ known.1.stream known.2
doing-known disks me bindings (action.HeldRead word at len) known = read-known disks (hold_named bindings word is_map) (hold_named bindings word is_pin) at len
doing-known disks me bindings (action.PinnedWrite word at bytes) known = hold-known disks (hold_named bindings word (is_pin)) (λ id. call.PinnedWrite id at bytes) (λ id. tt)
doing-known disks me bindings (action.SetDirty word lsn) known = hold-known disks (hold_named bindings word (is_pin)) (λ id. call.SetDirty id lsn) (λ id. tt)
doing-known disks me bindings (action.Unpin word) known = hold-known disks (hold_named bindings word (λ k. is_map k || is_pin k)) (λ id. call.EndHold id) (λ id. tt)
doing-known disks me bindings (action.Repin word made) known = hold-known disks (hold_named bindings word (is_pin)) (λ id. call.Repin id) (λ id. tt)
doing-known disks me bindings (action.UnpinRepinned word through) known = hold-known disks (hold_named bindings word (is_repin)) (λ id. call.EndHold id) (λ id. tt)
doing-known disks me bindings (action.MdlRead file at len word) known = below _ _ _ known.1.stream known.2
doing-known disks me bindings (action.MdlWrite file at len word) known = below _ _ _ known.1.stream known.2
doing-known disks me bindings (action.MdlBytes word at len) known = hold-known disks (hold_named bindings word (is_read_chain)) (λ id. call.MdlBytes id at len) (λ id. tt)
doing-known disks me bindings (action.MdlStore word at bytes) known = hold-known disks (hold_named bindings word (is_write_chain)) (λ id. call.MdlStore id at bytes) (λ id. tt)
doing-known disks me bindings (action.MdlDone word) known = hold-known disks (hold_named bindings word (λ k. is_read_chain k || is_write_chain k)) (λ id. call.EndHold id) (λ id. tt)
doing-known disks me bindings (action.MdlAbort word) known = hold-known disks (hold_named bindings word (is_write_chain)) (λ id. call.EndHold id) (λ id. tt)
doing-known disks me bindings (action.NcRead file at len) known = tt
doing-known disks me bindings (action.NcWrite file at bytes) known = tt
doing-known disks me bindings (action.Read file path at len) known = tt
doing-known disks me bindings (action.Write file at bytes) known = tt
doing-known disks me bindings (action.Update file at bytes) known = tt
doing-known disks me bindings (action.Lock file span exclusive) known = tt
doing-known disks me bindings (action.Unlock file id) known = tt
doing-known disks me bindings (action.Levels file) known = tt
doing-known disks me bindings (action.Settle file) known = tt
doing-known disks me bindings (action.Checkpoint streams handle) known = tt
doing-known disks me bindings (action.AskAhead file at len) known = tt
doing-known disks me bindings action.AheadStep known = tt
doing-known disks me bindings (action.AsyncRead file at len) known = tt
doing-known disks me bindings action.Complete known = tt
doing-known disks me bindings action.Tick known = tt
doing-known disks me bindings (action.SetSizes file allocation size) known = below _ _ _ known.1.stream known.2
doing-known disks me bindings (action.Query asked) known = by (file_of_query asked) known.1
  where
    by : (named : Option File) → IfSome named (λ file. IsFileWithin known.0 file) → NamesOf disks named
    by None named = tt
    by (Some file) named = below _ _ _ named.stream known.2
doing-known disks me bindings (action.Flush file span) known = below _ _ _ known.1.stream known.2
doing-known disks me bindings (action.Purge file span) known = below _ _ _ known.1.stream known.2
doing-known disks me bindings (action.Discard file span) known = below _ _ _ known.1.stream known.2
doing-known disks me bindings (action.SetLog file handle) known = below _ _ _ known.1.stream known.2
doing-known disks me bindings (action.Append handle bytes) known = tt
doing-known disks me bindings (action.LogFlush handle lsn) known = tt
doing-known disks me bindings (action.SetGranularity file bytes) known = below _ _ _ known.1.stream known.2
doing-known disks me bindings (action.SetAttributes file no_read_ahead no_write_behind) known = below _ _ _ known.1.stream known.2
doing-known disks me bindings (action.SetThreshold file pages) known = below _ _ _ known.1.stream known.2
doing-known disks me bindings (action.NcReadPage file page) known = below _ _ _ known.1.in_file.stream known.2
doing-known disks me bindings (action.NcStorePage file page bytes) known = below _ _ _ known.1.0.in_file.stream known.2
doing-known disks me bindings (action.NcWritePage file page) known = below _ _ _ known.1.in_file.stream known.2
doing-known disks me bindings (action.Fill page) known = below _ _ _ known.1.stream known.2
doing-known disks me bindings (action.Drop page) known = below _ _ _ known.1.stream known.2
doing-known disks me bindings (action.WriteBegin page) known = below _ _ _ known.1.stream known.2
doing-known disks me bindings (action.WriteEnd page) known = below _ _ _ known.1.stream known.2
doing-known disks me bindings (action.Sync stream) known = below _ _ _ known.1 known.2
doing-known disks me bindings action.Scan known = tt
doing-known disks me bindings (action.Defer file bytes retrying) known = below _ _ _ known.1.stream known.2
doing-known disks me bindings action.Post known = tt

-- so does its event, with its routine
pub event-known : {Q : Type 0} (disks : ℕ) (it : Event Q) → IsKnown disks (without_routine it) → IsKnown disks it
event-known disks (event.Fill pass page) known = known
event-known disks (event.Drop page) known = known
event-known disks (event.WriteBegin pass page) known = known
event-known disks (event.WriteEnd page) known = known
event-known disks (event.Sync pass stream) known = known
event-known disks (event.Do pass it) known = known
event-known disks (event.Fail pass it) known = known
event-known disks (event.Append pass handle bytes) known = known
event-known disks (event.LogFlush pass handle to) known = known
event-known disks (event.Scan pass) known = known
event-known disks (event.Defer pass file bytes retrying routine) known = known
event-known disks (event.Post pass) known = known

pub called-known : (Q : Type 0) (disks me : ℕ) (fails : Bool) (it : Call) → NamesOf disks (file_of it) → IsKnown disks (event_of_call {Q = Q} me fails it)
called-known Q disks me true it known = known
called-known Q disks me false it known = known

pub called-plain : (Q : Type 0) (me : ℕ) (fails : Bool) (it : Call) → IsPlainEvent (event_of_call {Q = Q} me fails it)
called-plain Q me true it = tt
called-plain Q me false it = tt

-- what is no deferral
abbrev pub IsNoDeferral : Doing → Type 0
IsNoDeferral (Happens (event.Defer pass file bytes retrying routine)) = ⊥
IsNoDeferral other = Unit {0}

pub plain-no-deferral : {Q : Type 0} (it : Event Q) → IsPlainEvent it → IsNoDeferral (Happens (without_routine it))
plain-no-deferral (event.Defer pass file bytes retrying routine) plain = absurd plain
plain-no-deferral other plain = tt

pub copied-no-deferral : (d : Doing) → IsCopied d → IsNoDeferral d
copied-no-deferral (Happens (event.Defer pass file bytes retrying routine)) copied = absurd copied
copied-no-deferral (Happens other) copied = tt
copied-no-deferral (Makes it) copied = tt
copied-no-deferral NamesNone copied = tt

pub no-defer : (me : ℕ) (bindings : List Binding) (asked : Action) → IsNoDeferral (doing_of me bindings asked) → is_defer asked ≡ false
no-defer me bindings (action.Defer file bytes retrying) other = absurd other
no-defer me bindings asked other = refl
