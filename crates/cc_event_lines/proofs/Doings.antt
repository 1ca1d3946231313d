-- What a line is, part by part, is what it is by its definition.
use Rattle.std.specs.Prelude.{◌≡◌, ℕ, ◌||◌, List, refl}
use Rattle.std.specs.declared.option.Option.{Option}
use Rattle.std.specs.declared.option.Option.TheVariants.{Some, None}
use Rattle.std.specs.Option.{option_map}
use Rattle.std.proofs.Common.{sym}
use Rattle.std.proofs.lemmas.Option.{same_Some}
use Rattle.cc_entry.specs.Kinds.{is_map, is_pin, is_repin, is_read_chain, is_write_chain}
use Rattle.cc_entry.specs.declared.call.Call.{Call}
use Rattle.cc_entry.specs.declared.call.Call.TheVariants as call
use Rattle.cc_script.specs.declared.script.Action.{Action}
use Rattle.cc_script.specs.declared.script.Action.TheVariants as action
use Rattle.cc_pieces.specs.Bindings.{Binding, hold_named}
use Rattle.cc_pieces.specs.Events.{Doing, doing_of, held_read, on_hold}
use Rattle.cc_event_lines.specs.Doing.{call_on_file, call_on_hold, call_on_range, called_on, doing_made, event_in, read_on, written_by}

-- a call on a hold, and a read of mapped bytes or else of pinned ones
on-one : (Q : Type 0) (me : ℕ) (o : Option ℕ) (call_on : ℕ → Call) → doing_made {Q = Q} me (called_on (option_map call_on o)) ≡ on_hold o call_on
on-one Q me None call_on = refl
on-one Q me (Some id) call_on = refl

read-one : (Q : Type 0) (me : ℕ) (mapped pinned : Option ℕ) (at len : ℕ) → doing_made {Q = Q} me (called_on (read_on mapped pinned at len)) ≡ held_read mapped pinned at len
read-one Q me (Some id) pinned at len = refl
read-one Q me None None at len = refl
read-one Q me None (Some id) at len = refl

some-none : {A : Type 0} (a : A) → Some a ≡ None → ⊥
some-none a is = absurd (cc)

-- a line that is no event, no call on a file and copies no bytes is a call on a hold, or names none
pub on-hold : (Q : Type 0) (me : ℕ) (bindings : List Binding) (asked : Action) → event_in me asked ≡ None → call_on_range asked ≡ None → call_on_file asked ≡ None → written_by me bindings asked ≡ None → doing_made {Q = Q} me (called_on (call_on_hold bindings asked)) ≡ doing_of me bindings asked
on-hold Q me bindings (action.Initialise file sizes quota temporary) none_first none_range none_file none_written = absurd (some-none _ none_file)
on-hold Q me bindings (action.Uninitialise file truncate) none_first none_range none_file none_written = absurd (some-none _ none_file)
on-hold Q me bindings (action.CopyRead file at len wait) none_first none_range none_file none_written = absurd (some-none _ none_range)
on-hold Q me bindings (action.CopyWrite file at bytes) none_first none_range none_file none_written = absurd (some-none _ none_written)
on-hold Q me bindings (action.Zero file span) none_first none_range none_file none_written = absurd (some-none _ none_range)
on-hold Q me bindings (action.Map file at len word) none_first none_range none_file none_written = absurd (some-none _ none_range)
on-hold Q me bindings (action.PinRead file at len word exclusive) none_first none_range none_file none_written = absurd (some-none _ none_range)
on-hold Q me bindings (action.PinMapped word exclusive) none_first none_range none_file none_written = on-one Q me (hold_named bindings word (is_map)) (λ id. call.PinMapped id exclusive)
on-hold Q me bindings (action.PreparePin file at len word zero exclusive) none_first none_range none_file none_written = absurd (some-none _ none_range)
on-hold Q me bindings (action.HeldRead word at len) none_first none_range none_file none_written = read-one Q me (hold_named bindings word is_map) (hold_named bindings word is_pin) at len
on-hold Q me bindings (action.PinnedWrite word at bytes) none_first none_range none_file none_written = absurd (some-none _ none_written)
on-hold Q me bindings (action.SetDirty word lsn) none_first none_range none_file none_written = on-one Q me (hold_named bindings word (is_pin)) (λ id. call.SetDirty id lsn)
on-hold Q me bindings (action.Unpin word) none_first none_range none_file none_written = on-one Q me (hold_named bindings word (λ k. is_map k || is_pin k)) (λ id. call.EndHold id)
on-hold Q me bindings (action.Repin word made) none_first none_range none_file none_written = on-one Q me (hold_named bindings word (is_pin)) (λ id. call.Repin id)
on-hold Q me bindings (action.UnpinRepinned word through) none_first none_range none_file none_written = on-one Q me (hold_named bindings word (is_repin)) (λ id. call.EndHold id)
on-hold Q me bindings (action.MdlRead file at len word) none_first none_range none_file none_written = absurd (some-none _ none_range)
on-hold Q me bindings (action.MdlWrite file at len word) none_first none_range none_file none_written = absurd (some-none _ none_range)
on-hold Q me bindings (action.MdlBytes word at len) none_first none_range none_file none_written = on-one Q me (hold_named bindings word (is_read_chain)) (λ id. call.MdlBytes id at len)
on-hold Q me bindings (action.MdlStore word at bytes) none_first none_range none_file none_written = absurd (some-none _ none_written)
on-hold Q me bindings (action.MdlDone word) none_first none_range none_file none_written = on-one Q me (hold_named bindings word (λ k. is_read_chain k || is_write_chain k)) (λ id. call.EndHold id)
on-hold Q me bindings (action.MdlAbort word) none_first none_range none_file none_written = on-one Q me (hold_named bindings word (is_write_chain)) (λ id. call.EndHold id)
on-hold Q me bindings (action.NcRead file at len) none_first none_range none_file none_written = refl
on-hold Q me bindings (action.NcWrite file at bytes) none_first none_range none_file none_written = refl
on-hold Q me bindings (action.Read file path at len) none_first none_range none_file none_written = refl
on-hold Q me bindings (action.Write file at bytes) none_first none_range none_file none_written = refl
on-hold Q me bindings (action.Update file at bytes) none_first none_range none_file none_written = refl
on-hold Q me bindings (action.Lock file span exclusive) none_first none_range none_file none_written = refl
on-hold Q me bindings (action.Unlock file id) none_first none_range none_file none_written = refl
on-hold Q me bindings (action.Levels file) none_first none_range none_file none_written = refl
on-hold Q me bindings (action.Settle file) none_first none_range none_file none_written = refl
on-hold Q me bindings (action.Checkpoint streams handle) none_first none_range none_file none_written = refl
on-hold Q me bindings (action.AskAhead file at len) none_first none_range none_file none_written = refl
on-hold Q me bindings action.AheadStep none_first none_range none_file none_written = refl
on-hold Q me bindings (action.AsyncRead file at len) none_first none_range none_file none_written = refl
on-hold Q me bindings action.Complete none_first none_range none_file none_written = refl
on-hold Q me bindings action.Tick none_first none_range none_file none_written = refl
on-hold Q me bindings (action.SetSizes file allocation size) none_first none_range none_file none_written = absurd (some-none _ none_file)
on-hold Q me bindings (action.Query asked) none_first none_range none_file none_written = absurd (some-none _ none_file)
on-hold Q me bindings (action.Flush file span) none_first none_range none_file none_written = absurd (some-none _ none_range)
on-hold Q me bindings (action.Purge file span) none_first none_range none_file none_written = absurd (some-none _ none_range)
on-hold Q me bindings (action.Discard file span) none_first none_range none_file none_written = absurd (some-none _ none_range)
on-hold Q me bindings (action.SetLog file handle) none_first none_range none_file none_written = absurd (some-none _ none_file)
on-hold Q me bindings (action.Append handle bytes) none_first none_range none_file none_written = absurd (some-none _ none_written)
on-hold Q me bindings (action.LogFlush handle lsn) none_first none_range none_file none_written = absurd (some-none _ none_first)
on-hold Q me bindings (action.SetGranularity file bytes) none_first none_range none_file none_written = absurd (some-none _ none_file)
on-hold Q me bindings (action.SetAttributes file no_read_ahead no_write_behind) none_first none_range none_file none_written = absurd (some-none _ none_file)
on-hold Q me bindings (action.SetThreshold file pages) none_first none_range none_file none_written = absurd (some-none _ none_file)
on-hold Q me bindings (action.NcReadPage file page) none_first none_range none_file none_written = absurd (some-none _ none_range)
on-hold Q me bindings (action.NcStorePage file page bytes) none_first none_range none_file none_written = absurd (some-none _ none_written)
on-hold Q me bindings (action.NcWritePage file page) none_first none_range none_file none_written = absurd (some-none _ none_range)
on-hold Q me bindings (action.Fill page) none_first none_range none_file none_written = absurd (some-none _ none_first)
on-hold Q me bindings (action.Drop page) none_first none_range none_file none_written = absurd (some-none _ none_first)
on-hold Q me bindings (action.WriteBegin page) none_first none_range none_file none_written = absurd (some-none _ none_first)
on-hold Q me bindings (action.WriteEnd page) none_first none_range none_file none_written = absurd (some-none _ none_first)
on-hold Q me bindings (action.Sync stream) none_first none_range none_file none_written = absurd (some-none _ none_first)
on-hold Q me bindings action.Scan none_first none_range none_file none_written = absurd (some-none _ none_first)
on-hold Q me bindings (action.Defer file bytes retrying) none_first none_range none_file none_written = absurd (some-none _ none_first)
on-hold Q me bindings action.Post none_first none_range none_file none_written = absurd (some-none _ none_first)

-- a line whose bytes are copied is what was made of it with them
pub written-as : (me : ℕ) (bindings : List Binding) (asked : Action) (it : Doing) → written_by me bindings asked ≡ Some it → it ≡ doing_of me bindings asked
written-as me bindings (action.CopyWrite file at bytes) it is = sym (same_Some _ it is)
written-as me bindings (action.PinnedWrite word at bytes) it is = sym (same_Some _ it is)
written-as me bindings (action.MdlStore word at bytes) it is = sym (same_Some _ it is)
written-as me bindings (action.NcStorePage file page bytes) it is = sym (same_Some _ it is)
written-as me bindings (action.Append handle bytes) it is = sym (same_Some _ it is)
written-as me bindings other it is = absurd (cc)
