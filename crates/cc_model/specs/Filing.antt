-- Under which stream a call is filed, and which hold it may name.
use Rattle.std.specs.Prelude.{◌≡◌, ℕ, ◌+◌, Bool, true, false, ◌&&◌, ◌==◌, nat_le, List, length}
use Rattle.std.specs.declared.option.Option.{Option}
use Rattle.std.specs.declared.option.Option.TheVariants.{Some, None}
use Rattle.cc_entry.specs.Place.{File}
use Rattle.cc_entry.specs.declared.hold.HoldKind.{HoldKind}
use Rattle.cc_entry.specs.declared.call.Call.{Call}
use Rattle.cc_entry.specs.declared.call.Call.TheVariants as call
use Rattle.cc_model.specs.Holds.{Hold, hold_at}
use Rattle.cc_entry.specs.Kinds.{is_map, is_pin, is_read_chain, is_write_chain}

-- whether an open hold was made by the pass and is of a kind
abbrev pub serves : ℕ → (HoldKind → Bool) → Option Hold → Bool
serves pass of_kind None = false
serves pass of_kind (Some hold) = hold.pass == pass && of_kind hold.kind

-- whether it has the n bytes from `at` on too
abbrev pub serves_range : ℕ → (HoldKind → Bool) → ℕ → ℕ → Option Hold → Bool
serves_range pass of_kind at n None = false
serves_range pass of_kind at n (Some hold) =
    (hold.pass == pass && of_kind hold.kind) && (nat_le hold.at at && nat_le (at + n) (hold.at + hold.len))

-- A call that names a file is filed under the file's stream. One that names a hold is filed where that
-- hold is open, was made by this pass, is of the kind that the call needs and has the range. A query
-- that names no file is filed under no stream.
abbrev pub IsFiled : List Hold → ℕ → Option ℕ → Call → Option File → Type 0
IsFiled holds pass stream (call.PinMapped hold exclusive) file = serves pass is_map (hold_at holds hold) ≡ true
IsFiled holds pass stream (call.MappedRead hold at len) file = serves_range pass is_map at len (hold_at holds hold) ≡ true
IsFiled holds pass stream (call.PinnedRead hold at len) file = serves_range pass is_pin at len (hold_at holds hold) ≡ true
IsFiled holds pass stream (call.PinnedWrite hold at bytes) file =
    serves_range pass is_pin at (length bytes) (hold_at holds hold) ≡ true
IsFiled holds pass stream (call.SetDirty hold lsn) file = serves pass is_pin (hold_at holds hold) ≡ true
IsFiled holds pass stream (call.EndHold hold) file = serves pass (λ its_kind. true) (hold_at holds hold) ≡ true
IsFiled holds pass stream (call.Repin hold) file = serves pass is_pin (hold_at holds hold) ≡ true
IsFiled holds pass stream (call.MdlBytes hold at len) file =
    serves_range pass is_read_chain at len (hold_at holds hold) ≡ true
IsFiled holds pass stream (call.MdlStore hold at bytes) file =
    serves_range pass is_write_chain at (length bytes) (hold_at holds hold) ≡ true
IsFiled holds pass stream (call.Query query) None = stream ≡ None
IsFiled holds pass stream other None = ⊥
IsFiled holds pass stream other (Some file) = stream ≡ Some file.stream
