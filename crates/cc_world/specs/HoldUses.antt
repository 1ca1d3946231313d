-- What a call asks of the hold that it names, and whether an open hold serves it.
use Rattle.std.specs.Prelude.{ℕ, ◌+◌, Bool, true, false, ◌&&◌, ◌==◌, nat_le, List, [], length}
use Rattle.std.specs.declared.option.Option.{Option}
use Rattle.std.specs.declared.option.Option.TheVariants.{Some, None}
use Rattle.cc_entry.specs.declared.call.Call.{Call}
use Rattle.cc_entry.specs.declared.call.Call.TheVariants as call
use Rattle.cc_entry.specs.declared.hold.HoldKind.{HoldKind}
use Rattle.cc_entry.specs.declared.hold.HoldKind.TheVariants as kind
use Rattle.cc_entry.specs.declared.hold.HoldRow.{HoldRow}
use Rattle.cc_entry.specs.Kinds.{is_map, is_pin, is_read_chain, is_repin, is_write_chain}
use Rattle.cc_model.specs.Holds.{Hold, hold_at}
use Rattle.cc_world.specs.declared.filed.HoldUse.{HoldUse}

-- a hold of this id and kind, and with these bytes
abbrev pub hold_use : ℕ → HoldKind → Option (ℕ × ℕ) → Option HoldUse
hold_use hold its_kind range = Some (record { hold = hold; kind = Some its_kind; range = range })

-- what a call asks of the hold that it names, where it names one
abbrev pub use_of : Call → Option HoldUse
use_of (call.PinMapped hold exclusive) = hold_use hold kind.Map None
use_of (call.MappedRead hold at len) = hold_use hold kind.Map (Some (at, len))
use_of (call.PinnedRead hold at len) = hold_use hold kind.Pin (Some (at, len))
use_of (call.PinnedWrite hold at bytes) = hold_use hold kind.Pin (Some (at, length bytes))
use_of (call.SetDirty hold lsn) = hold_use hold kind.Pin None
use_of (call.EndHold hold) = Some (record { hold = hold; kind = None; range = None })
use_of (call.Repin hold) = hold_use hold kind.Pin None
use_of (call.MdlBytes hold at len) = hold_use hold kind.ReadChain (Some (at, len))
use_of (call.MdlStore hold at bytes) = hold_use hold kind.WriteChain (Some (at, length bytes))
use_of other = None

-- whether a kind is the one that is asked, where one is
abbrev pub is_of_kind : Option HoldKind → HoldKind → Bool
is_of_kind None its_kind = true
is_of_kind (Some kind.Map) its_kind = is_map its_kind
is_of_kind (Some kind.Pin) its_kind = is_pin its_kind
is_of_kind (Some kind.Repin) its_kind = is_repin its_kind
is_of_kind (Some kind.ReadChain) its_kind = is_read_chain its_kind
is_of_kind (Some kind.WriteChain) its_kind = is_write_chain its_kind

-- whether a hold has the bytes that are asked, where any are
abbrev pub hold_has_range : Option (ℕ × ℕ) → Hold → Bool
hold_has_range None hold = true
hold_has_range (Some range) hold = nat_le hold.at range.0 && nat_le (range.0 + range.1) (hold.at + hold.len)

-- the hold of a row, that this pass made, with no bytes for which it owes a stamp
abbrev pub hold_in_row : ℕ → HoldRow → Hold
hold_in_row maker row = record {
  id = row.id;
  pass = maker;
  file = row.file;
  at = row.at;
  len = row.len;
  kind = row.kind;
  exclusive = row.exclusive;
  owed = [];
}

-- whether a hold was made by the pass, is of the kind that is asked and has the bytes
abbrev pub fits : ℕ → HoldUse → Hold → Bool
fits pass asked hold = (hold.pass == pass && is_of_kind asked.kind hold.kind) && hold_has_range asked.range hold

-- whether an open hold does
abbrev pub serves_use : ℕ → HoldUse → Option Hold → Bool
serves_use pass asked None = false
serves_use pass asked (Some hold) = fits pass asked hold

-- whether the open hold that a call names serves it, where it names one
abbrev pub is_served : ℕ → List Hold → Option HoldUse → Bool
is_served pass holds None = true
is_served pass holds (Some asked) = serves_use pass asked (hold_at holds asked.hold)
