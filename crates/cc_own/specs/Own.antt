-- A hold that a pass has, and what done calls make of it.
use Rattle.std.specs.Prelude.{◌≡◌, ℕ, ◌+◌, Bool, true, false, ◌==◌, List, [], ◌∷◌, ◌++◌, length, map, if◌then◌else◌}
use Rattle.std.specs.declared.option.Option.{Option}
use Rattle.std.specs.declared.option.Option.TheVariants.{Some, None}
use Rattle.std.specs.Option.{option_map}
use Rattle.std.specs.List.{list_any}
use Rattle.cc_entry.specs.Place.{File, Range}
use Rattle.cc_entry.specs.declared.call.Call.{Call}
use Rattle.cc_entry.specs.declared.call.Call.TheVariants as call
use Rattle.cc_entry.specs.declared.hold.HoldKind.{HoldKind}
use Rattle.cc_entry.specs.declared.hold.HoldKind.TheVariants as kind
use Rattle.cc_entry.specs.declared.reply.Outcome.TheVariants as outcome
use Rattle.cc_entry.specs.declared.entry.Entry.{Entry}
use Rattle.cc_entry.specs.declared.entry.Entry.TheVariants as entry
use Rattle.cc_model.specs.History.{history}
use Rattle.cc_model.specs.Holds.{Hold, hold_at, holds_of}
use Rattle.cc_effects.specs.Moments.{own}

-- A hold of the pass is open on a stream: it has this id, and stands so.
pub record HasHold (me s id : ℕ) (hold : Hold) (past : List Entry) : Type 0 where
  pub found : hold_at (holds_of (history past s)) id ≡ Some hold
  pub mine : hold.pass ≡ me

-- the ids of open holds
abbrev pub ids_of : List Hold → List ℕ
ids_of holds = map (λ hold. hold.id) holds

-- what a done call makes of the open hold of this id, none where it ends it
abbrev pub hold_after : ℕ → Call → Hold → Option Hold
hold_after id (call.PinMapped named exclusive) hold =
    if named == id then Some (record hold { kind = kind.Pin; exclusive = exclusive }) else Some hold
hold_after id (call.PinnedWrite named at bytes) hold =
    if named == id then Some (record hold { owed = record { from = at; to = at + length bytes } ∷ hold.owed }) else Some hold
hold_after id (call.SetDirty named lsn) hold = if named == id then Some (record hold { owed = [] }) else Some hold
hold_after id (call.EndHold named) hold = if named == id then None else Some hold
hold_after id other hold = Some hold

-- whether a call changes the hold of an id where it is done: a pin of a map, a pinned write, a set-dirty, its end
abbrev pub changes_it : ℕ → Call → Bool
changes_it id (call.PinMapped named exclusive) = named == id
changes_it id (call.PinnedWrite named at bytes) = named == id
changes_it id (call.SetDirty named lsn) = named == id
changes_it id (call.EndHold named) = named == id
changes_it id other = false

-- whether a call names the hold of an id
abbrev pub names_it : ℕ → Call → Bool
names_it id (call.PinMapped named exclusive) = named == id
names_it id (call.MappedRead named at len) = named == id
names_it id (call.PinnedRead named at len) = named == id
names_it id (call.PinnedWrite named at bytes) = named == id
names_it id (call.SetDirty named lsn) = named == id
names_it id (call.EndHold named) = named == id
names_it id (call.Repin named) = named == id
names_it id (call.MdlBytes named at len) = named == id
names_it id (call.MdlStore named at bytes) = named == id
names_it id other = false

-- whether an entry is a done call that changes it
abbrev pub changes_hold : ℕ → Entry → Bool
changes_hold id (entry.Call pass nth stream call (outcome.Done reply)) = changes_it id call
changes_hold id other = false

-- from one moment to another, no entry of the pass changed the hold of the id
pub record IsUnchanged (me id : ℕ) (old new : List Entry) : Type 0 where
  pub during : List Entry
  pub grew : new ≡ during ++ old
  pub unchanged : list_any (changes_hold id) (own me during) ≡ false

-- a hold of a range as a done call makes it
abbrev pub hold_of_range : ℕ → ℕ → File → ℕ → ℕ → HoldKind → Bool → List Range → Hold
hold_of_range id pass file at len its_kind exclusive owed =
    record { id = id; pass = pass; file = file; at = at; len = len; kind = its_kind; exclusive = exclusive; owed = owed }

-- the hold that a done call of the pass makes, whose reply has this id, given the open holds before it
abbrev pub hold_of_done_call : ℕ → ℕ → Call → List Hold → Option Hold
hold_of_done_call id pass (call.Map file at len) holds = Some (hold_of_range id pass file at len kind.Map false [])
hold_of_done_call id pass (call.PinRead file at len exclusive) holds = Some (hold_of_range id pass file at len kind.Pin exclusive [])
hold_of_done_call id pass (call.PreparePin file at len true exclusive) holds =
    Some (hold_of_range id pass file at len kind.Pin exclusive (record { from = at; to = at + len } ∷ []))
hold_of_done_call id pass (call.PreparePin file at len false exclusive) holds =
    Some (hold_of_range id pass file at len kind.Pin exclusive [])
hold_of_done_call id pass (call.Repin named) holds =
    option_map (λ it. hold_of_range id pass it.file it.at it.len kind.Repin false []) (hold_at holds named)
hold_of_done_call id pass (call.MdlRead file at len) holds = Some (hold_of_range id pass file at len kind.ReadChain false [])
hold_of_done_call id pass (call.MdlWrite file at len) holds = Some (hold_of_range id pass file at len kind.WriteChain false [])
hold_of_done_call id pass other holds = None
