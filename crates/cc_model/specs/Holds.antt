-- Holds: maps, pins, repins and descriptor chains (CcMapData, CcPinRead, CcPinMappedData,
-- CcPreparePinWrite, CcRepinBcb, CcMdlRead, CcPrepareMdlWrite).
use Rattle.std.specs.Prelude.{ℕ, ◌+◌, Bool, true, false, ◌==◌, not, List, [], ◌∷◌, length, map, min, if◌then◌else◌}
use Rattle.std.specs.declared.option.Option.{Option}
use Rattle.std.specs.declared.option.Option.TheVariants.{Some, None}
use Rattle.std.specs.List.{filter, find, list_any, flat_map}
use Rattle.cc_entry.specs.Place.{File, Range}
use Rattle.cc_entry.specs.declared.call.Call.{Call}
use Rattle.cc_entry.specs.declared.call.Call.TheVariants as call
use Rattle.cc_entry.specs.declared.reply.Reply.{Reply}
use Rattle.cc_entry.specs.declared.reply.Reply.TheVariants as reply
use Rattle.cc_entry.specs.declared.hold.HoldKind.{HoldKind}
use Rattle.cc_entry.specs.declared.hold.HoldKind.TheVariants as kind
use Rattle.cc_entry.specs.Pages.{blocks_of, has_page}
use Rattle.cc_model.specs.History.{Effect, Did}

pub record Hold : Type 0 where
  pub id : ℕ
  -- the caller that made it
  pub pass : ℕ
  pub file : File
  pub at : ℕ
  pub len : ℕ
  pub kind : HoldKind
  pub exclusive : Bool
  -- the ranges that pinned writes, or a zeroing prepare, changed since the last set-dirty of the pin
  pub owed : List Range

-- the range of a hold
abbrev pub range_held : Hold → Range
range_held hold = record { from = hold.at; to = hold.at + hold.len }

-- the hold of this id, where it is open
abbrev pub hold_at : List Hold → ℕ → Option Hold
hold_at holds id = find (λ hold. hold.id == id) holds

-- the same holds with the one of this id changed
abbrev pub changed_at : ℕ → (Hold → Hold) → List Hold → List Hold
changed_at id change holds = map (λ hold. if hold.id == id then change hold else hold) holds

-- a hold that a done call with this reply makes, beside those that are open
abbrev pub made : ℕ → ℕ → File → ℕ → ℕ → HoldKind → Bool → List Range → List Hold → List Hold
made id pass file at len its_kind exclusive owed holds =
    record { id = id; pass = pass; file = file; at = at; len = len; kind = its_kind; exclusive = exclusive; owed = owed } ∷ holds

-- a repin: a new hold of the range of the hold that it names
abbrev pub repinned : ℕ → ℕ → Option Hold → List Hold → List Hold
repinned id pass None holds = holds
repinned id pass (Some hold) holds = made id pass hold.file hold.at hold.len kind.Repin false [] holds

-- The id in a reply. In a legal journal it is one more than the number of holds made before.
abbrev pub id_of : Reply → ℕ
id_of (reply.Hold id) = id
id_of reply.Unit = 0
id_of (reply.Read bytes) = 0
id_of (reply.Value value) = 0
id_of (reply.Rows rows) = 0
id_of (reply.Ahead request) = 0
id_of (reply.Whole whole) = 0

-- the open holds after a done call of the pass, whose reply has this id, given those before it
abbrev pub held_after : ℕ → Call → ℕ → List Hold → List Hold
held_after pass (call.Map file at len) id holds = made id pass file at len kind.Map false [] holds
held_after pass (call.PinRead file at len exclusive) id holds = made id pass file at len kind.Pin exclusive [] holds
held_after pass (call.PinMapped hold exclusive) id holds =
    changed_at hold (λ it. record it { kind = kind.Pin; exclusive = exclusive }) holds
held_after pass (call.PreparePin file at len true exclusive) id holds =
    made id pass file at len kind.Pin exclusive (record { from = at; to = at + len } ∷ []) holds
held_after pass (call.PreparePin file at len false exclusive) id holds =
    made id pass file at len kind.Pin exclusive [] holds
held_after pass (call.PinnedWrite hold at bytes) id holds =
    changed_at hold (λ it. record it { owed = record { from = at; to = at + length bytes } ∷ it.owed }) holds
held_after pass (call.SetDirty hold lsn) id holds = changed_at hold (λ it. record it { owed = [] }) holds
held_after pass (call.EndHold hold) id holds = filter (λ it. not (it.id == hold)) holds
held_after pass (call.Repin hold) id holds = repinned id pass (hold_at holds hold) holds
held_after pass (call.MdlRead file at len) id holds = made id pass file at len kind.ReadChain false [] holds
held_after pass (call.MdlWrite file at len) id holds = made id pass file at len kind.WriteChain false [] holds
held_after pass other id holds = holds

-- the open holds of a stream, the newest first
unfoldable pub holds_of : List Effect → List Hold
holds_of [] = []
holds_of (Did pass call reply ∷ h) = held_after pass call (id_of reply) (holds_of h)
holds_of (other ∷ h) = holds_of h

-- the blocks in which open holds have bytes
abbrev pub held_blocks : List Hold → List ℕ
held_blocks holds = flat_map (λ hold. blocks_of (range_held hold)) holds

-- whether an open hold has the page
abbrev pub is_held : List Hold → ℕ → Bool
is_held holds p = list_any (λ hold. has_page (range_held hold) p) holds

-- the lesser of a number and of another, where there is one
abbrev pub lesser : ℕ → Option ℕ → Option ℕ
lesser n None = Some n
lesser n (Some m) = Some (min n m)

-- the least id of the holds that pass a test
abbrev pub least_id : (Hold → Bool) → List Hold → Option ℕ
least_id test [] = None
least_id test (hold ∷ holds) = if test hold then lesser hold.id (least_id test holds) else least_id test holds
