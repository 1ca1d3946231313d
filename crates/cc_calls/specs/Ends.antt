-- What the calls that make, use and end holds leave.
use Rattle.std.specs.Prelude.{◌≡◌, ◌==◌, ℕ, ◌^◌, Bool, true, false, Result, Ok, Err, IfOk, IfErr, IsOk, OnOk, List, length}
use Rattle.std.specs.declared.option.Option.{Option}
use Rattle.std.specs.declared.option.Option.TheVariants.{Some}
use Rattle.cc_entry.specs.Place.{File}
use Rattle.cc_entry.specs.declared.call.Call.{Call}
use Rattle.cc_entry.specs.declared.call.Call.TheVariants as call
use Rattle.cc_entry.specs.declared.error.CcError.{CcError}
use Rattle.cc_entry.specs.declared.hold.HoldKind.{HoldKind}
use Rattle.cc_entry.specs.declared.hold.HoldKind.TheVariants as kind
use Rattle.cc_entry.specs.declared.reply.Outcome.{Outcome}
use Rattle.cc_entry.specs.declared.reply.Outcome.TheVariants as outcome
use Rattle.cc_entry.specs.declared.reply.Reply.TheVariants as reply
use Rattle.cc_entry.specs.Kinds.{is_map, is_pin}
use Rattle.cc_effects.specs.Calls.{CallLeft}
use Rattle.cc_effects.specs.Repins.{UnpinLeft}
use Rattle.cc_model.specs.Good.{IsGood}
use Rattle.cc_model.specs.History.{history}
use Rattle.cc_model.specs.Holds.{holds_of, hold_at}
use Rattle.cc_turns.specs.Standing.{Standing}
use Rattle.cc_effects.specs.Begins.{BeginsAscending}
use Rattle.cc_writes.specs.Calls.{IsFullWriting}
use Rattle.cc_writes.specs.Hands.{Went}
use Rattle.cc_writes.specs.Ways.{IsFull, IsFullOn}
use Rattle.cc_calls.specs.Answers.{CallEnds, outcome_of}
use Rattle.cc_calls.specs.Flushes.{IsDurable}
use Rattle.cc_calls.specs.Pages.{IsFullFor, CallWithPagesLeft, StaysGood, WentOn}
use Rattle.cc_calls.specs.Held.{IsHolding, held_range}
use Rattle.cc_calls.specs.declared.held.Held.{Held}
use Rattle.cc_model.specs.Room.{owes_set_dirty}

-- how the entry of a call says that it ended, whose caller was answered a hold, or failed
abbrev pub hold_outcome : Result Held CcError → Outcome
hold_outcome (Ok held) = outcome.Done (reply.Hold held.id)
hold_outcome (Err e) = outcome.Failed e

-- what a caller holds of a range
abbrev pub held_of_range : File → ℕ → ℕ → ℕ → Held
held_of_range file at len id = record { file = file; id = id; at = at; len = len }

-- the kind of the hold that a call makes of a range that it names
abbrev pub kind_made : Call → HoldKind
kind_made (call.Map file at len) = kind.Map
kind_made (call.PinRead file at len exclusive) = kind.Pin
kind_made (call.PreparePin file at len zero exclusive) = kind.Pin
kind_made (call.MdlRead file at len) = kind.ReadChain
kind_made (call.MdlWrite file at len) = kind.WriteChain
kind_made other = kind.Repin

-- whether a call makes a hold of so many bytes of a file from a place on
abbrev pub MakesHold : Call → File → ℕ → ℕ → Type 0
MakesHold (call.Map its_file its_at its_len) file at len = (its_file ≡ file) × (its_at ≡ at) × (its_len ≡ len)
MakesHold (call.PinRead its_file its_at its_len exclusive) file at len = (its_file ≡ file) × (its_at ≡ at) × (its_len ≡ len)
MakesHold (call.PreparePin its_file its_at its_len zero exclusive) file at len =
    (its_file ≡ file) × (its_at ≡ at) × (its_len ≡ len)
MakesHold (call.MdlRead its_file its_at its_len) file at len = (its_file ≡ file) × (its_at ≡ at) × (its_len ≡ len)
MakesHold (call.MdlWrite its_file its_at its_len) file at len = (its_file ≡ file) × (its_at ≡ at) × (its_len ≡ len)
MakesHold other file at len = ⊥

-- whether a call reads so many bytes through a hold
abbrev pub fills : Call → ℕ → Bool
fills (call.MappedRead hold at len) n = len == n
fills (call.PinnedRead hold at len) n = len == n
fills (call.MdlBytes hold at len) n = len == n
fills other n = false

-- whether a call changes bytes through a hold, or sets them dirty
abbrev pub writes_through : Call → Bool
writes_through (call.PinnedWrite hold at bytes) = true
writes_through (call.SetDirty hold lsn) = true
writes_through (call.MdlStore hold at bytes) = true
writes_through other = false

-- A call that makes a hold of a range was answered so. What it hands over has the range that was asked, and the pass
-- has it, of such a kind.
pub record MakingEnds (old new : Standing) (of_kind : HoldKind → Bool) (file : File) (at len : ℕ) (it : Call)
    (answer : Result Held CcError) : Type 0 where
  pub pages : CallWithPagesLeft old new it (hold_outcome answer)
  pub full : IsFullFor it old new answer
  pub range : IfOk answer (λ held. held ≡ held_of_range file at len held.id)
  pub holding : IfOk answer (IsHolding new of_kind)

-- A call on a hold was answered so, and the pass has the hold still. It finds the journal full only where there is no room for
-- what it asks of the hold as it is.
pub record UseEnds (old new : Standing) (of_kind : HoldKind → Bool) (held : Held) (it : Call)
    (answer : Result (Unit {0}) CcError) : Type 0 where
  pub call_ends : CallEnds outcome_of old new it answer
  pub room : IsFullOn held.file.stream it new answer
  pub holding : IsHolding new of_kind held

-- how the entry of a read says that it ended, which fills what the caller handed in, or fails
abbrev pub filled_outcome : Result (Unit {0}) CcError → List ℕ → Outcome
filled_outcome (Ok done) out = outcome.Done (reply.Read out)
filled_outcome (Err e) out = outcome.Failed e

-- what the caller handed in is as it was where there is no answer
abbrev pub KeptOnErr : Result (Unit {0}) CcError → List ℕ → List ℕ → Type 0
KeptOnErr (Ok done) was now = length now ≡ length was
KeptOnErr (Err e) was now = now ≡ was

-- A read through a hold was answered so: all that the caller handed in is filled. The pass has the hold still.
pub record HeldReadEnds (old new : Standing) (of_kind : HoldKind → Bool) (held : Held) (it : Call)
    (answer : Result (Unit {0}) CcError) (was now : List ℕ) : Type 0 where
  pub left : CallLeft old.setup old.number it (filled_outcome answer now) old.seen new.seen
  pub full : IsFull 1 new answer
  pub goes_on : Went old new
  pub good : StaysGood old new
  pub kept : KeptOnErr answer was now
  pub holding : IsHolding new of_kind held

-- the map, where the call failed, or else the pin
abbrev pub pinned_answer : Result Held (Held × CcError) → Result Held CcError
pinned_answer (Ok held) = Ok held
pinned_answer (Err (back, e)) = Err e

-- A pin of a map was answered so: the hold is a pin with the id and the range that it had, or the map comes back.
pub record PinMappedEnds (old new : Standing) (mapped : Held) (exclusive : Bool)
    (answer : Result Held (Held × CcError)) : Type 0 where
  pub call_ends : CallEnds hold_outcome old new (call.PinMapped mapped.id exclusive) (pinned_answer answer)
  pub pinned : IfOk answer (λ held. (held ≡ mapped) × IsHolding new is_pin held)
  pub back : IfErr answer (λ failed. (failed.0 ≡ mapped) × IsHolding new is_map failed.0)

-- a pin owes a set-dirty, as the pass has seen it: bytes were changed through it, or its prepare zeroed them, since its
-- last one
abbrev pub OwesSetDirty : Standing → Held → Type 0
OwesSetDirty w held = owes_set_dirty (hold_at (holds_of (history w.seen held.file.stream)) held.id) ≡ true

-- A set-dirty of a pin was answered so. One that the pin owed did not fail.
pub record SetDirtyEnds (old new : Standing) (pinned : Held) (lsn : Option ℕ)
    (answer : Result (Unit {0}) CcError) : Type 0 where
  pub use_ends : UseEnds old new is_pin pinned (call.SetDirty pinned.id lsn) answer
  pub sure : OwesSetDirty old pinned → IsOk answer

-- A hold was ended: its entry is placed, the pass goes on as it stood and may call again, and what it has seen is good.
pub record HoldEnded (old new : Standing) (held : Held) : Type 0 where
  pub left : CallLeft old.setup old.number (call.EndHold held.id) (outcome.Done reply.Unit) old.seen new.seen
  pub goes_on : Went old new
  pub good : IsGood old.setup new.seen

-- A repin of a pin was answered so: it has a range of its own, and the pass has both.
pub record RepinEnds (old new : Standing) (of_kind : HoldKind → Bool) (pinned : Held) (answer : Result Held CcError) : Type 0 where
  pub call_ends : CallEnds hold_outcome old new (call.Repin pinned.id) answer
  pub range : IfOk answer (λ held. held ≡ held_of_range pinned.file pinned.at pinned.len held.id)
  pub holding : IfOk answer (IsHolding new of_kind)
  pub pinned_still : IsHolding new is_pin pinned

-- The end of a repin was answered so. The pages that it began to write ascend, and it finds the journal full only where a flush
-- of its range does. Without write through nothing refuses it. With write through, and done, the range is durable: a sync
-- settled each touch of it that was there as the call began.
pub record UnpinEnds (old new : Standing) (repinned : Held) (through : Bool) (answer : Result (Unit {0}) CcError) : Type 0 where
  pub left : UnpinLeft old.setup old.number repinned.id through (outcome_of answer) old.seen new.seen
  pub full : IsFullWriting (call.Flush repinned.file (Some (held_range repinned))) new answer
  pub goes_on : WentOn old new
  pub good : IsGood old.setup new.seen
  pub ascending : BeginsAscending old.number 0 (2 ^ 51) old.seen new.seen
  pub sure : through ≡ false → IsOk answer
  pub durable : through ≡ true →
      OnOk answer (IsDurable old.setup old.number repinned.file.stream (Some (held_range repinned)) old.seen new.seen)
