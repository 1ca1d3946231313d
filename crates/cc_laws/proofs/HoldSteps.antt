-- How the open holds of a stream step.
use Rattle.std.specs.Prelude.{◌≡◌, ℕ, ◌+◌, Bool, true, false, not, ◌==◌, List, [], ◌∷◌, length, refl}
use Rattle.std.specs.declared.option.Option.{Option}
use Rattle.std.specs.List.{filter}
use Rattle.cc_entry.specs.Place.{File}
use Rattle.cc_entry.specs.declared.call.Call.{Call}
use Rattle.cc_entry.specs.declared.call.Call.TheVariants as call
use Rattle.cc_entry.specs.declared.reply.Reply.{Reply}
use Rattle.cc_entry.specs.declared.entry.End.{End}
use Rattle.cc_entry.specs.declared.hold.HoldKind.TheVariants as kind
use Rattle.cc_model.specs.History.{Effect, Did, CameIn, WentOut, Began, Ended, Synced}
use Rattle.cc_model.specs.Holds.{Hold, hold_at, changed_at, made, repinned, id_of, held_after, holds_of}

-- a call steps the holds by what it makes of them, which computes at each call

pub holds_of-done : (pass : ℕ) (call : Call) (reply : Reply) (h : List Effect) → holds_of (Did pass call reply ∷ h) ≡ held_after pass call (id_of reply) (holds_of h)
unfolding holds_of
holds_of-done pass call reply h = refl

pub holds_of-map : (pass : ℕ) (file : File) (at len : ℕ) (reply : Reply) (h : List Effect) → holds_of (Did pass (call.Map file at len) reply ∷ h) ≡ made (id_of reply) pass file at len kind.Map false [] (holds_of h)
unfolding holds_of
holds_of-map pass file at len reply h = refl

pub holds_of-pin_read : (pass : ℕ) (file : File) (at len : ℕ) (exclusive : Bool) (reply : Reply) (h : List Effect) → holds_of (Did pass (call.PinRead file at len exclusive) reply ∷ h) ≡ made (id_of reply) pass file at len kind.Pin exclusive [] (holds_of h)
unfolding holds_of
holds_of-pin_read pass file at len exclusive reply h = refl

pub holds_of-pin_mapped : (pass : ℕ) (hold : ℕ) (exclusive : Bool) (reply : Reply) (h : List Effect) → holds_of (Did pass (call.PinMapped hold exclusive) reply ∷ h) ≡ changed_at hold (λ it. record it { kind = kind.Pin; exclusive = exclusive }) (holds_of h)
unfolding holds_of
holds_of-pin_mapped pass hold exclusive reply h = refl

pub holds_of-prepare_zeroed : (pass : ℕ) (file : File) (at len : ℕ) (exclusive : Bool) (reply : Reply) (h : List Effect) → holds_of (Did pass (call.PreparePin file at len true exclusive) reply ∷ h) ≡ made (id_of reply) pass file at len kind.Pin exclusive (record { from = at; to = at + len } ∷ []) (holds_of h)
unfolding holds_of
holds_of-prepare_zeroed pass file at len exclusive reply h = refl

pub holds_of-prepare : (pass : ℕ) (file : File) (at len : ℕ) (exclusive : Bool) (reply : Reply) (h : List Effect) → holds_of (Did pass (call.PreparePin file at len false exclusive) reply ∷ h) ≡ made (id_of reply) pass file at len kind.Pin exclusive [] (holds_of h)
unfolding holds_of
holds_of-prepare pass file at len exclusive reply h = refl

pub holds_of-pinned_write : (pass : ℕ) (hold at : ℕ) (bytes : List ℕ) (reply : Reply) (h : List Effect) → holds_of (Did pass (call.PinnedWrite hold at bytes) reply ∷ h) ≡ changed_at hold (λ it. record it { owed = record { from = at; to = at + length bytes } ∷ it.owed }) (holds_of h)
unfolding holds_of
holds_of-pinned_write pass hold at bytes reply h = refl

pub holds_of-set_dirty : (pass : ℕ) (hold : ℕ) (lsn : Option ℕ) (reply : Reply) (h : List Effect) → holds_of (Did pass (call.SetDirty hold lsn) reply ∷ h) ≡ changed_at hold (λ it. record it { owed = [] }) (holds_of h)
unfolding holds_of
holds_of-set_dirty pass hold lsn reply h = refl

pub holds_of-end_hold : (pass : ℕ) (hold : ℕ) (reply : Reply) (h : List Effect) → holds_of (Did pass (call.EndHold hold) reply ∷ h) ≡ filter (λ it. not (it.id == hold)) (holds_of h)
unfolding holds_of
holds_of-end_hold pass hold reply h = refl

pub holds_of-repin : (pass : ℕ) (hold : ℕ) (reply : Reply) (h : List Effect) → holds_of (Did pass (call.Repin hold) reply ∷ h) ≡ repinned (id_of reply) pass (hold_at (holds_of h) hold) (holds_of h)
unfolding holds_of
holds_of-repin pass hold reply h = refl

pub holds_of-mdl_read : (pass : ℕ) (file : File) (at len : ℕ) (reply : Reply) (h : List Effect) → holds_of (Did pass (call.MdlRead file at len) reply ∷ h) ≡ made (id_of reply) pass file at len kind.ReadChain false [] (holds_of h)
unfolding holds_of
holds_of-mdl_read pass file at len reply h = refl

pub holds_of-mdl_write : (pass : ℕ) (file : File) (at len : ℕ) (reply : Reply) (h : List Effect) → holds_of (Did pass (call.MdlWrite file at len) reply ∷ h) ≡ made (id_of reply) pass file at len kind.WriteChain false [] (holds_of h)
unfolding holds_of
holds_of-mdl_write pass file at len reply h = refl

-- whether a call makes, changes or ends a hold
abbrev pub changes_holds : Call → Bool
changes_holds (call.Map file at len) = true
changes_holds (call.PinRead file at len exclusive) = true
changes_holds (call.PinMapped hold exclusive) = true
changes_holds (call.PreparePin file at len zero exclusive) = true
changes_holds (call.PinnedWrite hold at bytes) = true
changes_holds (call.SetDirty hold lsn) = true
changes_holds (call.EndHold hold) = true
changes_holds (call.Repin hold) = true
changes_holds (call.MdlRead file at len) = true
changes_holds (call.MdlWrite file at len) = true
changes_holds other = false

-- no other call does
held_after-other : (pass : ℕ) (call : Call) (id : ℕ) (holds : List Hold) → changes_holds call ≡ false → held_after pass call id holds ≡ holds
held_after-other pass (call.Map file at len) id holds kept = cc
held_after-other pass (call.PinRead file at len exclusive) id holds kept = cc
held_after-other pass (call.PinMapped hold exclusive) id holds kept = cc
held_after-other pass (call.PreparePin file at len zero exclusive) id holds kept = cc
held_after-other pass (call.PinnedWrite hold at bytes) id holds kept = cc
held_after-other pass (call.SetDirty hold lsn) id holds kept = cc
held_after-other pass (call.EndHold hold) id holds kept = cc
held_after-other pass (call.Repin hold) id holds kept = cc
held_after-other pass (call.MdlRead file at len) id holds kept = cc
held_after-other pass (call.MdlWrite file at len) id holds kept = cc
held_after-other pass other id holds kept = refl

pub holds_of-other : (pass : ℕ) (call : Call) (reply : Reply) (h : List Effect) → changes_holds call ≡ false → holds_of (Did pass call reply ∷ h) ≡ holds_of h
unfolding holds_of
holds_of-other pass call reply h kept = held_after-other pass call (id_of reply) (holds_of h) kept

pub holds_of-came_in : (pass page : ℕ) (from_disk : Bool) (h : List Effect) → holds_of (CameIn pass page from_disk ∷ h) ≡ holds_of h
unfolding holds_of
holds_of-came_in pass page from_disk h = refl

pub holds_of-went_out : (pass page : ℕ) (h : List Effect) → holds_of (WentOut pass page ∷ h) ≡ holds_of h
unfolding holds_of
holds_of-went_out pass page h = refl

pub holds_of-began : (pass page : ℕ) (h : List Effect) → holds_of (Began pass page ∷ h) ≡ holds_of h
unfolding holds_of
holds_of-began pass page h = refl

pub holds_of-ended : (pass page : ℕ) (how : End) (h : List Effect) → holds_of (Ended pass page how ∷ h) ≡ holds_of h
unfolding holds_of
holds_of-ended pass page how h = refl

pub holds_of-synced : (pass : ℕ) (how : End) (h : List Effect) → holds_of (Synced pass how ∷ h) ≡ holds_of h
unfolding holds_of
holds_of-synced pass how h = refl
