-- What each done call of a pass makes of its holds, entry by entry.
use Rattle.std.specs.Prelude.{◌≡◌, ℕ, ◌+◌, Bool, true, false, ◌==◌, List, [], ◌∷◌, length, refl}
use Rattle.std.specs.declared.option.Option.{Option}
use Rattle.std.specs.declared.option.Option.TheVariants.{Some}
use Rattle.std.specs.Option.{option_map}
use Rattle.std.proofs.Common.{ap}
use Rattle.std.proofs.lemmas.Bool.{eq-eqb}
use Rattle.cc_entry.specs.Place.{File}
use Rattle.cc_entry.specs.declared.call.Call.TheVariants as call
use Rattle.cc_entry.specs.declared.hold.HoldKind.TheVariants as kind
use Rattle.cc_entry.specs.declared.reply.Reply.{Reply}
use Rattle.cc_entry.specs.declared.reply.Reply.TheVariants as reply
use Rattle.cc_entry.specs.declared.reply.Outcome.TheVariants as outcome
use Rattle.cc_entry.specs.declared.entry.Entry.{Entry}
use Rattle.cc_entry.specs.declared.entry.Entry.TheVariants as entry
use Rattle.cc_model.specs.Setup.{Setup}
use Rattle.cc_model.specs.Holds.{Hold}
use Rattle.cc_model.specs.Good.{IsGoodSoFar}
use Rattle.cc_own.specs.Own.{HasHold, hold_of_range}
use Rattle.cc_own.proofs.OwnHolds.{done-changes, done-makes, own-keeps}

pub done-map : (me s nth n : ℕ) (file : File) (at len : ℕ) (past : List Entry) → HasHold me s n (hold_of_range n me file at len kind.Map false []) (entry.Call me nth (Some s) (call.Map file at len) (outcome.Done (reply.Hold n)) ∷ past)
done-map me s nth n file at len past = done-makes me s nth (call.Map file at len) (reply.Hold n) past _ refl

pub done-pin_read : (me s nth n : ℕ) (file : File) (at len : ℕ) (exclusive : Bool) (past : List Entry) → HasHold me s n (hold_of_range n me file at len kind.Pin exclusive []) (entry.Call me nth (Some s) (call.PinRead file at len exclusive) (outcome.Done (reply.Hold n)) ∷ past)
done-pin_read me s nth n file at len exclusive past = done-makes me s nth (call.PinRead file at len exclusive) (reply.Hold n) past _ refl

pub done-prepare_zeroed : (me s nth n : ℕ) (file : File) (at len : ℕ) (exclusive : Bool) (past : List Entry) → HasHold me s n (hold_of_range n me file at len kind.Pin exclusive (record { from = at; to = at + len } ∷ [])) (entry.Call me nth (Some s) (call.PreparePin file at len true exclusive) (outcome.Done (reply.Hold n)) ∷ past)
done-prepare_zeroed me s nth n file at len exclusive past = done-makes me s nth (call.PreparePin file at len true exclusive) (reply.Hold n) past _ refl

pub done-prepare : (me s nth n : ℕ) (file : File) (at len : ℕ) (exclusive : Bool) (past : List Entry) → HasHold me s n (hold_of_range n me file at len kind.Pin exclusive []) (entry.Call me nth (Some s) (call.PreparePin file at len false exclusive) (outcome.Done (reply.Hold n)) ∷ past)
done-prepare me s nth n file at len exclusive past = done-makes me s nth (call.PreparePin file at len false exclusive) (reply.Hold n) past _ refl

pub done-mdl_read : (me s nth n : ℕ) (file : File) (at len : ℕ) (past : List Entry) → HasHold me s n (hold_of_range n me file at len kind.ReadChain false []) (entry.Call me nth (Some s) (call.MdlRead file at len) (outcome.Done (reply.Hold n)) ∷ past)
done-mdl_read me s nth n file at len past = done-makes me s nth (call.MdlRead file at len) (reply.Hold n) past _ refl

pub done-mdl_write : (me s nth n : ℕ) (file : File) (at len : ℕ) (past : List Entry) → HasHold me s n (hold_of_range n me file at len kind.WriteChain false []) (entry.Call me nth (Some s) (call.MdlWrite file at len) (outcome.Done (reply.Hold n)) ∷ past)
done-mdl_write me s nth n file at len past = done-makes me s nth (call.MdlWrite file at len) (reply.Hold n) past _ refl

-- a repin has the range of the hold that it names
pub done-repin : (me s nth n id : ℕ) (hold : Hold) (past : List Entry) → HasHold me s id hold past → HasHold me s n (hold_of_range n me hold.file hold.at hold.len kind.Repin false []) (entry.Call me nth (Some s) (call.Repin id) (outcome.Done (reply.Hold n)) ∷ past)
done-repin me s nth n id hold past has =
    done-makes me s nth (call.Repin id) (reply.Hold n) past _
    (ap (option_map (λ (it : Hold). hold_of_range n me it.file it.at it.len kind.Repin false [])) has.found)

-- a map that is pinned
pub done-pin_mapped : (u : Setup) (me s nth id : ℕ) (hold : Hold) (exclusive : Bool) (r : Reply) (past : List Entry) → IsGoodSoFar u (entry.Call me nth (Some s) (call.PinMapped id exclusive) (outcome.Done r) ∷ past) → HasHold me s id hold past → HasHold me s id (record hold { kind = kind.Pin; exclusive = exclusive }) (entry.Call me nth (Some s) (call.PinMapped id exclusive) (outcome.Done r) ∷ past)
done-pin_mapped u me s nth id hold exclusive r past good has =
    done-changes u me s id hold _ me nth (call.PinMapped id exclusive) r past good has (rw (eq-eqb id id refl) refl)

-- a pinned write is owed
pub done-pinned_write : (u : Setup) (me s nth id : ℕ) (hold : Hold) (at : ℕ) (bytes : List ℕ) (r : Reply) (past : List Entry) → IsGoodSoFar u (entry.Call me nth (Some s) (call.PinnedWrite id at bytes) (outcome.Done r) ∷ past) → HasHold me s id hold past → HasHold me s id (record hold { owed = record { from = at; to = at + length bytes } ∷ hold.owed }) (entry.Call me nth (Some s) (call.PinnedWrite id at bytes) (outcome.Done r) ∷ past)
done-pinned_write u me s nth id hold at bytes r past good has =
    done-changes u me s id hold _ me nth (call.PinnedWrite id at bytes) r past good has (rw (eq-eqb id id refl) refl)

-- nothing is owed after a set-dirty
pub done-set_dirty : (u : Setup) (me s nth id : ℕ) (hold : Hold) (lsn : Option ℕ) (r : Reply) (past : List Entry) → IsGoodSoFar u (entry.Call me nth (Some s) (call.SetDirty id lsn) (outcome.Done r) ∷ past) → HasHold me s id hold past → HasHold me s id (record hold { owed = [] }) (entry.Call me nth (Some s) (call.SetDirty id lsn) (outcome.Done r) ∷ past)
done-set_dirty u me s nth id hold lsn r past good has =
    done-changes u me s id hold _ me nth (call.SetDirty id lsn) r past good has (rw (eq-eqb id id refl) refl)

-- the end of another hold
pub done-end_other : (u : Setup) (me s nth id named : ℕ) (hold : Hold) (stream : Option ℕ) (r : Reply) (past : List Entry) → IsGoodSoFar u (entry.Call me nth stream (call.EndHold named) (outcome.Done r) ∷ past) → (named == id) ≡ false → HasHold me s id hold past → HasHold me s id hold (entry.Call me nth stream (call.EndHold named) (outcome.Done r) ∷ past)
done-end_other u me s nth id named hold stream r past good apart has = own-keeps u me s id hold _ past good apart has
