-- Why a step stops, by how many places it asks.
use Rattle.std.specs.Prelude.{◌≡◌, ℕ, ◌<◌, ◌≤◌, ◌⊎◌, true, false, Err, length}
use Rattle.std.specs.Result.{IsErrOf}
use Rattle.std.proofs.Common.{ap, arith, inl, inr, sym, subst}
use Rattle.cc_entry.specs.declared.call.Call.{Call}
use Rattle.cc_entry.specs.declared.call.Call.TheVariants as call
use Rattle.cc_entry.specs.declared.error.CcError.{CcError}
use Rattle.cc_entry.specs.declared.error.CcError.TheVariants as error
use Rattle.cc_effects.specs.Asked.{makes_room}
use Rattle.cc_journal.specs.Journal.{JournalState, room_of}
use Rattle.cc_model.specs.Setup.{Setup}
use Rattle.cc_step.specs.Step.{IsReadyWhenFull, IsShort, IsStop, most_asked}

less : (a b c : ℕ) → a < b → b ≤ c → a < c
less a b c below most = omega (arith, below, most)

-- what stops for want of a few places, or of memory, does so for want of more
pub stops-for : {Q : Type 0} (few many : ℕ) (e : CcError) (j : JournalState Q) → few ≤ many → IsStop few e j → IsStop many e j
stops-for few many e j most (inl full) = inl (full.0, less (room_of j) few many full.1 most)
stops-for few many e j most (inr none) = inr (none.0, less 0 few many none.1 most)

some-few : (a b : ℕ) → a < b → 0 < b
some-few a b below = omega (arith, below)

-- and asks a place
pub stop-asks : {Q : Type 0} (asked : ℕ) (e : CcError) (j : JournalState Q) → IsStop asked e j → 0 < asked
stop-asks asked e j (inl full) = some-few (room_of j) asked full.1
stop-asks asked e j (inr none) = none.1

-- a journal that could not reserve one place more, as it says
pub stop-one : {Q : Type 0} (e : CcError) (j : JournalState Q) → (IsErrOf {T = Unit {0}} (Err e) (error.JournalFull (length j.entries)) → room_of j < 1) → (e ≡ error.JournalFull (length j.entries)) ⊎ (e ≡ error.NoMemory) → IsStop 1 e j
stop-one e j full (inl is) = inl (is, full (ap (λ (x : CcError). Err x) is))
stop-one e j full (inr is) = inr (is, omega arith)

-- where no more than one place is asked, that is what was short
pub stops-short : {Q : Type 0} (u : Setup) (s : ℕ) (it : Call) (e : CcError) (j : JournalState Q) → IsStop 1 e j → IsShort u s it e j
stops-short u s it e j (inl full) = inl full.1
stops-short u s it e j (inr none) = inr (subst (λ (x : CcError). IsReadyWhenFull u j.entries s it x) (sym none.0) tt)

-- a call that makes room asks a place at least
pub room-asks : (it : Call) → makes_room it ≡ true → 1 ≤ most_asked it
room-asks (call.PreparePin file at len true exclusive) room = omega arith
room-asks (call.PreparePin file at len false exclusive) room = omega arith
room-asks (call.EndHold hold) room = absurd (cc)
room-asks other room = omega arith
