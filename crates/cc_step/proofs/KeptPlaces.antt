-- A call that asks no place: an owed set-dirty, or the end of a hold. Nothing refuses it, it has no range, it takes no
-- memory, and its places are reserved.
use Rattle.std.specs.Prelude.{◌≡◌, ℕ, ◌+◌, ◌-◌, ◌<◌, ◌≤◌, Bool, true, false, List, ◌∷◌, None, refl, if◌then◌else◌}
use Rattle.std.proofs.Common.{ap, ◌∙◌, arith}
use Rattle.cc_entry.specs.declared.call.Call.{Call}
use Rattle.cc_entry.specs.declared.call.Call.TheVariants as call
use Rattle.cc_entry.specs.declared.entry.Entry.{Entry}
use Rattle.cc_entry.specs.declared.reply.Reply.TheVariants as reply
use Rattle.cc_book.specs.Book.{BookState, Gains, done, takes_memory}
use Rattle.cc_journal.specs.Calls.{owed_end}
use Rattle.cc_journal.specs.Journal.{JournalState}
use Rattle.cc_model.specs.Good.{IsGood}
use Rattle.cc_model.specs.History.{Effect, history}
use Rattle.cc_model.specs.Holds.{Hold, hold_at, holds_of}
use Rattle.cc_model.specs.Refusals.{refusal}
use Rattle.cc_model.specs.Room.{owes_set_dirty, places_asked}
use Rattle.cc_model.specs.Setup.{Setup}
use Rattle.cc_step.proofs.Attempts.{owed-after}
use Rattle.cc_step.proofs.Placed.{good-done}
use Rattle.cc_step.specs.Step.{is_stepped, places_spared, asked_now, MayStep, IsReadyFor, IsReplyOf, AddsOwing}

-- it is one of the two
abbrev pub AsksNone : Call → Type 0
AsksNone (call.SetDirty hold lsn) = Unit {0}
AsksNone (call.EndHold hold) = Unit {0}
AsksNone other = ⊥

pub asks-none : (holds : List Hold) (it : Call) → places_asked holds it ≡ 0 → AsksNone it
asks-none holds (call.SetDirty hold lsn) asks = tt
asks-none holds (call.EndHold hold) asks = tt
asks-none holds (call.PinnedWrite hold at bytes) asks = go (owes_set_dirty (hold_at holds hold)) 0 asks refl
  where
    go : (b : Bool) (n : ℕ) → (if b then 1 else 2) ≡ n → n ≡ 0 → ⊥
    go true n is none = absurd (cc)
    go false n is none = absurd (cc)
asks-none holds (call.PreparePin file at len true exclusive) asks = absurd (cc)
asks-none holds (call.PreparePin file at len false exclusive) asks = absurd (cc)
asks-none holds other asks = absurd (cc)

none-refused : (u : Setup) (past : List Entry) (h : List Effect) (it : Call) → AsksNone it → refusal u past h it ≡ None
unfolding refusal
none-refused u past h (call.SetDirty hold lsn) none = refl
none-refused u past h (call.EndHold hold) none = refl
none-refused u past h other none = absurd none

pub none-ready : (u : Setup) (past : List Entry) (s : ℕ) (it : Call) → AsksNone it → IsReadyFor u past s it
none-ready u past s (call.SetDirty hold lsn) none = record { admitted = none-refused u past (history past s) (call.SetDirty hold lsn) none; filled = tt }
none-ready u past s (call.EndHold hold) none = record { admitted = none-refused u past (history past s) (call.EndHold hold) none; filled = tt }
none-ready u past s other none = absurd none

pub none-reply : (u : Setup) (past : List Entry) (s pass : ℕ) (it : Call) → AsksNone it → IsReplyOf u past s pass it reply.Unit
none-reply u past s pass (call.SetDirty hold lsn) none = refl
none-reply u past s pass (call.EndHold hold) none = refl
none-reply u past s pass other none = absurd none

pub none-taken : (it : Call) → AsksNone it → takes_memory it ≡ false
none-taken (call.SetDirty hold lsn) none = refl
none-taken (call.EndHold hold) none = refl
none-taken other none = absurd none

-- its place and those that it gives back are reserved, and what its pass owed before
pub places-reserved : {Q : Type 0} (u : Setup) (pass : ℕ) (it : Call) (b : BookState) (j : JournalState Q) → b.stream < 16 → is_stepped it ≡ true → MayStep u pass it b j → asked_now j.entries b.stream it ≡ 0 → (1 + places_spared (holds_of (history j.entries b.stream)) it) + owed_end j.entries pass ≤ j.reserved
places-reserved u pass it b j below stepped may asks = within _ _ _ _ _ _ (owed-after u pass it reply.Unit b j below stepped may) asks may.owed
  where
    within : (owed after spared before asked reserved : ℕ) → (owed + after) + (1 + spared) ≡ before + asked → asked ≡ 0 → before ≤ reserved → (1 + spared) + owed ≤ reserved
    within owed after spared before asked reserved is none most = omega (arith, is, none, most)

-- with them given back the journal has reserved what its past owes
pub adds-released : {Q : Type 0} (u : Setup) (pass spared : ℕ) (it : Call) (b : BookState) (j k : JournalState Q) → b.stream < 16 → is_stepped it ≡ true → MayStep u pass it b j → asked_now j.entries b.stream it ≡ 0 → spared ≡ places_spared (holds_of (history j.entries b.stream)) it → Gains (done pass j.entries b.stream it reply.Unit) j k → AddsOwing (done pass j.entries b.stream it reply.Unit) j (record k { reserved = (k.reserved - spared) - owed_end j.entries pass })
adds-released {Q} u pass spared it b j k below stepped may asks same placed =
    ap (λ (x : JournalState Q). record x { reserved = (x.reserved - spared) - owed_end j.entries pass }) placed
    ∙ ap (λ (n : ℕ). record j { entries = done pass j.entries b.stream it reply.Unit ∷ j.entries; reserved = n; rows = k.rows })
    (numbers _ _ _ _ _ _ (owed-after u pass it reply.Unit b j below stepped may) same asks may.owed)
  where
    numbers : (owed after its before asked reserved : ℕ) → (owed + after) + (1 + its) ≡ before + asked → spared ≡ its → asked ≡ 0 → before ≤ reserved → ((reserved - 1) - spared) - owed ≡ after + (reserved - before)
    numbers owed after its before asked reserved is so none most = omega (arith, is, so, none, most)

-- a good journal stays good with the entry of such a call
pub good-none : {Q : Type 0} (u : Setup) (pass : ℕ) (it : Call) (b : BookState) (j : JournalState Q) → is_stepped it ≡ true → MayStep u pass it b j → asked_now j.entries b.stream it ≡ 0 → IsGood u (done pass j.entries b.stream it reply.Unit ∷ j.entries)
good-none u pass it b j stepped may asks =
    let none = asks-none (holds_of (history j.entries b.stream)) it asks in
    good-done u j.entries pass b.stream it reply.Unit stepped may.stand.good may.filed (none-ready u j.entries b.stream it none) (none-reply u j.entries b.stream pass it none)
