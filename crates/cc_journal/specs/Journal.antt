-- The journal as contracts see it.
use Rattle.std.specs.Prelude.{◌≡◌, ℕ, ◌+◌, ◌-◌, ◌^◌, ◌<◌, ◌≤◌, Bool, true, false, List, [], ◌∷◌, length, None}
use Rattle.cc_entry.specs.declared.entry.Entry.{Entry}
use Rattle.cc_entry.specs.declared.hold.Deferral.{Deferral}
use Rattle.cc_dirty.specs.declared.row.Row.{Row}
use Rattle.cc_model.specs.Setup.{Setup}
use Rattle.cc_model.specs.History.{history}
use Rattle.cc_model.specs.Touches.{is_dirty}
use Rattle.cc_model.specs.Cache.{dirty_total}
use Rattle.cc_model.specs.Throttle.{may_go}
use Rattle.cc_journal.specs.Streams.{KeepsTransfersIn}

-- its limits, its entries with the newest first, how many more are promised a place, the rows of the dirty
-- page table, and the deferred writes that wait with their routines, the head first
pub record JournalState (Q : Type 0) : Type 0 where
  pub capacity : ℕ
  pub threshold : ℕ
  pub logs : ℕ
  pub entries : List Entry
  pub reserved : ℕ
  pub rows : List Row
  pub queue : List (Deferral × Q)

-- how many entries more may be reserved
abbrev pub room_of : {Q : Type 0} → JournalState Q → ℕ
room_of j = j.capacity - (length j.entries + j.reserved)

-- An entry may be pushed after a past: its stream has one transfer at a time, and after it each dirty page has
-- a number, and there are no more of them than the cache may have.
pub record MayBePushed (past : List Entry) (e : Entry) : Type 0 where
  pub transfers : KeepsTransfersIn past e
  pub numbered : (s p : ℕ) → is_dirty (history (e ∷ past) s) p ≡ true → p < 2 ^ 51
  pub few : dirty_total (e ∷ past) ≤ 16384

-- a setup of which only the threshold is said
abbrev pub limited : ℕ → Setup
limited threshold = record { opening = λ s. None; logs = 0; capacity = 0; threshold = threshold }

-- whether a write waits, and the one at the head of the queue may go
abbrev pub head_may_go : Setup → List Entry → List Deferral → Bool
head_may_go u past [] = false
head_may_go u past (head ∷ rest) = may_go u past head.file.stream head.pages
