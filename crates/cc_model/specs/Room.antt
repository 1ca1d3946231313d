-- Room in the journal: what is owed to entries that have to find a place later.
use Rattle.std.specs.Prelude.{Option, Bool, ℕ, suc, ◌+◌, ◌-◌, true, false, not, ◌&&◌, List, [], ◌∷◌, length, is_some, if◌then◌else◌}
use Rattle.std.specs.List.{sum_by}
use Rattle.std.specs.Prelude.{Some, None}
use Rattle.cc_entry.specs.declared.call.Call.{Call}
use Rattle.cc_entry.specs.declared.call.Call.TheVariants as call
use Rattle.cc_entry.specs.declared.entry.Entry.{Entry}
use Rattle.cc_entry.specs.declared.entry.Entry.TheVariants as entry
use Rattle.cc_model.specs.Setup.{Setup}
use Rattle.cc_model.specs.Numbers.{is_empty, is_among}
use Rattle.cc_model.specs.History.{Effect, history}
use Rattle.cc_model.specs.Holds.{Hold, hold_at, holds_of}
use Rattle.cc_entry.specs.Kinds.{is_pin}
use Rattle.cc_model.specs.Images.{open_of}
use Rattle.cc_model.specs.Cache.{all_streams}
use Rattle.cc_model.specs.Passes.{is_store, store_of, is_the_page}

-- an open hold owes its end, and a pin that changed bytes a set-dirty too
abbrev pub owed_by_hold : Hold → ℕ
owed_by_hold hold = if is_pin hold.kind && not (is_empty hold.owed) then 2 else 1

-- whether an open hold, where there is one, is a pin that changed bytes and was not set dirty since
abbrev pub owes_set_dirty : Option Hold → Bool
owes_set_dirty None = false
owes_set_dirty (Some hold) = is_pin hold.kind && not (is_empty hold.owed)

-- a stream owes what its holds owe, and the end of its open transfer
abbrev pub owed_by_stream : List Effect → ℕ
owed_by_stream h = sum_by owed_by_hold (holds_of h) + (if is_some (open_of h) then 1 else 0)

-- How many places a call asks that is done: that of its entry, and those that it reserves with it. A hold reserves its
-- end; a zeroing prepare, and the first write through a pin since its last set-dirty, reserve the set-dirty. A
-- set-dirty that was reserved, and an end, ask none.
abbrev pub places_asked : List Hold → Call → ℕ
places_asked holds (call.Map file at len) = 2
places_asked holds (call.PinRead file at len exclusive) = 2
places_asked holds (call.PreparePin file at len true exclusive) = 3
places_asked holds (call.PreparePin file at len false exclusive) = 2
places_asked holds (call.Repin hold) = 2
places_asked holds (call.MdlRead file at len) = 2
places_asked holds (call.MdlWrite file at len) = 2
places_asked holds (call.PinnedWrite hold at bytes) = if owes_set_dirty (hold_at holds hold) then 1 else 2
places_asked holds (call.SetDirty hold lsn) = if owes_set_dirty (hold_at holds hold) then 0 else 1
places_asked holds (call.EndHold hold) = 0
places_asked holds other = 1

-- how many passes, but for those listed, have a done noncached store as their last call: each owes the
-- end of that write
unfoldable pub stores_unfinished : List ℕ → List Entry → ℕ
stores_unfinished seen [] = 0
stores_unfinished seen (entry.Call pass nth stream call ended ∷ past) =
    elim (is_among pass seen) [
      | true ↦ stores_unfinished seen past
      | false ↦ (if is_store call ended then 1 else 0) + stores_unfinished (pass ∷ seen) past
    ]
stores_unfinished seen (other ∷ past) = stores_unfinished seen past

-- the entries that are reserved in a journal
unfoldable pub reserved_in : List Entry → ℕ
reserved_in past = sum_by (λ s. owed_by_stream (history past s)) all_streams + stores_unfinished [] past

-- the room that is left, where so many entries are reserved for device and log calls under way
unfoldable pub room_in : Setup → List Entry → ℕ → ℕ
room_in u past under_way = u.capacity - (length past + (reserved_in past + under_way))

-- whether a call is the end of the noncached write whose store is the pass's last call
abbrev pub finishes : List Entry → ℕ → Option ℕ → Call → Bool
finishes past pass (Some s) (call.NcWrite file page) = is_the_page (record { stream = s; page = page }) (store_of past pass)
finishes past pass stream other = false

-- Another call of a pass whose store is unfinished gives the room of that store's end away: it doesn't
-- pay for the call.
abbrev pub forgone : List Entry → Entry → ℕ
forgone past (entry.Call pass nth stream call ended) =
    if is_some (store_of past pass) && not (finishes past pass stream call) then 1 else 0
forgone past other = 0

-- What an append asks: its own place and what it newly reserves, less what was reserved for it. A place
-- that was kept for a device or log call under way is given back before the append asks.
unfoldable pub asked_by : List Entry → Entry → ℕ
asked_by past e = suc (reserved_in (e ∷ past) + forgone past e) - reserved_in past

-- what several entries ask at once, the first one first, as a noncached store with its begin
abbrev pub asked_by_all : List Entry → List Entry → ℕ
asked_by_all past [] = 0
asked_by_all past (e ∷ entries) = asked_by past e + asked_by_all (e ∷ past) entries
