-- What holds of the whole cache: its streams, holds, views and dirty pages.
use Rattle.std.specs.Prelude.{ℕ, ◌+◌, Bool, true, false, not, ◌&&◌, List, [], ◌∷◌, length, map, if◌then◌else◌}
use Rattle.std.specs.List.{range_with_len, sum_by, list_any, flat_map}
use Rattle.cc_entry.specs.Place.{Page}
use Rattle.cc_entry.specs.declared.call.Call.{Call}
use Rattle.cc_entry.specs.declared.call.Call.TheVariants as call
use Rattle.cc_entry.specs.declared.reply.Outcome.TheVariants as outcome
use Rattle.cc_entry.specs.declared.entry.Entry.{Entry}
use Rattle.cc_entry.specs.declared.entry.Entry.TheVariants as entry
use Rattle.cc_model.specs.Numbers.{is_empty}
use Rattle.cc_model.specs.History.{Effect, history}
use Rattle.cc_model.specs.Touches.{dirty_pages, is_mapped}
use Rattle.cc_model.specs.Settings.{quota_of, is_temporary, has_no_write_behind}

-- the numbers of all streams
abbrev pub all_streams : List ℕ
all_streams = range_with_len 0 16

-- whether a call makes a hold where it is done
abbrev pub makes_hold : Call → Bool
makes_hold (call.Map file at len) = true
makes_hold (call.PinRead file at len exclusive) = true
makes_hold (call.PreparePin file at len zero exclusive) = true
makes_hold (call.Repin hold) = true
makes_hold (call.MdlRead file at len) = true
makes_hold (call.MdlWrite file at len) = true
makes_hold other = false

-- how many holds an entry made
abbrev pub holds_made_by : Entry → ℕ
holds_made_by (entry.Call pass nth stream call (outcome.Done reply)) = if makes_hold call then 1 else 0
holds_made_by other = 0

-- how many holds were ever made, over all streams
unfoldable pub holds_made : List Entry → ℕ
holds_made [] = 0
holds_made (e ∷ past) = holds_made_by e + holds_made past

-- the views that a stream takes from the pool of 256: its quota, while it is mapped
abbrev pub views_of : List Effect → ℕ
views_of h = if is_mapped h then quota_of h else 0

-- the views that all mapped streams take
unfoldable pub views_taken : List Entry → ℕ
views_taken past = sum_by (λ s. views_of (history past s)) all_streams

-- how many pages of a stream are dirty
abbrev pub dirty_count : List Effect → ℕ
dirty_count h = length (dirty_pages h)

-- how many pages of all streams are dirty
unfoldable pub dirty_total : List Entry → ℕ
dirty_total past = sum_by (λ s. dirty_count (history past s)) all_streams

-- whether a page of some stream is dirty (CcIsThereDirtyData)
unfoldable pub is_any_dirty : List Entry → Bool
is_any_dirty past = list_any (λ s. not (is_empty (dirty_pages (history past s)))) all_streams

-- the dirty pages that the lazy writer looks at: those of streams that are neither temporary nor
-- without write-behind, by stream and page
abbrev pub written_behind : List Entry → ℕ → List Page
written_behind past s =
    let h = history past s in
    if not (is_temporary h) && not (has_no_write_behind h) then map (λ p. record { stream = s; page = p }) (dirty_pages h) else []

unfoldable pub lazy_pages : List Entry → List Page
lazy_pages past = flat_map (written_behind past) all_streams
