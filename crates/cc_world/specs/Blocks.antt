-- The view blocks that may be mapped, of each a page.
use Rattle.std.specs.Prelude.{◌≡◌, ℕ, ◌/◌, Bool, true, false, ◌&&◌, ◌==◌, List}
use Rattle.std.specs.declared.option.Option.{Option}
use Rattle.std.specs.declared.option.Option.TheVariants.{Some, None}
use Rattle.std.specs.List.{list_any}
use Rattle.cc_entry.specs.declared.call.Call.{Call}
use Rattle.cc_entry.specs.declared.call.Call.TheVariants as call
use Rattle.cc_entry.specs.declared.entry.Entry.{Entry}
use Rattle.cc_entry.specs.declared.entry.Entry.TheVariants as entry
use Rattle.cc_entry.specs.declared.reply.Outcome.TheVariants as outcome
use Rattle.cc_model.specs.History.{Effect, history}
use Rattle.cc_model.specs.Ranges.{span_has}
use Rattle.cc_model.specs.Residency.{is_resident}
use Rattle.cc_world.specs.declared.blocks.PagePlace.{PagePlace}

-- whether a page is of a view block of a stream
abbrev pub is_of_block : ℕ → ℕ → PagePlace → Bool
is_of_block s block place = place.stream == s && (place.page / 64 == block)

-- whether one of these pages is
abbrev pub has_block : List PagePlace → ℕ → ℕ → Bool
has_block pages s block = list_any (is_of_block s block) pages

-- Each resident page has one of its block among these.
abbrev pub BlocksStand : List Entry → List PagePlace → Type 0
BlocksStand past pages = (s p : ℕ) → is_resident (history past s) p ≡ true → has_block pages s (p / 64) ≡ true

-- the page that an entry brings in, where it brings one: a page that comes in, or that is stored
abbrev pub page_brought : Entry → Option PagePlace
page_brought (entry.PageIn pass page from_disk) = Some (record { stream = page.stream; page = page.page })
page_brought (entry.Call pass nth (Some stream) (call.NcStore file page bytes) (outcome.Done reply)) =
    Some (record { stream = stream; page = page })
page_brought other = None

-- the blocks of the one list are all of the other
abbrev pub HasBlocks : List PagePlace → List PagePlace → Type 0
HasBlocks pages more = (s block : ℕ) → has_block pages s block ≡ true → has_block more s block ≡ true
