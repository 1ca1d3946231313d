-- Which pages a done call changes in place, that they are owned, and what a copy or a snapshot leaves.
use Rattle.std.specs.Prelude.{◌≡◌, ℕ, true, List, length, Option, None, Some}
use Rattle.std.specs.Option.{option_map}
use Rattle.cc_entry.specs.Pages.{whole_range}
use Rattle.cc_entry.specs.Place.{Range}
use Rattle.cc_entry.specs.declared.call.Call.{Call}
use Rattle.cc_entry.specs.declared.call.Call.TheVariants as call
use Rattle.cc_views.specs.Views.{MappedViews}
use Rattle.cc_resident.specs.Residents.{is_shared, AllOwned, rest_of_page}
use Rattle.cc_resident.specs.Changes.{SameBytes, OwnsOnly}
use Rattle.cc_model.specs.History.{Effect}
use Rattle.cc_content.specs.Contents.{Contents, ContentsStand}

-- the bytes that a done call changes in place, where it changes some: those that it writes or zeroes, and those
-- of a page past the size that it sets, where the page goes on below it
abbrev pub changed_range : Call → Option ℕ → Option Range
changed_range (call.CopyWrite file at bytes) truncation = Some (whole_range at (length bytes))
changed_range (call.PinnedWrite hold at bytes) truncation = Some (whole_range at (length bytes))
changed_range (call.MdlStore hold at bytes) truncation = Some (whole_range at (length bytes))
changed_range (call.Zero file span) truncation = Some span
changed_range (call.PreparePin file at len true exclusive) truncation = Some (whole_range at len)
changed_range (call.SetSizes file allocation size) truncation = Some (rest_of_page size)
changed_range (call.Uninitialise file truncate) truncation = option_map rest_of_page truncation
changed_range other truncation = None

-- where pages are kept, those with bytes of the range, where there is one, are owned
abbrev pub AllOwnedAmong : Option MappedViews → Option Range → Type 0
AllOwnedAmong (Some m) (Some r) = AllOwned m r
AllOwnedAmong other r = Unit {0}

-- the pages that a done call changes in place are owned; the last is the size that an uninitialise sets
abbrev pub OwnsChanged : Contents → Call → Option ℕ → Type 0
OwnsChanged c call truncation = AllOwnedAmong c.pages (changed_range call truncation)

-- where pages are kept, only those with bytes of the range, where there is one, came to be owned
abbrev pub OwnsOnlyAmong : Option MappedViews → Option MappedViews → Option Range → Type 0
OwnsOnlyAmong (Some old) (Some new) (Some r) = OwnsOnly old new r
OwnsOnlyAmong (Some old) (Some new) None = (p : ℕ) → is_shared new p ≡ is_shared old p
OwnsOnlyAmong old new r = Unit {0}

-- only pages that a done call changes in place came to be owned
abbrev pub OwnsOnlyChanged : Contents → Contents → Call → Option ℕ → Type 0
OwnsOnlyChanged old new call truncation = OwnsOnlyAmong old.pages new.pages (changed_range call truncation)

-- there is a map with the same pages and bytes, or there was and is none
abbrev pub SameMap : Option MappedViews → Option MappedViews → Type 0
SameMap None None = Unit {0}
SameMap (Some old) (Some new) = SameBytes old new
SameMap old new = ⊥

-- The valid data length, the map and the bytes of each page are as they were, and the contents stand for what
-- they stood for: only which pages are owned may have changed.
pub record SameContents (old new : Contents) : Type 0 where
  pub valid : new.valid ≡ old.valid
  pub map : SameMap old.pages new.pages
  pub stands : (opening : Option (ℕ → List ℕ)) (h : List Effect) → ContentsStand opening h old
      → ContentsStand opening h new
