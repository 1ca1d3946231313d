-- The resident pages of a stream as contracts see them.
use Rattle.std.specs.Prelude.{◌≡◌, ℕ, ◌*◌, ◌/◌, ◌%◌, ◌<◌, Bool, true, false, not, ◌==◌, List, [], ◌∷◌, ◌++◌, length, slice_index_or, Option, None, Some, is_some, option_and_then}
use Rattle.std.specs.List.{filter, list_any, list_all, range_with_len}
use Rattle.std.specs.Option.{option_map}
use Rattle.std.specs.Int.{div_ceil}
use Rattle.cc_entry.specs.Pages.{block_of, blocks_of, pages_of, has_page}
use Rattle.cc_entry.specs.Place.{Range}
use Rattle.cc_pages.specs.Pages.{PageFrame, page_at as page_in}
use Rattle.cc_views.specs.Views.{MappedViews, ViewFrames, mapped_blocks, frames_at}

-- the frame of a page, or none where the page is not resident
unfoldable pub frame_at : MappedViews → ℕ → Option PageFrame
frame_at m p = option_and_then (λ (frames : ViewFrames). page_in frames (p % 64)) (frames_at m (block_of p))

-- the bytes of a page, or none where it is not resident
unfoldable pub page_bytes_at : MappedViews → ℕ → Option (List ℕ)
page_bytes_at m p = option_map (λ (frame : PageFrame). frame.bytes) (frame_at m p)

-- whether a page is resident
abbrev pub is_resident : MappedViews → ℕ → Bool
is_resident m p = is_some (page_bytes_at m p)

-- whether each page with bytes of the range is
abbrev pub all_resident : MappedViews → Range → Bool
all_resident m r = list_all (is_resident m) (pages_of r)

-- whether a frame, where there is one, is shared with snapshots of it
abbrev pub shares : Option PageFrame → Bool
shares None = false
shares (Some frame) = not frame.owned

-- whether a page is resident and shared
abbrev pub is_shared : MappedViews → ℕ → Bool
is_shared m p = shares (frame_at m p)

-- each resident page with bytes of the range is owned
abbrev pub AllOwned : MappedViews → Range → Type 0
AllOwned m r = (p : ℕ) → has_page r p ≡ true → is_shared m p ≡ false

-- the bytes from a place up to the end of its page, none where a page begins there
abbrev pub rest_of_page : ℕ → Range
rest_of_page at = record { from = at; to = 4096 * div_ceil at 4096 }

-- the byte of the stream at i, or none where its page is not resident
unfoldable pub byte_at : MappedViews → ℕ → Option ℕ
byte_at m i = option_map (λ bytes. slice_index_or bytes (i % 4096) 0) (page_bytes_at m (i / 4096))

-- the mapped blocks, the least recently used first
abbrev pub blocks : MappedViews → List ℕ
blocks m = mapped_blocks m

-- the pages of a block, ascending
abbrev pub pages_in_block : ℕ → List ℕ
pages_in_block block = range_with_len (64 * block) 64

-- whether a block has a resident page
unfoldable pub has_pages : MappedViews → ℕ → Bool
has_pages m block = list_any (is_resident m) (pages_in_block block)

-- whether a block is among some
abbrev pub is_block_among : ℕ → List ℕ → Bool
is_block_among block order = list_any (λ b. b == block) order

-- whether each view block of the range is mapped
abbrev pub all_mapped : MappedViews → Range → Bool
all_mapped m r = list_all (λ block. is_block_among block (blocks m)) (blocks_of r)

-- an order of use without a block
abbrev pub order_without : ℕ → List ℕ → List ℕ
order_without block order = filter (λ b. not (b == block)) order

-- an order of use after these blocks were used, one after the other
abbrev pub used : List ℕ → List ℕ → List ℕ
used [] order = order
used (b ∷ bs) order = used bs (order_without b order ++ b ∷ [])

-- a frame has the bytes of a page
abbrev pub IsFrame : Option PageFrame → Type 0
IsFrame None = Unit {0}
IsFrame (Some frame) = length frame.bytes ≡ 4096

-- each frame has the bytes of a page, each resident page starts below the size, and each mapped block has a
-- resident page
pub record AreResidents (m : MappedViews) : Type 0 where
  pub frames : (p : ℕ) → IsFrame (frame_at m p)
  pub below : (p : ℕ) → is_resident m p ≡ true → 4096 * p < m.size
  pub blocks_have_pages : list_all (has_pages m) (blocks m) ≡ true
