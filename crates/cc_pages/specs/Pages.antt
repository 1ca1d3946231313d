-- The pages of a view block as contracts see them.
use Rattle.std.specs.Prelude.{◌≡◌, ◌≢◌, ℕ, ◌+◌, Bool, true, false, List, ◌++◌, Option, None, Some, length, map, take, drop, slice_index_or}
use Rattle.std.specs.Option.{option_map}
use Rattle.cc_pages.specs.declared.frames.Kept.{Kept}
use Rattle.cc_pages.specs.declared.frames.Kept.TheVariants as kept
use Rattle.cc_pages.specs.declared.frames.Frame.{Frame}

-- a page: its bytes, and whether it is owned, or shared with the snapshots that were made of it
pub record PageFrame : Type 0 where
  pub bytes : List ℕ
  pub owned : Bool

-- page i of a block, or none where the block has no such page
abbrev pub page_at : List (Option PageFrame) → ℕ → Option PageFrame
page_at pages i = slice_index_or pages i None

-- its bytes
abbrev pub bytes_at : List (Option PageFrame) → ℕ → Option (List ℕ)
bytes_at pages i = option_map (λ (page : PageFrame). page.bytes) (page_at pages i)

-- whether page i is there and owned
abbrev pub is_owned : Option PageFrame → Bool
is_owned None = false
is_owned (Some page) = page.owned

-- a page with these bytes that is owned, and one that is shared
abbrev pub owned : List ℕ → PageFrame
owned bytes = record { bytes = bytes; owned = true }

abbrev pub shared : List ℕ → PageFrame
shared bytes = record { bytes = bytes; owned = false }

-- the bytes of a page after bytes are written into it at a place
abbrev pub overwritten : List ℕ → ℕ → List ℕ → List ℕ
overwritten page at bytes = take at page ++ bytes ++ drop (at + length bytes) page

-- every page but page i is as it was
abbrev pub KeepsOtherFrames : List (Option PageFrame) → List (Option PageFrame) → ℕ → Type 0
KeepsOtherFrames old new i = (k : ℕ) → k ≢ i → page_at new k ≡ page_at old k

-- A snapshot was made of a page: it has the page's bytes, and the page is shared. Where there is no page,
-- there is no snapshot.
abbrev pub Snapshot : Option PageFrame → Option PageFrame → Option Frame → Type 0
Snapshot None new None = new ≡ None
Snapshot None new (Some frame) = ⊥
Snapshot (Some page) new None = ⊥
Snapshot (Some page) new (Some frame) = (frame ≡ page.bytes) × (new ≡ Some (shared page.bytes))

-- the page that is kept so
abbrev pub kept_page : Kept → PageFrame
kept_page (kept.Owned frame) = owned frame.value
kept_page (kept.Shared frame) = shared frame.value

-- the page in a slot
abbrev pub page_in_slot : Option Kept → Option PageFrame
page_in_slot slot = option_map kept_page slot

-- the pages in the slots
abbrev pub pages_in : List (Option Kept) → List (Option PageFrame)
pages_in slots = map page_in_slot slots
