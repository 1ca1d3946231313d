-- What a page that comes in asks, and has.
use Rattle.std.specs.Prelude.{◌≡◌, ℕ, ◌+◌, ◌*◌, ◌<◌, ◌≤◌, ◌⊎◌, true, List, [], ◌∷◌, length, slice_index, Option, None, Some}
use Rattle.std.specs.List.{list_all}
use Rattle.cc_entry.specs.Pages.{block_of}
use Rattle.cc_views.specs.Views.{MappedViews}
use Rattle.cc_resident.specs.Residents.{page_bytes_at, blocks, has_pages, is_block_among, used}
use Rattle.cc_resident.specs.Changes.{KeepsOthers}
use Rattle.cc_model.specs.Bytes.{byte_of}
use Rattle.cc_model.specs.History.{Effect}
use Rattle.cc_model.specs.Touches.{valid_of}
use Rattle.cc_content.specs.Contents.{Contents}

-- a page starts below the size, and its block is mapped or fewer than the quota are
pub record HasRoomInViews (m : MappedViews) (page : ℕ) : Type 0 where
  pub starts : 4096 * page < m.size
  pub room : (is_block_among (block_of page) (blocks m) ≡ true) ⊎ (length (blocks m) < m.quota)

abbrev pub HasRoomAmong : Option MappedViews → ℕ → Type 0
HasRoomAmong None page = ⊥
HasRoomAmong (Some m) page = HasRoomInViews m page

-- there is room for a page: pages are kept, and it has room among them
abbrev pub HasRoomToKeepPage : Contents → ℕ → Type 0
HasRoomToKeepPage c page = HasRoomAmong c.pages page

-- over a disk that tells its opening pages, what was read of a page is the plain file below the valid data
-- length
abbrev pub IsReadFrom : Option (ℕ → List ℕ) → List Effect → ℕ → List ℕ → Type 0
IsReadFrom opening h page raw =
    (pages : ℕ → List ℕ) → opening ≡ Some pages → (i : ℕ) → i < 4096 → 4096 * page + i < valid_of h →
    slice_index raw i ≡ byte_of pages h (4096 * page + i)

-- the bytes below a place are as they were, and those from there on are 0
pub record IsClearedFrom (from : ℕ) (old new : List ℕ) : Type 0 where
  pub below : (i : ℕ) → i < from → slice_index new i ≡ slice_index old i
  pub above : (i : ℕ) → from ≤ i → slice_index new i ≡ 0

-- a page has come in with these bytes, cleared from a place on
pub record Fills (old new : MappedViews) (page from : ℕ) (raw : List ℕ) : Type 0 where
  pub bytes : List ℕ
  pub page_is : page_bytes_at new page ≡ Some bytes
  pub cleared : IsClearedFrom from raw bytes
  pub others : KeepsOthers old new page
  pub order : blocks new ≡ used (block_of page ∷ []) (blocks old)
  pub blocks_have_pages : list_all (has_pages new) (blocks new) ≡ true
  pub quota : new.quota ≡ old.quota
  pub size : new.size ≡ old.size
