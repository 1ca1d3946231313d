-- What changes of the resident pages of a stream.
use Rattle.std.specs.Prelude.{◌≡◌, ◌≢◌, ℕ, ◌*◌, ◌/◌, ◌<◌, ◌≤◌, Bool, true, false, ◌&&◌, nat_le, nat_lt, Option, None}
use Rattle.std.specs.Option.{option_map}
use Rattle.cc_entry.specs.Pages.{has_byte, has_page}
use Rattle.cc_entry.specs.Place.{Range}
use Rattle.cc_pages.specs.Pages.{PageFrame}
use Rattle.cc_views.specs.Views.{MappedViews}
use Rattle.cc_resident.specs.Residents.{frame_at, page_bytes_at, byte_at, is_resident, is_shared, blocks}

-- every page but one is as it was
abbrev pub KeepsOthers : MappedViews → MappedViews → ℕ → Type 0
KeepsOthers old new page = (p : ℕ) → p ≢ page → page_bytes_at new p ≡ page_bytes_at old p

-- every page has the bytes that it had, and the blocks are used in the same order: only which frames are
-- shared may change
pub record SameBytes (old new : MappedViews) : Type 0 where
  pub pages : (p : ℕ) → page_bytes_at new p ≡ page_bytes_at old p
  pub blocks : blocks new ≡ blocks old
  pub quota : new.quota ≡ old.quota
  pub size : new.size ≡ old.size

-- a page that was owned is still owned
abbrev pub StaysOwned : MappedViews → MappedViews → Type 0
StaysOwned old new = (p : ℕ) → is_shared old p ≡ false → is_shared new p ≡ false

-- only pages with bytes of a range came to be owned, and none came to be shared but there
abbrev pub OwnsOnly : MappedViews → MappedViews → Range → Type 0
OwnsOnly old new range = (p : ℕ) → has_page range p ≡ false → is_shared new p ≡ is_shared old p

-- no page but one came to be shared, or owned
abbrev pub SharesOnly : MappedViews → MappedViews → ℕ → Type 0
SharesOnly old new page = (p : ℕ) → p ≢ page → is_shared new p ≡ is_shared old p

-- The bytes of a range become these, where their page is resident; every other byte is as it was, the same
-- pages are resident, and the same are shared.
pub record CoversRange (old new : MappedViews) (range : Range) (byte : ℕ → ℕ) : Type 0 where
  pub inside : (i : ℕ) → has_byte range i ≡ true → byte_at new i ≡ option_map (λ _. byte i) (byte_at old i)
  pub outside : (i : ℕ) → has_byte range i ≡ false → byte_at new i ≡ byte_at old i
  pub pages : (p : ℕ) → is_resident new p ≡ is_resident old p
  pub shared : (p : ℕ) → is_shared new p ≡ is_shared old p

-- A stream is cut to a size: the pages that start at or past it are gone, the others are still resident
-- with their bytes, but for those at or past the size, which are 0.
pub record Cuts (old new : MappedViews) (size : ℕ) : Type 0 where
  pub gone : (p : ℕ) → size ≤ 4096 * p → page_bytes_at new p ≡ None
  pub kept : (p : ℕ) → 4096 * p < size → is_resident new p ≡ is_resident old p
  pub below : (i : ℕ) → i < size → byte_at new i ≡ byte_at old i
  pub past : (i : ℕ) → size ≤ i → 4096 * (i / 4096) < size → byte_at new i ≡ option_map (λ _. 0) (byte_at old i)

-- whether a number is one of those from a first one up to, and without, another
abbrev pub is_number_between : ℕ → ℕ → ℕ → Bool
is_number_between from to i = nat_le from i && nat_lt i to

-- Of the steps: the frame of one page becomes so, and every other one is as it was
pub record Puts (old new : MappedViews) (page : ℕ) (frame : Option PageFrame) : Type 0 where
  pub here : frame_at new page ≡ frame
  pub others : (p : ℕ) → p ≢ page → frame_at new p ≡ frame_at old p
  pub quota : new.quota ≡ old.quota
  pub size : new.size ≡ old.size

-- Of the steps: only pages from one up to, and without, another came to be owned or shared
abbrev pub OwnsBetween : MappedViews → MappedViews → ℕ → ℕ → Type 0
OwnsBetween old new from to = (p : ℕ) → is_number_between from to p ≡ false → is_shared new p ≡ is_shared old p

-- every frame is as it was
pub record KeepsFrames (old new : MappedViews) : Type 0 where
  pub frames : (p : ℕ) → frame_at new p ≡ frame_at old p
  pub quota : new.quota ≡ old.quota
  pub size : new.size ≡ old.size

-- every frame whose page passes a test is gone, and every other one is as it was
pub record Clears (old new : MappedViews) (test : ℕ → Bool) : Type 0 where
  pub gone : (p : ℕ) → test p ≡ true → frame_at new p ≡ None
  pub kept : (p : ℕ) → test p ≡ false → frame_at new p ≡ frame_at old p
  pub quota : new.quota ≡ old.quota
  pub size : new.size ≡ old.size

-- each byte of a resident page whose place passes a test is 0, every other one is as it was, and the same
-- pages are resident and shared
pub record Zeroes (old new : MappedViews) (test : ℕ → Bool) : Type 0 where
  pub inside : (i : ℕ) → test i ≡ true → byte_at new i ≡ option_map (λ _. 0) (byte_at old i)
  pub outside : (i : ℕ) → test i ≡ false → byte_at new i ≡ byte_at old i
  pub pages : (p : ℕ) → is_resident new p ≡ is_resident old p
  pub shared : (p : ℕ) → is_shared new p ≡ is_shared old p

-- the pages that start at or past a size are gone, and every other frame is as it was
pub record CutsPages (old new : MappedViews) (size : ℕ) : Type 0 where
  pub gone : (p : ℕ) → size ≤ 4096 * p → frame_at new p ≡ None
  pub kept : (p : ℕ) → 4096 * p < size → frame_at new p ≡ frame_at old p
  pub quota : new.quota ≡ old.quota
  pub sized : new.size ≡ size
