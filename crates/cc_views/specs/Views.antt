-- The mapped view blocks of a stream in order of use.
use Rattle.std.specs.Prelude.{◌≡◌, ℕ, ◌≤◌, if◌then◌else◌, nat_eq, List, [], ◌∷◌, ◌++◌, length, Option, None, Some, IsSome}
use Rattle.std.specs.List.{IsDistinct, list_any}
use Rattle.std.specs.Map.{keys_of, lookup, remove_entry, set_value}
use Rattle.std.specs.Option.{option_map_or}
use Rattle.cc_pages.specs.Pages.{PageFrame, page_at}
use Rattle.cc_vacb.specs.Index.{StartsBelow}

-- the pages of a view block, each there, owned or shared, or none
abbrev pub ViewFrames : Type 0
ViewFrames = List (Option PageFrame)

-- the mapped blocks of a stream with their frames, from the least to the most recently used
pub record MappedViews : Type 0 where
  pub views : List (ℕ × ViewFrames)
  pub quota : ℕ
  pub size : ℕ

-- the mapped blocks, from the least to the most recently used
abbrev pub mapped_blocks : MappedViews → List ℕ
mapped_blocks m = keys_of m.views

-- the frames of a block, or none where it is not mapped
abbrev pub frames_at : MappedViews → ℕ → Option ViewFrames
frames_at m block = lookup (nat_eq block) m.views

-- the views without a block
abbrev pub without_view : List (ℕ × ViewFrames) → ℕ → List (ℕ × ViewFrames)
without_view views block = remove_entry (nat_eq block) views

-- the views after a use of a block: it goes last, and one that is not mapped changes nothing
abbrev pub views_after_use : List (ℕ × ViewFrames) → ℕ → List (ℕ × ViewFrames)
views_after_use views block = option_map_or (λ frames. without_view views block ++ (block, frames) ∷ []) (lookup (nat_eq block) views) views

-- the views with other frames of a block
abbrev pub with_frames : List (ℕ × ViewFrames) → ℕ → ViewFrames → List (ℕ × ViewFrames)
with_frames views block frames = set_value (nat_eq block) views frames

-- a block is mapped last, with no page
pub record MapsLast (old new : MappedViews) (block : ℕ) : Type 0 where
  pub frames : ViewFrames
  pub empty : (i : ℕ) → page_at frames i ≡ None
  pub last : new.views ≡ old.views ++ (block, frames) ∷ []

-- the first of some blocks that is not kept
abbrev pub first_not_in : List ℕ → List ℕ → Option ℕ
first_not_in kept [] = None
first_not_in kept (block ∷ blocks) = if list_any (λ k. nat_eq k block) kept then first_not_in kept blocks else Some block

-- no block is mapped twice, each starts below the size, and there are at most as many as the quota
pub record ViewsAreSound (m : MappedViews) : Type 0 where
  pub distinct : IsDistinct nat_eq (mapped_blocks m)
  pub below : (block : ℕ) → IsSome (frames_at m block) → StartsBelow block m.size
  pub within : length m.views ≤ m.quota
