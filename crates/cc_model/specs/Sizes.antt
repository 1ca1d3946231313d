-- Steps of the two sizes of a stream, and touches of its pages.
use Rattle.std.specs.Prelude.{ℕ, ◌+◌, ◌*◌, Bool, true, false, nat_lt, nat_le, List, [], ◌∷◌, min, max, if◌then◌else◌}
use Rattle.std.specs.declared.option.Option.{Option}
use Rattle.std.specs.declared.option.Option.TheVariants.{Some, None}
use Rattle.cc_entry.specs.Place.{Range}
use Rattle.cc_entry.specs.declared.entry.End.{End}
use Rattle.cc_entry.specs.declared.entry.End.TheVariants as how
use Rattle.cc_entry.specs.Pages.{has_page, pages_of}
use Rattle.cc_model.specs.Holds.{Hold, range_held}

-- the size and the valid data length of a stream
pub record Sizes : Type 0 where
  pub size : ℕ
  pub valid : ℕ

-- the size is set, and the valid data length lowered to it
abbrev pub resized : ℕ → Sizes → Sizes
resized to s = record { size = to; valid = min s.valid to }

-- a size step, where there is one
abbrev pub resized_by : Option ℕ → Sizes → Sizes
resized_by None s = s
resized_by (Some to) s = resized to s

-- a change ends at the place, to which the valid data length rises
abbrev pub raised : ℕ → Sizes → Sizes
raised end s = record { size = s.size; valid = max s.valid end }

-- the range of a noncached page: the page up to the size, and no byte where it begins at the size or past it
abbrev pub stored_range : ℕ → ℕ → Range
stored_range page size =
    record { from = 4096 * page; to = (if nat_lt (4096 * page) size then min (4096 * page + 4096) size else 0) }

-- One touch of a page: a change of a byte of it, or a set-dirty of a pin that has it. Its place is how
-- many effects the stream had had with it.
pub record Touch : Type 0 where
  pub place : ℕ
  pub lsn : Option ℕ

-- a touch, where the range has the page
abbrev pub touched_if : Bool → ℕ → Option ℕ → List Touch → List Touch
touched_if true place lsn rest = record { place = place; lsn = lsn } ∷ rest
touched_if false place lsn rest = rest

-- nothing earlier is left where a size step to this size takes the page away
abbrev pub cut_if : Option ℕ → ℕ → List Touch → List Touch
cut_if None p rest = rest
cut_if (Some to) p rest = if nat_le to (4096 * p) then [] else rest

-- nothing earlier is left where a discard throws the page away
abbrev pub dropped_if : Bool → List Touch → List Touch
dropped_if true rest = []
dropped_if false rest = rest

-- whether the hold of this id has the page
abbrev pub hold_has : Option Hold → ℕ → Bool
hold_has None p = false
hold_has (Some hold) p = has_page (range_held hold) p

-- the pages of the hold of this id
abbrev pub hold_pages : Option Hold → List ℕ
hold_pages None = []
hold_pages (Some hold) = pages_of (range_held hold)

-- whether a transfer ended well
abbrev pub ended_ok : End → Bool
ended_ok how.Good = true
ended_ok how.Failed = false
ended_ok how.NoMemory = false
