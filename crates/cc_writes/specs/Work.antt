-- What is left to do until a call has its pages, while nobody else changes its stream.
use Rattle.std.specs.Prelude.{ℕ, ◌+◌, Bool, true, false, List, [], ◌∷◌, if◌then◌else◌}
use Rattle.std.specs.declared.option.Option.{Option}
use Rattle.std.specs.declared.option.Option.TheVariants.{Some, None}
use Rattle.cc_entry.specs.Pages.{has_page, pages_of}
use Rattle.cc_entry.specs.Place.{Range}
use Rattle.cc_model.specs.History.{Effect}
use Rattle.cc_model.specs.Residency.{is_resident}
use Rattle.cc_model.specs.Touches.{size_of, is_dirty}

-- What is left for a page, by whether it is of the range, resident and dirty: one of the range comes in; any other is
-- written, and goes out.
abbrev pub page_work : Bool → Bool → Bool → ℕ
page_work true resident dirty = if resident then 0 else 1
page_work false resident dirty = (if resident then 1 else 0) + (if dirty then 1 else 0)

-- what is left for these pages
abbrev pub work_on : List Effect → Range → List ℕ → ℕ
work_on h r [] = 0
work_on h r (p ∷ pages) = page_work (has_page r p) (is_resident h p) (is_dirty h p) + work_on h r pages

-- what is left for the pages of a stream
abbrev pub work_left : List Effect → Option Range → ℕ
work_left h None = 0
work_left h (Some r) = work_on h r (pages_of (record { from = 0; to = size_of h }))
