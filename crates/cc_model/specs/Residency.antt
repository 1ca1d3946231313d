-- Resident pages, mapped view blocks and the order in which the blocks were last used.
use Rattle.std.specs.Prelude.{ℕ, ◌*◌, Bool, true, false, not, ◌==◌, nat_eq, nat_lt, List, [], ◌∷◌, ◌++◌, map, if◌then◌else◌}
use Rattle.std.specs.declared.option.Option.{Option}
use Rattle.std.specs.declared.option.Option.TheVariants.{Some, None}
use Rattle.std.specs.List.{filter, list_any, list_all}
use Rattle.std.specs.Set.{distinct_count}
use Rattle.cc_entry.specs.Place.{Range}
use Rattle.cc_entry.specs.Pages.{block_of, blocks_of, pages_of}
use Rattle.cc_model.specs.Numbers.{is_among, without}
use Rattle.cc_model.specs.History.{Effect, Did, CameIn, WentOut, Began, Ended, Synced}
use Rattle.cc_model.specs.Acts.{act_of, Opens, Closes, Resizes, Writes, Zeroes, Stores, Stamps, Discards, Looks}
use Rattle.cc_model.specs.Objects.{objects, truncation}
use Rattle.cc_model.specs.Touches.{size_of, is_mapped}
use Rattle.cc_model.specs.Ranges.{range_of, uses_no_block, span_has}

-- a size step cuts the pages that begin at the new size or past it
abbrev pub below : Option ℕ → List ℕ → List ℕ
below None pages = pages
below (Some to) pages = filter (λ p. nat_lt (4096 * p) to) pages

-- what an effect makes of the resident pages, given the stream before it
abbrev pub moved_by : Effect → List Effect → List ℕ → List ℕ
moved_by (Did pass call reply) h pages =
    elim (act_of call) [
      | Closes file truncate ↦ below (truncation (objects h) (size_of h) file truncate) pages
      | Resizes allocation size ↦ below (Some size) pages
      | Stores page bytes ↦ page ∷ without page pages
      | Opens file sizes quota temporary ↦ pages
      | Writes at bytes ↦ pages
      | Zeroes from to ↦ pages
      | Stamps hold lsn ↦ pages
      | Discards span ↦ filter (λ p. not (span_has span p)) pages
      | Looks ↦ pages
    ]
moved_by (CameIn pass page from_disk) h pages = page ∷ without page pages
moved_by (WentOut pass page) h pages = without page pages
moved_by (Began pass page) h pages = pages
moved_by (Ended pass page how) h pages = pages
moved_by (Synced pass how) h pages = pages

-- The resident pages of a stream. A page comes in from the disk, as zeros or by a noncached store; it
-- goes out, or goes with a size step, with a discard or with the map.
unfoldable pub residents : List Effect → List ℕ
residents [] = []
residents (e ∷ h) = elim (is_mapped (e ∷ h)) [ true ↦ moved_by e h (residents h) | false ↦ [] ]

-- whether a page is resident
abbrev pub is_resident : List Effect → ℕ → Bool
is_resident h p = is_among p (residents h)

-- whether each page of the range is
abbrev pub all_resident : List Effect → Range → Bool
all_resident h r = list_all (is_resident h) (pages_of r)

-- whether a view block has a resident page
abbrev pub block_is_mapped : List Effect → ℕ → Bool
block_is_mapped h b = list_any (λ p. block_of p == b) (residents h)

-- how many view blocks have one
abbrev pub mapped_block_count : List Effect → ℕ
mapped_block_count h = distinct_count nat_eq (map block_of (residents h))

-- how many would have one with this page
abbrev pub mapped_blocks_with : List Effect → ℕ → ℕ
mapped_blocks_with h p = distinct_count nat_eq (block_of p ∷ map block_of (residents h))

-- the blocks of a call's range, where it has one
abbrev pub blocks_of_range : Option Range → List ℕ
blocks_of_range None = []
blocks_of_range (Some r) = blocks_of r

-- the blocks that an effect uses, in order, given the stream before it
abbrev pub used_by : Effect → List Effect → List ℕ
used_by (Did pass call reply) h =
    if uses_no_block call reply then [] else blocks_of_range (range_of (size_of h) call)
used_by (CameIn pass page from_disk) h = block_of page ∷ []
used_by (WentOut pass page) h = []
used_by (Began pass page) h = []
used_by (Ended pass page how) h = []
used_by (Synced pass how) h = []

-- an order of use after these blocks were used, one after the other
abbrev pub used : List ℕ → List ℕ → List ℕ
used [] order = order
used (b ∷ bs) order = used bs (without b order ++ b ∷ [])

-- the mapped blocks by their last use, the least recently used first
unfoldable pub order_of_use : List Effect → List ℕ
order_of_use [] = []
order_of_use (e ∷ h) = filter (block_is_mapped (e ∷ h)) (used (used_by e h) (order_of_use h))
