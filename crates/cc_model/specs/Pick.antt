-- The lazy writer's pick.
use Rattle.std.specs.Prelude.{ℕ, ◌+◌, ◌-◌, ◌*◌, ◌/◌, Bool, true, not, ◌&&◌, ◌||◌, ◌==◌, nat_lt, nat_le, List, [], ◌∷◌, ◌++◌, length, min, take, if◌then◌else◌}
use Rattle.std.specs.declared.option.Option.{Option}
use Rattle.std.specs.declared.option.Option.TheVariants.{Some, None}
use Rattle.std.specs.List.{filter}
use Rattle.cc_entry.specs.Place.{Page}
use Rattle.cc_entry.specs.declared.entry.Entry.{Entry}
use Rattle.cc_entry.specs.declared.entry.Entry.TheVariants as entry
use Rattle.cc_model.specs.Setup.{Setup}
use Rattle.cc_model.specs.Cache.{lazy_pages}

-- how many pages the lazy writer looked at in its last scan, 0 before the first
unfoldable pub last_total : List Entry → ℕ
last_total [] = 0
last_total (entry.Scan pass picked ∷ past) = length (lazy_pages past)
last_total (other ∷ past) = last_total past

-- the last of a list, where it has one
abbrev pub last_of : List Page → Option Page
last_of [] = None
last_of (page ∷ []) = Some page
last_of (page ∷ next ∷ pages) = last_of (next ∷ pages)

-- the last page of the last scan that picked one
unfoldable pub cursor : List Entry → Option Page
cursor [] = None
cursor (entry.Scan pass picked ∷ past) = elim (last_of picked) [ None ↦ cursor past | Some page ↦ Some page ]
cursor (other ∷ past) = cursor past

-- whether a page stands after the cursor, by stream and page
abbrev pub is_after : Option Page → Page → Bool
is_after None page = true
is_after (Some last) page = nat_lt last.stream page.stream || (last.stream == page.stream && nat_lt last.page page.page)

-- how many of `total` pages are written at once: all up to 8, else one in eight
abbrev pub base_pick : ℕ → ℕ
base_pick total = if nat_le total 8 then total else total / 8

-- how many pages are picked: the base, and by how far what is left and what has come since exceed three
-- quarters of the threshold
abbrev pub pick_count : ℕ → ℕ → ℕ → ℕ
pick_count threshold total before =
    let base = base_pick total in
    min total (base + (((total - base) + (total - before)) - (3 * threshold) / 4))

-- the pages that a scan picks: so many of those that the lazy writer looks at, from the cursor on, then
-- round from the first
unfoldable pub pick : Setup → List Entry → List Page
pick u past =
    let pages = lazy_pages past in
    let last = cursor past in
    take
    (pick_count u.threshold (length pages) (last_total past))
    (filter (is_after last) pages ++ filter (λ page. not (is_after last page)) pages)
