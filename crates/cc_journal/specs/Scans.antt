-- What the lazy writer's scans left, and the pages that it looks at.
use Rattle.std.specs.Prelude.{◌≡◌, ℕ, Bool, false, List, Option, slice_index_or}
use Rattle.cc_entry.specs.Place.{Page}
use Rattle.cc_entry.specs.declared.entry.Entry.{Entry}
use Rattle.cc_dirty.specs.declared.row.Row.{Row}
use Rattle.cc_model.specs.Pick.{last_total, cursor}

-- how many pages the last scan looked at, and the last page that was picked, are those of a past
abbrev pub ScansStand : List Entry → ℕ → Option Page → Type 0
ScansStand past total last = (total ≡ last_total past) × (last ≡ cursor past)

-- whether a row's stream is marked
abbrev pub is_marked : List Bool → Row → Bool
is_marked marks row = slice_index_or marks row.page.stream false
