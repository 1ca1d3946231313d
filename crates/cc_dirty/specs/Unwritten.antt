-- What is unwritten of a page.
use Rattle.std.specs.Prelude.{ℕ, Bool, true, false, Option, None, Some, is_some, min, if◌then◌else◌}
use Rattle.cc_dirty.specs.declared.row.Unwritten.{Unwritten}
use Rattle.cc_dirty.specs.declared.row.Row.{Row}
use Rattle.cc_entry.specs.Lsns.{joined as joined_lsns, lsn_alone}
use Rattle.cc_entry.specs.Place.{Page}

abbrev pub nothing_unwritten : Unwritten
nothing_unwritten = record { oldest = None; lsns = None }

-- the lower of two places, where there are any
abbrev pub lower : Option ℕ → Option ℕ → Option ℕ
lower None b = b
lower (Some a) None = Some a
lower (Some a) (Some b) = Some (min a b)

abbrev pub joined_unwritten : Unwritten → Unwritten → Unwritten
joined_unwritten a b = record { oldest = lower a.oldest b.oldest; lsns = joined_lsns a.lsns b.lsns }

-- with one touch more, at this place
abbrev pub with_touch : Unwritten → ℕ → Option ℕ → Unwritten
with_touch u place lsn = record { oldest = lower u.oldest (Some place); lsns = joined_lsns u.lsns (lsn_alone lsn) }

-- the place of the oldest touch of a row's page that is unwritten: one that a transfer under way took, or a later one
abbrev pub oldest_unwritten_in : Row → Option ℕ
oldest_unwritten_in r = lower r.begun.oldest r.later.oldest

abbrev pub is_touched : Row → Bool
is_touched r = is_some (oldest_unwritten_in r)

-- the row of a page after a touch at a place: what is begun stays apart
abbrev pub touched_row : Page → ℕ → Option ℕ → Option Row → Row
touched_row page place lsn None = record { page = page; begun = nothing_unwritten; later = with_touch nothing_unwritten place lsn }
touched_row page place lsn (Some r) = record r { later = with_touch r.later place lsn }

-- a row after a WriteBegin, which takes all that is unwritten
abbrev pub begun_row : Row → Row
begun_row r = record r { begun = joined_unwritten r.begun r.later; later = nothing_unwritten }

-- a row after the WriteEnd: a good one wrote what was begun, after a failed one all is unwritten again
abbrev pub ended_row : Bool → Row → Row
ended_row true r = record r { begun = nothing_unwritten }
ended_row false r = record r { begun = nothing_unwritten; later = joined_unwritten r.begun r.later }

-- a row stays while something of it is touched
abbrev pub kept_row : Row → Option Row
kept_row r = if is_touched r then Some r else None
