-- The stamps of the dirty page table's rows.
use Rattle.std.specs.Prelude.{ℕ, List, Option, None, if◌then◌else◌}
use Rattle.std.specs.Option.{option_map}
use Rattle.cc_entry.specs.Lsns.{joined}
use Rattle.cc_entry.specs.declared.entry.Entry.{Entry}
use Rattle.cc_entry.specs.declared.place.DirtyRow.{DirtyRow}
use Rattle.cc_dirty.specs.declared.row.Row.{Row}
use Rattle.cc_model.specs.History.{history}
use Rattle.cc_model.specs.Settings.{log_of}
use Rattle.cc_model.specs.Stamps.{is_log}

-- the LSNs of a row: of what an open transfer took, and of what was touched since
abbrev pub lsns_in : Row → Option (ℕ × ℕ)
lsns_in row = joined row.begun.lsns row.later.lsns

-- LSNs with those of a row
abbrev pub with_row : Option (ℕ × ℕ) → Row → Option (ℕ × ℕ)
with_row lsns row = joined lsns (lsns_in row)

-- what a dirty page table says of a row that has a stamp
abbrev pub answer_for : Row → Option DirtyRow
answer_for row = option_map (λ lsns. record { page = row.page; oldest = lsns.0; newest = lsns.1 }) (lsns_in row)

-- what the dirty page table of one log says of a row
abbrev pub answer_in : List Entry → ℕ → Row → Option DirtyRow
answer_in past log row = if is_log log (log_of (history past row.page.stream)) then answer_for row else None
