-- Stamps: the LSNs of changes that are not yet written, and the pages that still owe one.
use Rattle.std.specs.Prelude.{ℕ, Bool, false, ◌&&◌, ◌==◌, List, [], ◌∷◌, if◌then◌else◌}
use Rattle.std.specs.declared.option.Option.{Option}
use Rattle.std.specs.declared.option.Option.TheVariants.{Some, None}
use Rattle.std.specs.List.{list_any, flat_map, filter_map, range_with_len}
use Rattle.std.specs.Option.{option_map}
use Rattle.cc_entry.specs.declared.entry.Entry.{Entry}
use Rattle.cc_entry.specs.Kinds.{is_pin}
use Rattle.cc_entry.specs.Lsns.{joined, lsn_alone}
use Rattle.cc_entry.specs.declared.place.DirtyRow.{DirtyRow}
use Rattle.cc_entry.specs.Pages.{has_page, pages_of}
use Rattle.cc_model.specs.Numbers.{ascending}
use Rattle.cc_model.specs.History.{Effect, history}
use Rattle.cc_model.specs.Holds.{Hold, holds_of}
use Rattle.cc_model.specs.Touches.{unwritten, dirty_pages}
use Rattle.cc_model.specs.Sizes.{Touch}
use Rattle.cc_model.specs.Settings.{log_of}

-- the least and the greatest LSN among touches, where one has an LSN
abbrev pub lsns_among : List Touch → Option (ℕ × ℕ)
lsns_among [] = None
lsns_among (touch ∷ touches) = joined (lsn_alone touch.lsn) (lsns_among touches)

-- the least and the greatest LSN stamped on a page and not yet written
abbrev pub lsns_of : List Effect → ℕ → Option (ℕ × ℕ)
lsns_of h p = lsns_among (unwritten h p)

-- the greatest of them, up to which the page's log has to be flushed before the page is written
abbrev pub newest_of : List Effect → ℕ → Option ℕ
newest_of h p = option_map (λ lsns. lsns.1) (lsns_of h p)

-- the least and the greatest over several pages
abbrev pub lsns_over : List Effect → List ℕ → Option (ℕ × ℕ)
lsns_over h [] = None
lsns_over h (p ∷ ps) = joined (lsns_of h p) (lsns_over h ps)

-- whether an open hold is a pin that changed the page and did not set it dirty since
abbrev pub owes_stamp : ℕ → Hold → Bool
owes_stamp p hold = is_pin hold.kind && list_any (λ r. has_page r p) hold.owed

-- whether the page is Unstamped: some open pin owes it a set-dirty
abbrev pub is_unstamped : List Effect → ℕ → Bool
is_unstamped h p = list_any (owes_stamp p) (holds_of h)

-- the pages that holds owe a stamp to, ascending
abbrev pub owed_pages : List Hold → List ℕ
owed_pages holds = ascending (flat_map (λ hold. if is_pin hold.kind then flat_map pages_of hold.owed else []) holds)

-- a row of the dirty page table, for a page that has a stamp
abbrev pub dirty_row_of : ℕ → List Effect → ℕ → Option DirtyRow
dirty_row_of s h p =
    option_map (λ lsns. record { page = record { stream = s; page = p }; oldest = lsns.0; newest = lsns.1 }) (lsns_of h p)

-- whether the log is the stream's
abbrev pub is_log : ℕ → Option ℕ → Bool
is_log log None = false
is_log log (Some handle) = handle == log

-- the table's rows of one stream
abbrev pub dirty_rows_of : List Entry → ℕ → ℕ → List DirtyRow
dirty_rows_of past log s =
    let h = history past s in
    if is_log log (log_of h) then filter_map (dirty_row_of s h) (dirty_pages h) else []

-- The dirty page table of a log (CcGetDirtyPages): a row for each dirty page with a stamp of a stream
-- with this log, by stream and page.
unfoldable pub dirty_table : List Entry → ℕ → List DirtyRow
dirty_table past log = flat_map (dirty_rows_of past log) (range_with_len 0 16)
