-- The table of a run: the pages that are dirty at the end.
use Rattle.std.specs.Prelude.{ℕ, List, map, option_map}
use Rattle.std.specs.List.{flat_map, range_with_len}
use Rattle.cc_entry.specs.declared.entry.Entry.{Entry}
use Rattle.cc_print.specs.declared.table.TableRow.{TableRow}
use Rattle.cc_model.specs.History.{Effect, history}
use Rattle.cc_model.specs.Touches.{dirty_pages}
use Rattle.cc_model.specs.Stamps.{lsns_of}

-- the row of a page: the least and the greatest LSN stamped on it and not yet written
abbrev pub table_row_of : ℕ → List Effect → ℕ → TableRow
table_row_of s h p =
    let lsns = lsns_of h p in
    record { page = record { stream = s; page = p }; oldest = option_map (λ pair. pair.0) lsns; newest = option_map (λ pair. pair.1) lsns }

-- the rows of one stream, by page
abbrev pub table_rows_of : List Entry → ℕ → List TableRow
table_rows_of past s = map (table_row_of s (history past s)) (dirty_pages (history past s))

-- a row for each dirty page, by stream and page
unfoldable pub table_of : List Entry → List TableRow
table_of past = flat_map (table_rows_of past) (range_with_len 0 16)
