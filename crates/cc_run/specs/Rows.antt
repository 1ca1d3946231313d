-- A row of the dirty page table, as it is printed.
use Rattle.std.specs.Prelude.{option_map}
use Rattle.cc_entry.specs.Lsns.{joined}
use Rattle.cc_dirty.specs.declared.row.Row.{Row}
use Rattle.cc_print.specs.declared.table.TableRow.{TableRow}

-- the least and the greatest LSN of both its parts
abbrev pub printed_row : Row → TableRow
printed_row row =
    let lsns = joined row.begun.lsns row.later.lsns in
    record { page = row.page; oldest = option_map (λ pair. pair.0) lsns; newest = option_map (λ pair. pair.1) lsns }
