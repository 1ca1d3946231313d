-- What an act changes a byte to.
use Rattle.std.specs.Prelude.{ℕ, ◌+◌, ◌-◌, ◌*◌, List, length, slice_index, if◌then◌else◌}
use Rattle.std.specs.declared.option.Option.{Option}
use Rattle.std.specs.declared.option.Option.TheVariants.{Some, None}
use Rattle.cc_entry.specs.Pages.{has_byte}
use Rattle.cc_model.specs.Acts.{Act, Writes, Zeroes, Stores}
use Rattle.cc_model.specs.Sizes.{stored_range}

-- what an act changes the byte at i to, where it changes it, given the size before it
abbrev pub change_by : Act → ℕ → ℕ → Option ℕ
change_by (Writes at bytes) size i =
    if has_byte (record { from = at; to = at + length bytes }) i then Some (slice_index bytes (i - at)) else None
change_by (Zeroes from to) size i = if has_byte (record { from = from; to = to }) i then Some 0 else None
change_by (Stores page bytes) size i =
    if has_byte (stored_range page size) i then Some (slice_index bytes (i - 4096 * page)) else None
change_by other size i = None
