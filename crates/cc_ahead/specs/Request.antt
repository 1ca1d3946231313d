-- The read-ahead that a read leads to, by what is kept of its object.
use Rattle.std.specs.Prelude.{ℕ, ◌+◌, ◌-◌, Bool, not, ◌&&◌, nat_lt, min, if◌then◌else◌}
use Rattle.std.specs.declared.option.Option.{Option}
use Rattle.std.specs.declared.option.Option.TheVariants.{Some, None}
use Rattle.cc_entry.specs.Place.{File}
use Rattle.cc_entry.specs.declared.place.Request.{Request}
use Rattle.cc_model.specs.ReadAhead.{is_sequential, rounded_up}
use Rattle.cc_ahead.specs.Kept.{ObjectReads}

-- The granule that begins at the end of the read, rounded up to a whole granule, cut at the size; none after a read of
-- no byte, or one to which the last two do not lead up, where read-ahead is off, or past the size.
abbrev pub request_after : ObjectReads → File → ℕ → ℕ → Bool → ℕ → Option Request
request_after kept file at len no_read_ahead size =
    let start = rounded_up (at + len) kept.granularity in
    if nat_lt 0 len
    && (is_sequential at kept.reads
    && (not no_read_ahead
    && nat_lt start size))
    then Some (record { file = file; at = start; len = min (start + kept.granularity) size - start })
    else None
