-- Reasons for a refusal that lie in the arguments of a call, or in the sizes, maps and logs that it meets.
use Rattle.std.specs.Prelude.{ℕ, ◌+◌, ◌-◌, ◌*◌, ◌/◌, ◌^◌, Bool, true, false, not, ◌&&◌, ◌||◌, ◌==◌, nat_lt, nat_le, List, length}
use Rattle.std.specs.declared.option.Option.{Option}
use Rattle.std.specs.declared.option.Option.TheVariants.{Some, None}
use Rattle.std.specs.List.{list_any, range_with_len}
use Rattle.cc_entry.specs.Place.{File}
use Rattle.cc_entry.specs.declared.place.FileSizes.{FileSizes}
use Rattle.cc_entry.specs.declared.call.Call.{Call}
use Rattle.cc_entry.specs.declared.call.Call.TheVariants as call
use Rattle.cc_entry.specs.Queries.{log_of_query}
use Rattle.cc_entry.specs.declared.error.CcError.{CcError}
use Rattle.cc_entry.specs.declared.error.CcError.TheVariants as error
use Rattle.cc_model.specs.Setup.{Setup}
use Rattle.cc_model.specs.Numbers.{is_among}
use Rattle.cc_model.specs.History.{Effect}
use Rattle.cc_model.specs.Objects.{objects, had_map}
use Rattle.cc_model.specs.Touches.{valid_of, is_mapped}

abbrev pub refuse_if : Bool → CcError → Option CcError
refuse_if true e = Some e
refuse_if false e = None

-- whether the object has a private cache map
abbrev pub is_open : List Effect → File → Bool
is_open h file = is_among file.object (objects h)

abbrev pub not_cached : List Effect → Option File → Option CcError
not_cached h None = None
not_cached h (Some file) = refuse_if (not (is_open h file)) error.NotCached

-- the object that has to have a private map: the one that the call names, but for an initialise and a
-- read-ahead
abbrev pub cached_file : Call → Option File → Option File
cached_file (call.Initialise file sizes quota temporary) named = None
cached_file (call.AheadStep request) named = None
cached_file other named = named

abbrev pub longer : ℕ → Option CcError
longer n = refuse_if (nat_lt 1048576 n) (error.TooLong 1048576)

abbrev pub too_long : Call → Option CcError
too_long (call.CopyRead file at len wait) = longer len
too_long (call.CopyWrite file at bytes) = longer (length bytes)
too_long (call.Zero file span) = longer (span.to - span.from)
too_long (call.MdlRead file at len) = longer len
too_long (call.MdlWrite file at len) = longer len
too_long other = None

-- whether n bytes from `at` on lie in more than one view block
abbrev pub crosses_blocks : ℕ → ℕ → Bool
crosses_blocks at n = nat_lt 0 n && not (at / 262144 == ((at + n) - 1) / 262144)

abbrev pub view_boundary : Call → Option CcError
view_boundary (call.Map file at len) = refuse_if (crosses_blocks at len) error.ViewBoundary
view_boundary (call.PinRead file at len exclusive) = refuse_if (crosses_blocks at len) error.ViewBoundary
view_boundary (call.PreparePin file at len zero exclusive) = refuse_if (crosses_blocks at len) error.ViewBoundary
view_boundary other = None

-- whether the sizes stand in their order
abbrev pub in_order : FileSizes → Bool
in_order sizes = nat_le sizes.valid sizes.size && (nat_le sizes.size sizes.allocation && nat_lt sizes.allocation (2 ^ 63))

-- The sizes of an initialise that makes the map are in order, and a stream that had a map before comes
-- back with no more valid data than it left; a set of sizes is in order too.
abbrev pub bad_sizes : List Effect → Call → Option CcError
bad_sizes h (call.Initialise file sizes quota temporary) =
    refuse_if (not (is_mapped h) && (not (in_order sizes) || (had_map h && nat_lt (valid_of h) sizes.valid))) error.BadSizes
bad_sizes h (call.SetSizes file allocation size) =
    refuse_if (not (nat_le size allocation && nat_lt allocation (2 ^ 63))) error.BadSizes
bad_sizes h other = None

-- whether n is a power of two from 4096 to 1048576
abbrev pub is_granularity : ℕ → Bool
is_granularity n = list_any (λ k. n == 2 ^ k) (range_with_len 12 9)

abbrev pub bad_granularity : Call → Option CcError
bad_granularity (call.SetGranularity file bytes) = refuse_if (not (is_granularity bytes)) error.BadGranularity
bad_granularity other = None

-- a log, where one is named, is one of the setup's
abbrev pub missing_log : Setup → Option ℕ → Option CcError
missing_log u None = None
missing_log u (Some handle) = refuse_if (nat_le u.logs handle) (error.NoLog handle)

abbrev pub no_log : Setup → Call → Option CcError
no_log u (call.SetLog file handle) = missing_log u (Some handle)
no_log u (call.Query query) = missing_log u (log_of_query query)
no_log u other = None

abbrev pub past_size : ℕ → ℕ → Option CcError
past_size size end = refuse_if (nat_lt size end) (error.BeyondSize size)

abbrev pub beyond_size : ℕ → Call → Option CcError
beyond_size size (call.CopyWrite file at bytes) = past_size size (at + length bytes)
beyond_size size (call.Zero file span) = past_size size span.to
beyond_size size (call.Map file at len) = past_size size (at + len)
beyond_size size (call.PinRead file at len exclusive) = past_size size (at + len)
beyond_size size (call.PreparePin file at len zero exclusive) = past_size size (at + len)
beyond_size size (call.MdlRead file at len) = past_size size (at + len)
beyond_size size (call.MdlWrite file at len) = past_size size (at + len)
beyond_size size (call.NcStore file page bytes) = refuse_if (nat_le size (4096 * page)) (error.BeyondSize size)
beyond_size size (call.NcWrite file page) = refuse_if (nat_le size (4096 * page)) (error.BeyondSize size)
beyond_size size other = None

abbrev pub past_valid : ℕ → ℕ → Option CcError
past_valid valid start = refuse_if (nat_lt valid start) (error.BeyondValid valid)

-- a change starts at or below the valid data length
abbrev pub beyond_valid : ℕ → Call → Option CcError
beyond_valid valid (call.CopyWrite file at bytes) = past_valid valid at
beyond_valid valid (call.Zero file span) = past_valid valid span.from
beyond_valid valid (call.PreparePin file at len true exclusive) = past_valid valid at
beyond_valid valid (call.PreparePin file at len false exclusive) = None
beyond_valid valid (call.PinnedWrite hold at bytes) = past_valid valid at
beyond_valid valid (call.MdlStore hold at bytes) = past_valid valid at
beyond_valid valid (call.NcStore file page bytes) = past_valid valid (4096 * page)
beyond_valid valid (call.NcWrite file page) = past_valid valid (4096 * page)
beyond_valid valid other = None
