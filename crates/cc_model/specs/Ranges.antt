-- The range of a call: the bytes whose pages it needs.
use Rattle.std.specs.Prelude.{ℕ, ◌+◌, ◌/◌, Bool, true, false, not, length, min}
use Rattle.cc_entry.specs.Pages.{has_page, whole_range}
use Rattle.std.specs.declared.option.Option.{Option}
use Rattle.std.specs.declared.option.Option.TheVariants.{Some, None}
use Rattle.cc_entry.specs.Place.{Range}
use Rattle.cc_entry.specs.Queries.{extent_of_query}
use Rattle.cc_entry.specs.declared.call.Call.{Call}
use Rattle.cc_entry.specs.declared.call.Call.TheVariants as call
use Rattle.cc_entry.specs.declared.reply.Reply.{Reply}
use Rattle.cc_entry.specs.declared.reply.Reply.TheVariants as reply
use Rattle.cc_model.specs.Sizes.{stored_range}

-- n bytes from `at` on, as far as they lie below the size
abbrev pub cut_range : ℕ → ℕ → ℕ → Range
cut_range size at n = record { from = at; to = min (at + n) size }

-- the range of a query, given from where and how many bytes it needs, if it needs any
abbrev pub queried_range : ℕ → Option (ℕ × ℕ) → Option Range
queried_range size None = None
queried_range size (Some (at, n)) = Some (cut_range size at n)

-- the first page of it, also where it is empty
abbrev pub first_queried : Option (ℕ × ℕ) → ℕ
first_queried None = 0
first_queried (Some (at, n)) = at / 4096

-- the range of a call on a stream of this size
abbrev pub range_of : ℕ → Call → Option Range
range_of size (call.CopyRead file at len wait) = Some (cut_range size at len)
range_of size (call.CopyWrite file at bytes) = Some (whole_range at (length bytes))
range_of size (call.Zero file span) = Some span
range_of size (call.Map file at len) = Some (whole_range at len)
range_of size (call.PinRead file at len exclusive) = Some (whole_range at len)
range_of size (call.PreparePin file at len zero exclusive) = Some (whole_range at len)
range_of size (call.MdlRead file at len) = Some (whole_range at len)
range_of size (call.MdlWrite file at len) = Some (whole_range at len)
range_of size (call.NcRead file page) = Some (stored_range page size)
range_of size (call.NcStore file page bytes) = Some (stored_range page size)
range_of size (call.NcWrite file page) = Some (stored_range page size)
range_of size (call.AheadStep request) = Some (cut_range size request.at request.len)
range_of size (call.Initialise file sizes quota temporary) = None
range_of size (call.Uninitialise file truncate) = None
range_of size (call.PinMapped hold exclusive) = None
range_of size (call.MappedRead hold at len) = None
range_of size (call.PinnedRead hold at len) = None
range_of size (call.PinnedWrite hold at bytes) = None
range_of size (call.SetDirty hold lsn) = None
range_of size (call.EndHold hold) = None
range_of size (call.Repin hold) = None
range_of size (call.MdlBytes hold at len) = None
range_of size (call.MdlStore hold at bytes) = None
range_of size (call.SetSizes file allocation to) = None
range_of size (call.Query query) = queried_range size (extent_of_query query)
range_of size (call.Flush file span) = None
range_of size (call.Purge file span) = None
range_of size (call.Discard file span) = None
range_of size (call.SetLog file handle) = None
range_of size (call.SetGranularity file bytes) = None
range_of size (call.SetAttributes file no_read_ahead no_write_behind) = None
range_of size (call.SetThreshold file pages) = None
range_of size (call.AskAhead file at len) = None

-- whether a done call with this reply leaves the use of its blocks as it was: the two noncached calls
-- that look at the disk, and a read-ahead that brought nothing in
abbrev pub uses_no_block : Call → Reply → Bool
uses_no_block (call.NcRead file page) r = true
uses_no_block (call.NcWrite file page) r = true
uses_no_block (call.AheadStep request) (reply.Whole whole) = not whole
uses_no_block other r = false

-- whether every page of its range has to be resident where a call is done with this reply
abbrev pub needs_pages : Call → Reply → Bool
needs_pages (call.NcRead file page) r = false
needs_pages (call.NcStore file page bytes) r = false
needs_pages (call.NcWrite file page) r = false
needs_pages (call.AheadStep request) (reply.Whole whole) = whole
needs_pages other r = true

-- the first page of a span, and 0 where there is none
abbrev pub first_of_span : Option Range → ℕ
first_of_span None = 0
first_of_span (Some span) = span.from / 4096

-- The first page of the range that a call was given, also where it is empty; 0 where it has none, and of
-- the calls that name a hold and of an ask, which have no range that needs pages.
abbrev pub first_page : Call → ℕ
first_page (call.CopyRead file at len wait) = at / 4096
first_page (call.CopyWrite file at bytes) = at / 4096
first_page (call.Zero file span) = span.from / 4096
first_page (call.Map file at len) = at / 4096
first_page (call.PinRead file at len exclusive) = at / 4096
first_page (call.PreparePin file at len zero exclusive) = at / 4096
first_page (call.MdlRead file at len) = at / 4096
first_page (call.MdlWrite file at len) = at / 4096
first_page (call.NcRead file page) = page
first_page (call.NcStore file page bytes) = page
first_page (call.NcWrite file page) = page
first_page (call.AheadStep request) = request.at / 4096
first_page (call.Flush file span) = first_of_span span
first_page (call.Purge file span) = first_of_span span
first_page (call.Discard file span) = first_of_span span
first_page (call.Initialise file sizes quota temporary) = 0
first_page (call.Uninitialise file truncate) = 0
first_page (call.PinMapped hold exclusive) = 0
first_page (call.MappedRead hold at len) = 0
first_page (call.PinnedRead hold at len) = 0
first_page (call.PinnedWrite hold at bytes) = 0
first_page (call.SetDirty hold lsn) = 0
first_page (call.EndHold hold) = 0
first_page (call.Repin hold) = 0
first_page (call.MdlBytes hold at len) = 0
first_page (call.MdlStore hold at bytes) = 0
first_page (call.SetSizes file allocation size) = 0
first_page (call.Query query) = first_queried (extent_of_query query)
first_page (call.SetLog file handle) = 0
first_page (call.SetGranularity file bytes) = 0
first_page (call.SetAttributes file no_read_ahead no_write_behind) = 0
first_page (call.SetThreshold file pages) = 0
first_page (call.AskAhead file at len) = 0

-- whether a page is of a span, where none is the whole stream
abbrev pub span_has : Option Range → ℕ → Bool
span_has None p = true
span_has (Some span) p = has_page span p
