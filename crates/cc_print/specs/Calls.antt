-- Calls as they are printed: the verb, then the arguments in the order of the script's grammar.
use Rattle.std.specs.Prelude.{ℕ, Bool, not, Option, List, [], codes, decimal, if◌then◌else◌}
use Rattle.cc_entry.specs.Place.{File, Range}
use Rattle.cc_entry.specs.declared.place.FileSizes.{FileSizes}
use Rattle.cc_entry.specs.declared.call.Call.{Call}
use Rattle.cc_entry.specs.declared.call.Call.TheVariants as call
use Rattle.cc_script.specs.declared.script.StreamLine.{StreamLine}
use Rattle.cc_print.specs.Append.{◌&◌}
use Rattle.cc_print.specs.Words.{file_text, of_file, of_file_number, word_if, number_if, span_if, request_text, bytes_text}
use Rattle.cc_print.specs.Queries.{query_text}

-- a verb, a file and a range, if there is one
abbrev pub of_file_span : List ℕ → List StreamLine → File → Option Range → List ℕ
of_file_span verb streams file span = of_file verb streams file (span_if span)

-- a verb, a file and two numbers
abbrev pub of_file_numbers : List ℕ → List StreamLine → File → ℕ → ℕ → List ℕ → List ℕ
of_file_numbers verb streams file first second behind =
    verb & codes " " & file_text streams file & codes " " & decimal first & codes " " & decimal second & behind

-- a verb, a file, a place and bytes
abbrev pub of_file_bytes : List ℕ → List StreamLine → File → ℕ → List ℕ → List ℕ
of_file_bytes verb streams file at bytes =
    verb & codes " " & file_text streams file & codes " " & decimal at & codes " " & bytes_text bytes

-- a verb and a hold
abbrev pub of_hold : List ℕ → ℕ → List ℕ → List ℕ
of_hold verb hold behind = verb & codes " #" & decimal hold & behind

-- a verb, a hold and two numbers
abbrev pub of_hold_numbers : List ℕ → ℕ → ℕ → ℕ → List ℕ
of_hold_numbers verb hold at len =
    verb & codes " #" & decimal hold & codes " " & decimal at & codes " " & decimal len

-- a verb, a hold, a place and bytes
abbrev pub of_hold_bytes : List ℕ → ℕ → ℕ → List ℕ → List ℕ
of_hold_bytes verb hold at bytes =
    verb & codes " #" & decimal hold & codes " " & decimal at & codes " " & bytes_text bytes

-- the quota always stands
abbrev pub initialise_text : List StreamLine → File → FileSizes → ℕ → Bool → List ℕ
initialise_text streams file sizes quota temporary =
    codes "init " & file_text streams file
    & codes " " & decimal sizes.allocation
    & codes " " & decimal sizes.size
    & codes " " & decimal sizes.valid
    & codes " quota " & decimal quota
    & word_if temporary (codes " temporary")

abbrev pub prepare_text : List StreamLine → File → ℕ → ℕ → Bool → Bool → List ℕ
prepare_text streams file at len zero exclusive =
    codes "prepare " & file_text streams file
    & codes " " & decimal at
    & codes " " & decimal len
    & word_if zero (codes " zero")
    & word_if exclusive (codes " excl")

-- a flag as a digit
abbrev pub digit_of : Bool → ℕ
digit_of is_set = if is_set then 1 else 0

-- a call with its arguments
abbrev pub call_text : List StreamLine → Call → List ℕ
call_text streams (call.Initialise file sizes quota temporary) = initialise_text streams file sizes quota temporary
call_text streams (call.Uninitialise file truncate) = of_file (codes "uninit") streams file (number_if truncate)
call_text streams (call.CopyRead file at len wait) =
    of_file_numbers (codes "cread") streams file at len (word_if (not wait) (codes " nowait"))
call_text streams (call.CopyWrite file at bytes) = of_file_bytes (codes "cwrite") streams file at bytes
call_text streams (call.Zero file span) = of_file_numbers (codes "zero") streams file span.from span.to []
call_text streams (call.Map file at len) = of_file_numbers (codes "map") streams file at len []
call_text streams (call.PinRead file at len exclusive) =
    of_file_numbers (codes "pin") streams file at len (word_if exclusive (codes " excl"))
call_text streams (call.PinMapped hold exclusive) = of_hold (codes "pinmapped") hold (word_if exclusive (codes " excl"))
call_text streams (call.PreparePin file at len zero exclusive) = prepare_text streams file at len zero exclusive
call_text streams (call.MappedRead hold at len) = of_hold_numbers (codes "hread") hold at len
call_text streams (call.PinnedRead hold at len) = of_hold_numbers (codes "hread") hold at len
call_text streams (call.PinnedWrite hold at bytes) = of_hold_bytes (codes "pwrite") hold at bytes
call_text streams (call.SetDirty hold lsn) = of_hold (codes "stamp") hold (number_if lsn)
call_text streams (call.EndHold hold) = of_hold (codes "unpin") hold []
call_text streams (call.Repin hold) = of_hold (codes "repin") hold []
call_text streams (call.MdlRead file at len) = of_file_numbers (codes "mdlread") streams file at len []
call_text streams (call.MdlWrite file at len) = of_file_numbers (codes "mdlwrite") streams file at len []
call_text streams (call.MdlBytes hold at len) = of_hold_numbers (codes "mdlget") hold at len
call_text streams (call.MdlStore hold at bytes) = of_hold_bytes (codes "mdlput") hold at bytes
call_text streams (call.NcRead file page) = of_file_number (codes "ncread") streams file page
call_text streams (call.NcStore file page bytes) = of_file_bytes (codes "ncstore") streams file page bytes
call_text streams (call.NcWrite file page) = of_file_number (codes "ncwrite") streams file page
call_text streams (call.SetSizes file allocation size) = of_file_numbers (codes "sizes") streams file allocation size []
call_text streams (call.Query asked) = query_text streams asked
call_text streams (call.Flush file span) = of_file_span (codes "flush") streams file span
call_text streams (call.Purge file span) = of_file_span (codes "purge") streams file span
call_text streams (call.Discard file span) = of_file_span (codes "discard") streams file span
call_text streams (call.SetLog file handle) = of_file_number (codes "setlog") streams file handle
call_text streams (call.SetGranularity file bytes) = of_file_number (codes "granularity") streams file bytes
call_text streams (call.SetAttributes file no_read_ahead no_write_behind) =
    of_file_numbers (codes "attributes") streams file (digit_of no_read_ahead) (digit_of no_write_behind) []
call_text streams (call.SetThreshold file pages) = of_file_number (codes "fthreshold") streams file pages
call_text streams (call.AskAhead file at len) = of_file_numbers (codes "ask") streams file at len []
call_text streams (call.AheadStep request) = request_text streams request
