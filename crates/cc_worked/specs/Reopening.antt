-- A stream that is truncated as its last object goes, and a closing map that is joined again.
use Rattle.std.specs.Prelude.{ℕ, List, [], ◌∷◌, ◌++◌, true, false, reverse}
use Rattle.std.specs.declared.option.Option.TheVariants.{Some, None}
use Rattle.cc_entry.specs.declared.place.FileState.{FileState}
use Rattle.cc_entry.specs.declared.place.Request.{Request}
use Rattle.cc_entry.specs.declared.call.Call.TheVariants as call
use Rattle.cc_entry.specs.declared.query.Query.TheVariants as query
use Rattle.cc_entry.specs.declared.reply.Reply.TheVariants as reply
use Rattle.cc_entry.specs.declared.query.Value.TheVariants as value
use Rattle.cc_entry.specs.declared.error.CcError.{CcError}
use Rattle.cc_entry.specs.declared.error.CcError.TheVariants as error
use Rattle.cc_entry.specs.declared.entry.Entry.{Entry}
use Rattle.cc_entry.specs.declared.entry.Entry.TheVariants as entry
use Rattle.cc_worked.specs.Values.{a, second, page, sized, opened, done, answers, refused, dirty_is, read_in, begins, ends}

-- Of two objects the first goes with a truncate, which does not count; a page is under way to the disk.
abbrev pub one_left : List Entry
one_left =
    opened 8192 8192
    ∷ read_in 1 1
    ∷ done 1 1 (call.CopyWrite a 4096 (171 ∷ []))
    ∷ done 1 2 (call.Initialise second (sized 8192 8192) 16 false)
    ∷ answers 1 3 (call.Uninitialise a (Some 0)) (reply.Value (value.Flag false))
    ∷ answers 1 4 (call.Query (query.State second)) (reply.Value (value.State (record { sizes = sized 8192 8192; log = None })))
    ∷ begins 2 1
    ∷ []

-- The second goes with a truncate to the first page: nothing is dirty, and the map goes at once.
abbrev pub truncated : List Entry
truncated = one_left ++ answers 1 5 (call.Uninitialise second (Some 4096)) (reply.Value (value.Flag true)) ∷ []

abbrev pub opened_under_way : List Entry
opened_under_way = truncated ++ done 1 6 (call.Initialise a (sized 8192 4096) 16 false) ∷ []

-- the stream is opened again before the transfer ends; the page comes in as zeros after its end
abbrev pub opened_before_end : List Entry
opened_before_end =
    reverse (
    opened_under_way
    ++ ends 2 1
    ∷ entry.PageIn 1 (page 1) false
    ∷ answers 1 7 (call.CopyRead a 4096 1 true) (reply.Read (0 ∷ []))
    ∷ dirty_is 1 8 false
    ∷ [])

-- wrong: the map stays
abbrev pub map_stays : List Entry
map_stays = reverse (one_left ++ answers 1 5 (call.Uninitialise second (Some 4096)) (reply.Value (value.Flag false)) ∷ [])

-- wrong: the stream comes back with the valid bytes that were cut
abbrev pub cut_bytes_valid : List Entry
cut_bytes_valid = reverse (truncated ++ done 1 6 (call.Initialise a (sized 8192 4097) 16 false) ∷ [])

-- wrong: a page comes in while the transfer is under way
abbrev pub page_in_under_way : List Entry
page_in_under_way = reverse (opened_under_way ++ entry.PageIn 1 (page 1) false ∷ [])

-- a map that stays because a page is dirty
abbrev pub closing : List Entry
closing =
    opened 8192 8192
    ∷ read_in 1 0
    ∷ done 1 1 (call.CopyWrite a 0 (171 ∷ []))
    ∷ answers 1 2 (call.Uninitialise a None) (reply.Value (value.Flag false))
    ∷ []

-- an object that joins it has its sizes ignored, and finds its page
abbrev pub closing_joined : List Entry
closing_joined =
    reverse (
    closing
    ++ done 1 3 (call.Initialise second (record { allocation = 0; size = 5; valid = 9 }) 64 true)
    ∷ answers 1 4 (call.Query (query.State second)) (reply.Value (value.State (record { sizes = sized 8192 8192; log = None })))
    ∷ answers 1 5 (call.CopyRead second 0 1 false) (reply.Read (171 ∷ []))
    ∷ [])

-- wrong: its sizes are tested
abbrev pub joined_sizes_tested : List Entry
joined_sizes_tested =
    reverse (closing ++ refused 1 3 (call.Initialise second (record { allocation = 0; size = 5; valid = 9 }) 64 true) error.BadSizes ∷ [])

-- an object that comes back has its reads forgotten; the log and the allocation that were set stay
abbrev pub settings_set : List Entry
settings_set =
    opened 8192 8192
    ∷ done 0 2 (call.SetLog a 1)
    ∷ read_in 1 0
    ∷ done 1 1 (call.SetGranularity a 4096)
    ∷ answers 1 2 (call.CopyRead a 0 2 true) (reply.Read (90 ∷ 90 ∷ []))
    ∷ answers 1 3 (call.CopyRead a 2 2 true) (reply.Read (90 ∷ 90 ∷ []))
    ∷ done 1 4 (call.SetSizes a 9000 8192)
    ∷ []

abbrev pub told_sizes : ℕ → FileState
told_sizes allocation = record { sizes = record { allocation = allocation; size = 8192; valid = 8192 }; log = Some 1 }

abbrev pub settings_after_reopening : List Entry
settings_after_reopening =
    reverse (
    settings_set
    ++ answers 1 5 (call.Query (query.State a)) (reply.Value (value.State (told_sizes 9000)))
    ∷ answers 1 6 (call.Uninitialise a None) (reply.Value (value.Flag true))
    ∷ done 1 7 (call.Initialise a (sized 8192 8192) 16 false)
    ∷ answers 1 8 (call.Query (query.State a)) (reply.Value (value.State (told_sizes 8192)))
    ∷ answers 1 9 (call.AskAhead a 4 2) (reply.Ahead None)
    ∷ [])

-- wrong: an initialise of an object that is open has its reads forgotten too
abbrev pub reads_forgotten : List Entry
reads_forgotten =
    reverse (
    settings_set
    ++ done 1 5 (call.Initialise a (sized 8192 8192) 16 false)
    ∷ answers 1 6 (call.AskAhead a 4 2) (reply.Ahead None)
    ∷ [])

abbrev pub reads_kept : List Entry
reads_kept =
    reverse (
    settings_set
    ++ done 1 5 (call.Initialise a (sized 8192 8192) 16 false)
    ∷ answers 1 6 (call.AskAhead a 4 2) (reply.Ahead (Some (record { file = a; at = 4096; len = 4096 })))
    ∷ [])

-- a read whose object went while the disk failed is told that it is not cached
abbrev pub object_went : CcError → List Entry
object_went cause =
    reverse (
    opened 8192 8192
    ∷ entry.FillFailed 1 (page 0)
    ∷ answers 2 1 (call.Uninitialise a None) (reply.Value (value.Flag true))
    ∷ refused 1 1 (call.CopyRead a 0 1 true) cause
    ∷ [])

-- a read-ahead step is told the fault, and gives up where there was none
abbrev pub first_page : Request
first_page = record { file = a; at = 0; len = 4096 }

abbrev pub step_met_fault : List Entry
step_met_fault =
    reverse (
    opened 8192 8192
    ∷ entry.FillFailed 1 (page 0)
    ∷ answers 2 1 (call.Uninitialise a None) (reply.Value (value.Flag true))
    ∷ refused 1 1 (call.AheadStep first_page) (error.ReadFault 0)
    ∷ answers 1 2 (call.AheadStep first_page) (reply.Whole false)
    ∷ [])
