-- What a query that is done answers, and which refusals it may answer.
use Rattle.std.specs.Prelude.{◌≡◌, ℕ, Bool, List, [], ◌∷◌, ◌++◌, is_some, if◌then◌else◌}
use Rattle.std.specs.declared.option.Option.{Option}
use Rattle.cc_entry.specs.Queries.{file_of_query, log_of_query, extent_of_query}
use Rattle.cc_entry.specs.declared.entry.Entry.{Entry}
use Rattle.cc_entry.specs.declared.place.FileState.{FileState}
use Rattle.cc_entry.specs.declared.query.Query.{Query}
use Rattle.cc_entry.specs.declared.query.Query.TheVariants as query
use Rattle.cc_entry.specs.declared.reply.Reply.{Reply}
use Rattle.cc_entry.specs.declared.reply.Reply.TheVariants as reply
use Rattle.cc_entry.specs.declared.query.Value.TheVariants as value
use Rattle.cc_model.specs.Cache.{is_any_dirty}
use Rattle.cc_model.specs.History.{Effect}
use Rattle.cc_model.specs.Settings.{allocation_of, log_of}
use Rattle.cc_model.specs.Setup.{Setup}
use Rattle.cc_model.specs.Stamps.{lsns_over, dirty_table}
use Rattle.cc_model.specs.Throttle.{may_go, pages_for}
use Rattle.cc_model.specs.Touches.{size_of, valid_of, dirty_pages}

-- the sizes and the log of a stream
abbrev pub state_of : List Effect → FileState
state_of h =
    record { sizes = record { allocation = allocation_of h; size = size_of h; valid = valid_of h }; log = log_of h }

-- the reply of a done query, given the past, the opening pages and the history of its stream
abbrev pub IsQueryReply : Setup → List Entry → Option (ℕ → List ℕ) → List Effect → Query → Reply → Type 0
IsQueryReply u past told h (query.State file) r = r ≡ reply.Value (value.State (state_of h))
IsQueryReply u past told h (query.DirtyPages handle) r = r ≡ reply.Rows (dirty_table past handle)
IsQueryReply u past told h (query.LsnForFile file) r = r ≡ reply.Value (value.Lsns (lsns_over h (dirty_pages h)))
IsQueryReply u past told h query.IsDirtyData r = r ≡ reply.Value (value.Flag (is_any_dirty past))
IsQueryReply u past told h (query.CanWrite file bytes) r = r ≡ reply.Value (value.Flag (may_go u past file.stream (pages_for bytes)))

-- The numbers of the refusals of a query, given whether it names a file, names a log and needs pages: want of room and
-- of memory; want of views, and the faults of devices; that its object is not cached; that there is no such log.
abbrev pub refusals_where : Bool → Bool → Bool → List ℕ
refusals_where on_file on_log paged =
    13 ∷ 19 ∷ ((if paged then 10 ∷ 14 ∷ 15 ∷ 16 ∷ [] else [])
    ++ ((if on_file then 1 ∷ [] else []) ++ (if on_log then 21 ∷ [] else [])))

abbrev pub refusals_of_query : Query → List ℕ
refusals_of_query asked =
    refusals_where (is_some (file_of_query asked)) (is_some (log_of_query asked)) (is_some (extent_of_query asked))
