-- Changes of the size: what they cut, and what is below it afterwards.
use Rattle.std.specs.Prelude.{ℕ, List, [], ◌∷◌, ◌++◌, true, false, reverse}
use Rattle.std.specs.declared.option.Option.TheVariants.{None}
use Rattle.cc_entry.specs.declared.place.FileState.{FileState}
use Rattle.cc_entry.specs.declared.call.Call.TheVariants as call
use Rattle.cc_entry.specs.declared.query.Query.TheVariants as query
use Rattle.cc_entry.specs.declared.reply.Reply.TheVariants as reply
use Rattle.cc_entry.specs.declared.query.Value.TheVariants as value
use Rattle.cc_entry.specs.declared.error.CcError.TheVariants as error
use Rattle.cc_entry.specs.declared.entry.Entry.{Entry}
use Rattle.cc_entry.specs.declared.entry.Entry.TheVariants as entry
use Rattle.cc_worked.specs.Values.{a, page, sized, opened, done, answers, refused, read_in, begins, ends}

-- The size is set below a page while its transfer is under way, and raised again after its end.
abbrev pub cut_under_way : List Entry
cut_under_way =
    opened 8192 8192
    ∷ read_in 1 1
    ∷ done 1 1 (call.CopyWrite a 4096 (171 ∷ []))
    ∷ begins 1 1
    ∷ done 1 2 (call.SetSizes a 8192 4096)
    ∷ ends 1 1
    ∷ done 1 3 (call.SetSizes a 8192 8192)
    ∷ []

-- the page comes in as zeros
abbrev pub filled_again : List Entry
filled_again = cut_under_way ++ entry.PageIn 1 (page 1) false ∷ []

-- it reads as such
abbrev pub zeros_after_cut : List Entry
zeros_after_cut = reverse (filled_again ++ answers 1 4 (call.CopyRead a 4096 2 true) (reply.Read (0 ∷ 0 ∷ [])) ∷ [])

-- wrong: it is dirty, so a transfer of it may begin
abbrev pub begun_after_cut : List Entry
begun_after_cut = begins 1 1 ∷ zeros_after_cut

-- wrong: the change that was cut comes back
abbrev pub change_after_cut : List Entry
change_after_cut = reverse (filled_again ++ answers 1 4 (call.CopyRead a 4096 2 true) (reply.Read (171 ∷ 90 ∷ [])) ∷ [])

-- wrong: the page is still there after the cut
abbrev pub resident_after_cut : List Entry
resident_after_cut = reverse (cut_under_way ++ answers 1 4 (call.CopyRead a 4096 2 true) (reply.Read (0 ∷ 0 ∷ [])) ∷ [])

-- the size is lowered into a page and raised again
abbrev pub lowered : List Entry
lowered =
    opened 8192 8192
    ∷ done 1 1 (call.SetSizes a 8192 5000)
    ∷ done 1 2 (call.SetSizes a 8192 8192)
    ∷ read_in 1 1
    ∷ []

-- the stream's sizes as a caller is told them
abbrev pub told : ℕ → FileState
told valid = record { sizes = sized 8192 valid; log = None }

-- the valid data length stays lowered: what is past it is zeros, and a change may not leave a gap
abbrev pub valid_lowered : List Entry
valid_lowered =
    reverse (
    lowered
    ++ answers 1 3 (call.Query (query.State a)) (reply.Value (value.State (told 5000)))
    ∷ refused 1 4 (call.CopyWrite a 5001 (171 ∷ [])) (error.BeyondValid 5000)
    ∷ done 1 5 (call.Zero a (record { from = 5000; to = 6000 }))
    ∷ done 1 6 (call.CopyWrite a 6000 (171 ∷ []))
    ∷ answers 1 7 (call.CopyRead a 4999 3 true) (reply.Read (90 ∷ 0 ∷ 0 ∷ []))
    ∷ answers 1 8 (call.CopyRead a 5999 3 true) (reply.Read (0 ∷ 171 ∷ 0 ∷ []))
    ∷ refused 1 9 (call.SetSizes a 8192 9000) error.BadSizes
    ∷ [])

-- wrong: the valid data length is kept
abbrev pub valid_kept : List Entry
valid_kept = reverse (lowered ++ answers 1 3 (call.Query (query.State a)) (reply.Value (value.State (told 8192))) ∷ [])

-- wrong: the bytes past it are kept
abbrev pub bytes_kept : List Entry
bytes_kept = reverse (lowered ++ answers 1 3 (call.CopyRead a 4999 3 true) (reply.Read (90 ∷ 90 ∷ 90 ∷ [])) ∷ [])

-- wrong: a change starts past it
abbrev pub change_past_valid : List Entry
change_past_valid = reverse (lowered ++ done 1 3 (call.CopyWrite a 5001 (171 ∷ [])) ∷ [])

-- wrong: a size past the allocation
abbrev pub size_past_allocation : List Entry
size_past_allocation = reverse (lowered ++ done 1 3 (call.SetSizes a 8192 9000) ∷ [])
