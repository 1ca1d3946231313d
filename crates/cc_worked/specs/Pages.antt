-- Pages that come and go, and what is done to them on the way.
use Rattle.std.specs.Prelude.{List, [], ◌∷◌, ◌++◌, true, false, reverse}
use Rattle.cc_entry.specs.declared.call.Call.TheVariants as call
use Rattle.cc_entry.specs.declared.reply.Reply.TheVariants as reply
use Rattle.cc_entry.specs.declared.entry.Entry.{Entry}
use Rattle.cc_entry.specs.declared.entry.Entry.TheVariants as entry
use Rattle.cc_worked.specs.Values.{a, page, opened, done, answers, read_in, goes_out, begins, ends, fails}

-- a page that was copied into goes to the disk
abbrev pub under_way : List Entry
under_way =
    opened 8192 8192
    ∷ read_in 1 0
    ∷ done 1 1 (call.CopyWrite a 0 (171 ∷ []))
    ∷ begins 1 0
    ∷ []

-- it is read meanwhile, and goes out afterwards
abbrev pub out_and_in : List Entry
out_and_in =
    reverse (
    under_way
    ++ answers 2 1 (call.CopyRead a 0 1 false) (reply.Read (171 ∷ []))
    ∷ ends 1 0
    ∷ goes_out 1 0
    ∷ read_in 1 0
    ∷ read_in 1 1
    ∷ [])

-- wrong: another page comes in meanwhile, or this one goes out
abbrev pub in_under_way : List Entry
in_under_way = reverse (under_way ++ read_in 1 1 ∷ [])

abbrev pub out_under_way : List Entry
out_under_way = reverse (under_way ++ goes_out 1 0 ∷ [])

-- wrong: it goes out after its failed end
abbrev pub out_after_failure : List Entry
out_after_failure = reverse (under_way ++ fails 1 0 ∷ goes_out 1 0 ∷ [])

-- wrong: its end comes twice, or is of another page
abbrev pub ended_twice : List Entry
ended_twice = ends 1 0 ∷ reverse (under_way ++ ends 1 0 ∷ [])

abbrev pub another_ended : List Entry
another_ended = reverse (under_way ++ ends 1 1 ∷ [])

-- wrong: a page comes in that is there
abbrev pub in_twice : List Entry
in_twice = read_in 1 0 ∷ out_and_in

-- wrong: a page goes out that is not there
abbrev pub out_twice : List Entry
out_twice = goes_out 1 0 ∷ goes_out 1 0 ∷ out_and_in

-- wrong: a page comes in that begins at the size, or is not read though it has a valid byte
abbrev pub in_past_size : List Entry
in_past_size = entry.PageIn 1 (page 2) false ∷ out_and_in

abbrev pub valid_page_of_zeros : List Entry
valid_page_of_zeros = reverse (opened 8192 1 ∷ entry.PageIn 1 (page 0) false ∷ [])

-- wrong: a page comes in of a stream that was never opened
abbrev pub in_without_map : List Entry
in_without_map = reverse (opened 8192 8192 ∷ entry.PageIn 1 (record { stream = 1; page = 0 }) true ∷ [])

-- a noncached read of a page that is not there, before a transfer and during one of another page
abbrev pub read_beside : List Entry
read_beside =
    reverse (
    opened 4100 4100
    ∷ answers 2 1 (call.NcRead a 1) (reply.Read (90 ∷ 90 ∷ 90 ∷ 90 ∷ []))
    ∷ read_in 1 0
    ∷ done 1 1 (call.CopyWrite a 0 (171 ∷ []))
    ∷ begins 1 0
    ∷ [])

-- wrong: it is read from the disk during the transfer
abbrev pub read_under_way : List Entry
read_under_way = answers 2 2 (call.NcRead a 1) (reply.Read (90 ∷ 90 ∷ 90 ∷ 90 ∷ [])) ∷ read_beside
