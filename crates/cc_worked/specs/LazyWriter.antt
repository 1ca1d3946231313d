-- The lazy writer: which pages a scan picks.
use Rattle.std.specs.Prelude.{ℕ, List, [], ◌∷◌, ◌++◌, ◌+◌, ◌*◌, true, false, reverse, map, flat_map}
use Rattle.std.specs.List.{range_with_len}
use Rattle.std.specs.declared.option.Option.TheVariants.{Some}
use Rattle.cc_entry.specs.Place.{Page}
use Rattle.cc_entry.specs.declared.call.Call.TheVariants as call
use Rattle.cc_entry.specs.declared.reply.Reply.TheVariants as reply
use Rattle.cc_entry.specs.declared.reply.Outcome.TheVariants as outcome
use Rattle.cc_entry.specs.declared.entry.Entry.{Entry}
use Rattle.cc_entry.specs.declared.entry.Entry.TheVariants as entry
use Rattle.cc_worked.specs.Values.{a, b, page, sized, opened, done, read_in, begins, written}

-- one byte is written into each of nine pages
abbrev pub nine_changes : List Entry
nine_changes =
    opened 65536 65536
    ∷ flat_map (λ p. read_in 1 p ∷ done 1 (p + 1) (call.CopyWrite a (4096 * p) (171 ∷ [])) ∷ []) (range_with_len 0 9)

-- a scan that picks n pages from a page on
abbrev pub scan : ℕ → ℕ → Entry
scan p n = entry.Scan 1 (map page (range_with_len p n))

-- Three scans: of nine pages one in eight, then all eight that are left, then none.
abbrev pub three_scans : List Entry
three_scans =
    reverse (
    nine_changes
    ++ scan 0 1
    ∷ written 1 0
    ++ scan 1 8
    ∷ flat_map (λ p. written 1 p) (range_with_len 1 8)
    ++ scan 0 0
    ∷ [])

-- wrong: the scan picks all pages
abbrev pub all_picked : List Entry
all_picked = reverse (nine_changes ++ scan 0 9 ∷ [])

-- wrong: it picks none
abbrev pub none_picked : List Entry
none_picked = reverse (nine_changes ++ scan 0 0 ∷ [])

-- wrong: it picks another page than the first
abbrev pub another_picked : List Entry
another_picked = reverse (nine_changes ++ scan 1 1 ∷ [])

-- the first page is picked and not written, and the next scan goes on after it
abbrev pub cursor_moved : List Entry
cursor_moved = reverse (nine_changes ++ scan 0 1 ∷ scan 1 1 ∷ [])

-- wrong: the next scan begins with the first page again
abbrev pub cursor_lost : List Entry
cursor_lost = reverse (nine_changes ++ scan 0 1 ∷ scan 0 1 ∷ [])

-- Under a threshold of sixteen: of nine pages one is picked at once, and five more, since the eight left
-- and the nine that came since the last scan exceed twelve by five. The next scan finds none that came,
-- and picks one.
abbrev pub six_picked : List Entry
six_picked = reverse (nine_changes ++ scan 0 6 ∷ scan 6 1 ∷ [])

-- wrong: five are picked
abbrev pub five_picked : List Entry
five_picked = reverse (nine_changes ++ scan 0 5 ∷ [])

-- wrong: the lazy writer begins a page that is clean
abbrev pub clean_page_begun : List Entry
clean_page_begun = begins 1 0 ∷ three_scans

-- one change in each of two streams
abbrev pub b_page : Page
b_page = record { stream = 1; page = 0 }

abbrev pub two_streams_changed : List Entry
two_streams_changed =
    opened 8192 8192
    ∷ entry.Call 0 2 (Some 1) (call.Initialise b (sized 8192 8192) 16 false) (outcome.Done reply.Unit)
    ∷ read_in 1 1
    ∷ entry.PageIn 1 b_page true
    ∷ done 1 1 (call.CopyWrite a 4096 (171 ∷ []))
    ∷ entry.Call 1 2 (Some 1) (call.CopyWrite b 0 (171 ∷ [])) (outcome.Done reply.Unit)
    ∷ []

-- pages are picked by stream and page, and none of a stream without write-behind
abbrev pub by_stream : List Entry
by_stream =
    reverse (
    two_streams_changed
    ++ entry.Scan 1 (page 1 ∷ b_page ∷ [])
    ∷ done 1 3 (call.SetAttributes a false true)
    ∷ entry.Scan 1 (b_page ∷ [])
    ∷ [])

-- wrong: by page and stream
abbrev pub by_page : List Entry
by_page = reverse (two_streams_changed ++ entry.Scan 1 (b_page ∷ page 1 ∷ []) ∷ [])

-- a temporary stream's page is not picked
abbrev pub temporary_change : List Entry
temporary_change =
    done 0 1 (call.Initialise a (sized 8192 8192) 16 true) ∷ read_in 1 0 ∷ done 1 1 (call.CopyWrite a 0 (171 ∷ [])) ∷ []

abbrev pub temporary_passed_over : List Entry
temporary_passed_over = reverse (temporary_change ++ scan 0 0 ∷ [])

-- wrong: it is
abbrev pub temporary_picked : List Entry
temporary_picked = reverse (temporary_change ++ scan 0 1 ∷ [])
