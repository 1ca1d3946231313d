-- Refused discards: pages that are held, that the disk does not hold for sure, and that have grown.
use Rattle.std.specs.Prelude.{ℕ, List, [], ◌∷◌, ◌++◌, true, false, reverse}
use Rattle.std.specs.declared.option.Option.TheVariants.{Some, None}
use Rattle.cc_entry.specs.Place.{Range}
use Rattle.cc_entry.specs.declared.call.Call.TheVariants as call
use Rattle.cc_entry.specs.declared.query.Query.TheVariants as query
use Rattle.cc_entry.specs.declared.reply.Reply.TheVariants as reply
use Rattle.cc_entry.specs.declared.query.Value.TheVariants as value
use Rattle.cc_entry.specs.declared.error.CcError.{CcError}
use Rattle.cc_entry.specs.declared.error.CcError.TheVariants as error
use Rattle.cc_entry.specs.declared.entry.End.{End}
use Rattle.cc_entry.specs.declared.entry.Entry.{Entry}
use Rattle.cc_entry.specs.declared.entry.Entry.TheVariants as entry
use Rattle.cc_worked.specs.Values.{a, second, page, sized, opened, done, answers, refused, read_in, begins, fails, written, synced, discarded}

abbrev pub first_page : Range
first_page = record { from = 0; to = 4096 }

abbrev pub second_page : Range
second_page = record { from = 4096; to = 8192 }

-- a discard of the whole stream is refused
abbrev pub barred : ℕ → ℕ → CcError → Entry
barred pass nth cause = refused pass nth (call.Discard a None) cause

-- a byte of the second page becomes valid, and then changes
abbrev pub grown : List Entry
grown = opened 8192 5000 ∷ read_in 1 1 ∷ done 1 1 (call.CopyWrite a 5000 (171 ∷ [])) ∷ []

-- the disk never held it, so the page is not discarded
abbrev pub barred_as_grown : CcError → List Entry
barred_as_grown cause = reverse (grown ++ barred 1 2 cause ∷ [])

-- wrong: it is discarded
abbrev pub grown_dropped : List Entry
grown_dropped = reverse (grown ++ discarded 1 2 ∷ [])

-- The page is written: now the disk holds the byte.
abbrev pub grown_written : List Entry
grown_written = grown ++ written 1 1

-- a later change of it is dropped
abbrev pub later_dropped : List Entry
later_dropped = grown_written ++ done 1 2 (call.CopyWrite a 5000 (205 ∷ [])) ∷ discarded 1 3 ∷ []

-- the stream's sizes as a caller is told them
abbrev pub told : ℕ → Entry
told valid = answers 1 4 (call.Query (query.State a)) (reply.Value (value.State (record { sizes = sized 8192 valid; log = None })))

-- the sizes stay, and the byte is the one that was written
abbrev pub written_byte_back : List Entry
written_byte_back =
    reverse (
    later_dropped
    ++ told 5001
    ∷ read_in 1 1
    ∷ answers 1 5 (call.CopyRead a 5000 2 true) (reply.Read (171 ∷ 0 ∷ []))
    ∷ [])

-- wrong: the valid data length falls
abbrev pub valid_dropped : List Entry
valid_dropped = reverse (later_dropped ++ told 5000 ∷ [])

-- one more byte becomes valid since, so the page has grown again
abbrev pub grown_since : List Entry
grown_since = reverse (grown_written ++ done 1 2 (call.CopyWrite a 5001 (205 ∷ [])) ∷ barred 1 3 (error.Grown 1) ∷ [])

-- wrong: it is discarded
abbrev pub grown_since_dropped : List Entry
grown_since_dropped = reverse (grown_written ++ done 1 2 (call.CopyWrite a 5001 (205 ∷ [])) ∷ discarded 1 3 ∷ [])

-- The valid data length falls into the page and rises again by zeros: the disk holds other bytes there.
abbrev pub zeroed_anew : List Entry
zeroed_anew =
    opened 8192 8192
    ∷ read_in 1 1
    ∷ done 1 1 (call.SetSizes a 8192 5000)
    ∷ done 1 2 (call.SetSizes a 8192 8192)
    ∷ done 1 3 (call.Zero a (record { from = 5000; to = 8192 }))
    ∷ []

abbrev pub barred_as_zeroed : List Entry
barred_as_zeroed = reverse (zeroed_anew ++ barred 1 4 (error.Grown 1) ∷ [])

-- wrong: the page is discarded, as what was valid before is valid again
abbrev pub zeros_dropped : List Entry
zeros_dropped = reverse (zeroed_anew ++ discarded 1 4 ∷ [])

-- the stream comes back with fewer valid bytes, and grows
abbrev pub barred_as_reopened : List Entry
barred_as_reopened =
    reverse (
    opened 8192 8192
    ∷ answers 1 1 (call.Uninitialise a None) (reply.Value (value.Flag true))
    ∷ done 1 2 (call.Initialise a (sized 8192 5000) 16 false)
    ∷ read_in 1 1
    ∷ done 1 3 (call.CopyWrite a 5000 (171 ∷ []))
    ∷ barred 1 4 (error.Grown 1)
    ∷ [])

-- a page that did not grow is changed
abbrev pub barred_as_changed : CcError → List Entry
barred_as_changed cause =
    reverse (opened 8192 8192 ∷ read_in 1 0 ∷ done 1 1 (call.CopyWrite a 0 (171 ∷ [])) ∷ barred 1 2 cause ∷ [])

-- the first write of a page fails, and the flush with it
abbrev pub write_failed : List Entry
write_failed =
    opened 8192 8192
    ∷ read_in 1 0
    ∷ done 1 1 (call.CopyWrite a 0 (171 ∷ []))
    ∷ begins 1 0
    ∷ fails 1 0
    ∷ refused 1 2 (call.Flush a None) (error.WriteFault 0)
    ∷ []

-- what the disk holds of it is not known until the next flush
abbrev pub settled_by_flush : List Entry
settled_by_flush =
    reverse (
    write_failed
    ++ barred 1 3 (error.Unsettled 0)
    ∷ written 1 0
    ++ synced 1
    ∷ done 1 4 (call.Flush a None)
    ∷ discarded 1 5
    ∷ read_in 1 0
    ∷ answers 1 6 (call.CopyRead a 0 1 true) (reply.Read (171 ∷ []))
    ∷ [])

-- wrong: the page is discarded before that
abbrev pub unsettled_dropped : List Entry
unsettled_dropped = reverse (write_failed ++ discarded 1 3 ∷ [])

-- A page is written with this end and changed again; a discard is told that what the disk holds of it is
-- not known.
abbrev pub barred_after : End → List Entry
barred_after how =
    reverse (
    opened 8192 8192
    ∷ read_in 1 0
    ∷ done 1 1 (call.CopyWrite a 0 (171 ∷ []))
    ∷ begins 1 0
    ∷ entry.WriteEnd 1 (page 0) how
    ∷ done 1 2 (call.CopyWrite a 0 (205 ∷ []))
    ∷ barred 1 3 (error.Unsettled 0)
    ∷ [])

-- a page whose write failed is cut, so it is clean, and is discarded
abbrev pub cut_page_dropped : List Entry
cut_page_dropped =
    reverse (
    opened 8192 8192
    ∷ read_in 1 1
    ∷ done 1 1 (call.CopyWrite a 4096 (171 ∷ []))
    ∷ begins 1 1
    ∷ fails 1 1
    ∷ refused 1 2 (call.Flush a None) (error.WriteFault 1)
    ∷ done 1 3 (call.SetSizes a 8192 4096)
    ∷ done 1 4 (call.SetSizes a 8192 8192)
    ∷ discarded 1 5
    ∷ [])

-- a zeroing lets both pages grow: a discard of both is told the first
abbrev pub both_grown : CcError → List Entry
both_grown cause =
    reverse (
    opened 8192 4000
    ∷ read_in 1 0
    ∷ entry.PageIn 1 (page 1) false
    ∷ done 1 1 (call.Zero a (record { from = 4000; to = 4098 }))
    ∷ refused 1 2 (call.Discard a (Some second_page)) (error.Grown 1)
    ∷ barred 1 3 cause
    ∷ [])

-- the first page is changed, and the second grows: the first is discarded
abbrev pub dropped_beside_grown : List Entry
dropped_beside_grown =
    reverse (
    opened 8192 5000
    ∷ read_in 1 0
    ∷ read_in 1 1
    ∷ done 1 1 (call.CopyWrite a 0 (171 ∷ []))
    ∷ done 1 2 (call.CopyWrite a 5000 (205 ∷ []))
    ∷ done 1 3 (call.Discard a (Some first_page))
    ∷ read_in 1 0
    ∷ answers 1 4 (call.CopyRead a 0 1 true) (reply.Read (90 ∷ []))
    ∷ answers 1 5 (call.CopyRead a 5000 1 true) (reply.Read (205 ∷ []))
    ∷ [])

-- A zeroing lets both pages grow, and a write of the second fails.
abbrev pub both_barred : List Entry
both_barred =
    opened 8192 4000
    ∷ read_in 1 0
    ∷ entry.PageIn 1 (page 1) false
    ∷ done 1 1 (call.Zero a (record { from = 4000; to = 4098 }))
    ∷ begins 1 1
    ∷ fails 1 1
    ∷ refused 1 2 (call.Flush a (Some second_page)) (error.WriteFault 1)
    ∷ []

-- a discard of both is told the failed write, and one of the first that it has grown
abbrev pub unsettled_first : List Entry
unsettled_first =
    reverse (
    both_barred
    ++ barred 1 3 (error.Unsettled 1)
    ∷ refused 1 4 (call.Discard a (Some first_page)) (error.Grown 0)
    ∷ [])

-- wrong: a discard of both is told the growth, or one of the first the failed write of the second
abbrev pub grown_first : List Entry
grown_first = reverse (both_barred ++ barred 1 3 (error.Grown 0) ∷ [])

abbrev pub unsettled_elsewhere : List Entry
unsettled_elsewhere = reverse (both_barred ++ refused 1 3 (call.Discard a (Some first_page)) (error.Unsettled 1) ∷ [])

-- a page is mapped
abbrev pub mapped : List Entry
mapped = opened 8192 8192 ∷ read_in 1 0 ∷ answers 1 1 (call.Map a 0 16) (reply.Hold 1) ∷ []

-- the hold bars a discard of its page, not one of another
abbrev pub barred_by_hold : List Entry
barred_by_hold =
    reverse (
    mapped
    ++ barred 1 2 (error.Held 1)
    ∷ done 1 3 (call.Discard a (Some second_page))
    ∷ answers 1 4 (call.CopyRead a 0 1 false) (reply.Read (90 ∷ []))
    ∷ [])

-- wrong: the mapped page is discarded
abbrev pub mapped_dropped : List Entry
mapped_dropped = reverse (mapped ++ discarded 1 2 ∷ [])

-- wrong: the hold bars a discard of another page
abbrev pub barred_beside_hold : List Entry
barred_beside_hold = reverse (mapped ++ refused 1 2 (call.Discard a (Some second_page)) (error.Held 1) ∷ [])

-- an object that is not open, of a stream with a held page
abbrev pub of_second : CcError → List Entry
of_second cause = reverse (mapped ++ refused 1 2 (call.Discard second None) cause ∷ [])

-- a page that is held, whose write failed
abbrev pub of_held : CcError → List Entry
of_held cause =
    reverse (write_failed ++ answers 1 3 (call.Map a 0 16) (reply.Hold 1) ∷ barred 1 4 cause ∷ [])
