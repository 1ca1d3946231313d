-- The record of a stream on its disk tells no valid data length whose bytes a crash could take back.
use Rattle.std.specs.Prelude.{ℕ, List, [], ◌∷◌, ◌++◌, true, false, reverse, take, drop, map}
use Rattle.std.specs.declared.option.Option.TheVariants.{None}
use Rattle.cc_entry.specs.declared.call.Call.TheVariants as call
use Rattle.cc_entry.specs.declared.reply.Reply.TheVariants as reply
use Rattle.cc_entry.specs.declared.query.Value.TheVariants as value
use Rattle.cc_entry.specs.declared.entry.End.{End}
use Rattle.cc_entry.specs.declared.entry.End.TheVariants as how
use Rattle.cc_entry.specs.declared.entry.Entry.{Entry}
use Rattle.cc_entry.specs.declared.entry.Entry.TheVariants as entry
use Rattle.cc_model.specs.Records.{crash_records}
use Rattle.cc_worked.specs.Values.{a, opened, done, read_in, begins, ends, fails, written, synced, answers, sized}

-- a record of stream 0
abbrev pub recorded : ℕ → ℕ → End → Entry
recorded size valid how = entry.Record 1 0 size valid how

-- the byte behind the valid data length is written
abbrev pub grown : List Entry
grown = opened 8192 5000 ∷ read_in 1 1 ∷ done 1 1 (call.CopyWrite a 5000 (171 ∷ [])) ∷ []

-- its page goes to the disk, and a sync follows
abbrev pub settled : List Entry
settled = grown ++ written 1 1 ++ synced 1 ∷ []

-- the record tells the new length
abbrev pub tells_grown : List Entry
tells_grown = reverse (settled ++ recorded 8192 5001 how.Good ∷ synced 1 ∷ [])

-- a record may tell the length at first before any page was written, and its write may fail
abbrev pub tells_first : List Entry
tells_first = reverse (grown ++ recorded 8192 5000 how.Failed ∷ entry.RecordFailed 2 0 ∷ [])

-- wrong: no sync came after the page's transfer
abbrev pub before_sync : List Entry
before_sync = reverse (grown ++ written 1 1 ++ recorded 8192 5001 how.Good ∷ [])

-- wrong: the page's transfer failed before the sync
abbrev pub after_failed_transfer : List Entry
after_failed_transfer = reverse (grown ++ begins 1 1 ∷ fails 1 1 ∷ synced 1 ∷ recorded 8192 5001 how.Good ∷ [])

-- wrong: the record tells another size
abbrev pub another_size : List Entry
another_size = reverse (settled ++ recorded 8193 5001 how.Good ∷ [])

-- wrong: the record tells more than the valid data length
abbrev pub past_valid : List Entry
past_valid = reverse (settled ++ recorded 8192 5002 how.Good ∷ [])

-- wrong: a page is under way
abbrev pub under_way : List Entry
under_way = reverse (grown ++ begins 1 1 ∷ recorded 8192 5000 how.Good ∷ [])

-- a stream without valid bytes grows by one, is written without a sync, and is opened again with the new length
abbrev pub reopened : List Entry
reopened =
    opened 8192 0
    ∷ read_in 1 0
    ∷ done 1 1 (call.CopyWrite a 0 (171 ∷ []))
    ∷ written 1 0
    ++ answers 1 2 (call.Uninitialise a None) (reply.Value (value.Flag true))
    ∷ done 1 3 (call.Initialise a (sized 8192 1) 16 false)
    ∷ []

-- wrong: what the second initialise said is taken to be on the disk
abbrev pub told_by_second : List Entry
told_by_second = reverse (reopened ++ recorded 8192 1 how.Good ∷ [])

-- of each content that a crash may leave of the record page, the two lowest bytes of the valid data length
abbrev pub told_lengths : List Entry → List (List ℕ)
told_lengths past = map (λ page. take 2 (drop 16 page)) (crash_records [] past 0)
