-- What a transfer cleans: the changes before its begin, and none after it.
use Rattle.std.specs.Prelude.{List, [], ◌∷◌, ◌++◌, true, false, reverse}
use Rattle.std.specs.declared.option.Option.TheVariants.{Some, None}
use Rattle.cc_entry.specs.declared.place.DirtyRow.{DirtyRow}
use Rattle.cc_entry.specs.declared.call.Call.TheVariants as call
use Rattle.cc_entry.specs.declared.query.Query.TheVariants as query
use Rattle.cc_entry.specs.declared.reply.Reply.TheVariants as reply
use Rattle.cc_entry.specs.declared.reply.Outcome.TheVariants as outcome
use Rattle.cc_entry.specs.declared.entry.Entry.{Entry}
use Rattle.cc_entry.specs.declared.entry.Entry.TheVariants as entry
use Rattle.cc_worked.specs.Values.{a, opened, done, answers, dirty_is, read_in, goes_out, begins, ends, fails, synced}

-- While a second caller writes the page, the first changes and stamps it again.
abbrev pub changed_under_way : List Entry
changed_under_way =
    opened 8192 8192
    ∷ done 0 2 (call.SetLog a 0)
    ∷ entry.Append 1 0 1 (1 ∷ [])
    ∷ read_in 1 0
    ∷ answers 1 1 (call.PinRead a 0 16 false) (reply.Hold 1)
    ∷ done 1 2 (call.PinnedWrite 1 0 (1 ∷ []))
    ∷ done 1 3 (call.SetDirty 1 (Some 1))
    ∷ entry.Flushed 2 0 1
    ∷ begins 2 0
    ∷ entry.Append 1 0 2 (2 ∷ [])
    ∷ done 1 4 (call.PinnedWrite 1 0 (2 ∷ []))
    ∷ done 1 5 (call.SetDirty 1 (Some 2))
    ∷ []

-- the transfer ends well, or fails
abbrev pub ended_well : List Entry
ended_well = reverse (changed_under_way ++ ends 2 0 ∷ [])

abbrev pub ended_badly : List Entry
ended_badly = reverse (changed_under_way ++ fails 2 0 ∷ [])

-- a third caller is told the table
abbrev pub told : List DirtyRow → Entry
told rows = entry.Call 3 1 None (call.Query (query.DirtyPages 0)) (outcome.Done (reply.Rows rows))

-- wrong: the transfer is ended by a caller that did not begin it
abbrev pub ended_by_another : List Entry
ended_by_another = reverse (changed_under_way ++ ends 1 0 ∷ [])

-- wrong: a second transfer begins while the first is under way
abbrev pub begun_twice : List Entry
begun_twice = reverse (changed_under_way ++ begins 1 0 ∷ [])

-- wrong: the disk is synced while the transfer is under way
abbrev pub synced_under_way : List Entry
synced_under_way = reverse (changed_under_way ++ synced 1 ∷ [])

-- after the transfer the first caller ends its pin
abbrev pub transferred : List Entry
transferred = changed_under_way ++ ends 2 0 ∷ done 1 6 (call.EndHold 1) ∷ []

-- the page is dirty, by the later change
abbrev pub dirty_after : List Entry
dirty_after = reverse (transferred ++ dirty_is 3 1 true ∷ [])

-- wrong: the end of the transfer has cleaned the later change too
abbrev pub clean_after : List Entry
clean_after = reverse (transferred ++ dirty_is 3 1 false ∷ [])

-- wrong: the page goes out
abbrev pub out_after : List Entry
out_after = reverse (transferred ++ goes_out 1 0 ∷ [])
