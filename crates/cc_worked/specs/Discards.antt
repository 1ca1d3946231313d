-- Discards: pages that go with their changes unwritten, and what is read of them afterwards.
use Rattle.std.specs.Prelude.{List, [], ◌∷◌, ◌++◌, true, false, reverse}
use Rattle.std.specs.declared.option.Option.TheVariants.{Some, None}
use Rattle.cc_entry.specs.declared.call.Call.TheVariants as call
use Rattle.cc_entry.specs.declared.query.Query.TheVariants as query
use Rattle.cc_entry.specs.declared.reply.Reply.TheVariants as reply
use Rattle.cc_entry.specs.declared.query.Value.TheVariants as value
use Rattle.cc_entry.specs.declared.error.CcError.TheVariants as error
use Rattle.cc_entry.specs.declared.entry.Entry.{Entry}
use Rattle.cc_worked.specs.Values.{a, opened, done, answers, refused, dirty_is, read_in, goes_out, begins, ends, written, synced, discarded}

-- a change is flushed, a later one of the same byte is discarded
abbrev pub change_dropped : List Entry
change_dropped =
    opened 8192 8192
    ∷ read_in 1 0
    ∷ done 1 1 (call.CopyWrite a 0 (171 ∷ []))
    ∷ written 1 0
    ++ synced 1
    ∷ done 1 2 (call.Flush a None)
    ∷ done 1 3 (call.CopyWrite a 0 (205 ∷ []))
    ∷ discarded 1 4
    ∷ []

-- no page is dirty, and the page comes in as it was flushed
abbrev pub flushed_byte_back : List Entry
flushed_byte_back =
    reverse (
    change_dropped
    ++ dirty_is 1 5 false
    ∷ read_in 1 0
    ∷ answers 1 6 (call.CopyRead a 0 2 true) (reply.Read (171 ∷ 90 ∷ []))
    ∷ [])

-- wrong: the page is dirty still
abbrev pub dirty_after : List Entry
dirty_after = reverse (change_dropped ++ dirty_is 1 5 true ∷ [])

-- wrong: it is in the cache still, so a read finds it, or it goes out
abbrev pub found_after : List Entry
found_after = reverse (change_dropped ++ answers 1 5 (call.CopyRead a 0 2 false) (reply.Read (171 ∷ 90 ∷ [])) ∷ [])

abbrev pub out_after : List Entry
out_after = reverse (change_dropped ++ goes_out 1 0 ∷ [])

-- wrong: the change that was dropped is read
abbrev pub dropped_byte_read : List Entry
dropped_byte_read = reverse (change_dropped ++ read_in 1 0 ∷ answers 1 5 (call.CopyRead a 0 2 true) (reply.Read (205 ∷ 90 ∷ [])) ∷ [])

-- wrong: the change that was flushed is dropped too
abbrev pub flushed_byte_lost : List Entry
flushed_byte_lost = reverse (change_dropped ++ read_in 1 0 ∷ answers 1 5 (call.CopyRead a 0 2 true) (reply.Read (90 ∷ 90 ∷ [])) ∷ [])

-- After the discard the next byte is changed and written, then the first one changed and discarded.
abbrev pub dropped_again : List Entry
dropped_again =
    change_dropped
    ++ read_in 1 0
    ∷ done 1 5 (call.CopyWrite a 1 (239 ∷ []))
    ∷ written 1 0
    ++ done 1 6 (call.CopyWrite a 0 (205 ∷ []))
    ∷ discarded 1 7
    ∷ read_in 1 0
    ∷ []

-- both bytes are those that were written
abbrev pub written_bytes_back : List Entry
written_bytes_back = reverse (dropped_again ++ answers 1 8 (call.CopyRead a 0 2 true) (reply.Read (171 ∷ 239 ∷ [])) ∷ [])

-- a page is changed once before its transfer begins and once before it ends
abbrev pub changed_under_way : List Entry
changed_under_way =
    opened 8192 8192
    ∷ read_in 1 0
    ∷ done 1 1 (call.CopyWrite a 0 (171 ∷ []))
    ∷ begins 2 0
    ∷ done 1 2 (call.CopyWrite a 0 (205 ∷ []))
    ∷ []

-- wrong: the page is discarded before the end
abbrev pub discarded_under_way : List Entry
discarded_under_way = reverse (changed_under_way ++ discarded 1 3 ∷ [])

-- after the end it is, and comes in as the transfer began
abbrev pub discarded_after_end : List Entry
discarded_after_end =
    reverse (
    changed_under_way
    ++ ends 2 0
    ∷ discarded 1 3
    ∷ read_in 1 0
    ∷ answers 1 4 (call.CopyRead a 0 1 true) (reply.Read (171 ∷ []))
    ∷ [])

-- a change over the boundary of two pages, and a discard of one byte of the second
abbrev pub second_dropped : List Entry
second_dropped =
    opened 8192 8192
    ∷ read_in 1 0
    ∷ read_in 1 1
    ∷ done 1 1 (call.CopyWrite a 4095 (171 ∷ 205 ∷ []))
    ∷ done 1 2 (call.Discard a (Some (record { from = 5000; to = 5001 })))
    ∷ []

-- the whole of the second page goes, and the first stays as it is
abbrev pub first_kept : List Entry
first_kept =
    reverse (
    second_dropped
    ++ dirty_is 1 3 true
    ∷ refused 1 4 (call.CopyRead a 4095 2 false) (error.NotResident 1)
    ∷ read_in 1 1
    ∷ answers 1 5 (call.CopyRead a 4095 2 false) (reply.Read (171 ∷ 90 ∷ []))
    ∷ [])

-- wrong: the first page goes too: it is clean, comes in, or its change is not read
abbrev pub first_clean : List Entry
first_clean = reverse (second_dropped ++ dirty_is 1 3 false ∷ [])

abbrev pub first_comes_in : List Entry
first_comes_in = reverse (second_dropped ++ read_in 1 0 ∷ [])

abbrev pub first_dropped : List Entry
first_dropped = reverse (second_dropped ++ answers 1 3 (call.CopyRead a 4095 1 true) (reply.Read (90 ∷ [])) ∷ [])

-- a page that is dirty by a stamp alone is discarded, with its stamp
abbrev pub stamp_dropped : List Entry
stamp_dropped =
    reverse (
    opened 8192 8192
    ∷ read_in 1 0
    ∷ answers 1 1 (call.PinRead a 0 16 false) (reply.Hold 1)
    ∷ done 1 2 (call.SetDirty 1 (Some 7))
    ∷ done 1 3 (call.EndHold 1)
    ∷ discarded 1 4
    ∷ answers 1 5 (call.Query (query.LsnForFile a)) (reply.Value (value.Lsns None))
    ∷ [])

-- wrong: the stamp stays
abbrev pub stamp_kept : List Entry
stamp_kept =
    reverse (
    opened 8192 8192
    ∷ read_in 1 0
    ∷ answers 1 1 (call.PinRead a 0 16 false) (reply.Hold 1)
    ∷ done 1 2 (call.SetDirty 1 (Some 7))
    ∷ done 1 3 (call.EndHold 1)
    ∷ discarded 1 4
    ∷ answers 1 5 (call.Query (query.LsnForFile a)) (reply.Value (value.Lsns (Some (7, 7))))
    ∷ [])
