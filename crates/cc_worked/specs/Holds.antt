-- Holds: what they keep in the cache, and what they keep from others.
use Rattle.std.specs.Prelude.{List, [], ◌∷◌, ◌++◌, true, false, reverse}
use Rattle.std.specs.declared.option.Option.TheVariants.{Some, None}
use Rattle.cc_entry.specs.declared.call.Call.TheVariants as call
use Rattle.cc_entry.specs.declared.reply.Reply.TheVariants as reply
use Rattle.cc_entry.specs.declared.error.CcError.TheVariants as error
use Rattle.cc_entry.specs.declared.entry.Entry.{Entry}
use Rattle.cc_worked.specs.Values.{a, opened, done, answers, refused, read_in, goes_out, written, synced}

-- a mapped page, which bars a purge and a size step below the end of its hold
abbrev pub mapped : List Entry
mapped =
    opened 8192 8192
    ∷ read_in 1 0
    ∷ answers 1 1 (call.Map a 0 16) (reply.Hold 1)
    ∷ refused 1 2 (call.Purge a None) (error.Held 1)
    ∷ refused 1 3 (call.SetSizes a 8192 8) (error.Held 1)
    ∷ []

abbrev pub unmapped : List Entry
unmapped = mapped ++ done 1 4 (call.EndHold 1) ∷ []

-- the purge takes the page out, and a read brings it in again
abbrev pub purged : List Entry
purged =
    reverse (
    unmapped
    ++ goes_out 1 0
    ∷ done 1 5 (call.Purge a None)
    ∷ refused 1 6 (call.CopyRead a 0 1 false) (error.NotResident 0)
    ∷ read_in 1 0
    ∷ answers 1 7 (call.CopyRead a 0 1 true) (reply.Read (90 ∷ []))
    ∷ answers 1 8 (call.CopyRead a 0 1 false) (reply.Read (90 ∷ []))
    ∷ [])

-- wrong: the mapped page goes out
abbrev pub mapped_page_out : List Entry
mapped_page_out = reverse (mapped ++ goes_out 1 0 ∷ [])

-- wrong: the purge is done although the page is mapped
abbrev pub mapped_page_purged : List Entry
mapped_page_purged = reverse (mapped ++ done 1 4 (call.Purge a None) ∷ [])

-- wrong: the size falls below the end of the hold
abbrev pub mapped_page_cut : List Entry
mapped_page_cut = reverse (mapped ++ done 1 4 (call.SetSizes a 8192 8) ∷ [])

-- wrong: the purge is done while the page is still there
abbrev pub purged_in_place : List Entry
purged_in_place = reverse (unmapped ++ done 1 5 (call.Purge a None) ∷ [])

-- wrong: a read that may not wait answers without its page
abbrev pub read_without_page : List Entry
read_without_page = reverse (opened 8192 8192 ∷ answers 1 1 (call.CopyRead a 0 1 false) (reply.Read (90 ∷ [])) ∷ [])

-- An exclusive pin that zeroes its page, and a pin of the same page, which it bars.
abbrev pub prepared : List Entry
prepared =
    opened 8192 8192
    ∷ read_in 1 0
    ∷ answers 1 1 (call.PreparePin a 0 4096 true true) (reply.Hold 1)
    ∷ refused 1 2 (call.PinRead a 0 16 false) (error.Busy 1)
    ∷ done 1 3 (call.SetDirty 1 None)
    ∷ []

-- the pin is repinned, and both holds end
abbrev pub released : List Entry
released = prepared ++ answers 1 4 (call.Repin 1) (reply.Hold 2) ∷ done 1 5 (call.EndHold 1) ∷ done 1 6 (call.EndHold 2) ∷ []

-- a flush of the hold's range is part of the repin's end; a purge and a read follow
abbrev pub written_through : List Entry
written_through =
    reverse (
    released
    ++ written 1 0
    ++ synced 1
    ∷ done 1 7 (call.Flush a (Some (record { from = 0; to = 4096 })))
    ∷ goes_out 1 0
    ∷ done 1 8 (call.Purge a None)
    ∷ read_in 1 0
    ∷ answers 1 9 (call.CopyRead a 0 2 true) (reply.Read (0 ∷ 0 ∷ []))
    ∷ [])

-- wrong: a second pin of a page that is pinned exclusively
abbrev pub pinned_twice : List Entry
pinned_twice = reverse (prepared ++ answers 1 4 (call.PinRead a 0 16 false) (reply.Hold 2) ∷ [])

-- wrong: the page goes out before it is written
abbrev pub dirty_page_out : List Entry
dirty_page_out = reverse (released ++ goes_out 1 0 ∷ [])

-- wrong: the flush is done with no sync
abbrev pub flush_without_sync : List Entry
flush_without_sync = reverse (released ++ written 1 0 ++ done 1 7 (call.Flush a None) ∷ [])

-- a sync before the page is written may stand
abbrev pub synced_unwritten : List Entry
synced_unwritten = reverse (released ++ synced 1 ∷ [])

-- wrong: the flush is done by that sync
abbrev pub flush_without_write : List Entry
flush_without_write = done 1 7 (call.Flush a None) ∷ synced_unwritten
