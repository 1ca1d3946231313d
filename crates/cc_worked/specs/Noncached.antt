-- Noncached reads and writes.
use Rattle.std.specs.Prelude.{List, [], ◌∷◌, ◌++◌, true, reverse, replicate}
use Rattle.cc_entry.specs.declared.call.Call.TheVariants as call
use Rattle.cc_entry.specs.declared.reply.Reply.TheVariants as reply
use Rattle.cc_entry.specs.declared.error.CcError.TheVariants as error
use Rattle.cc_entry.specs.declared.entry.Entry.{Entry}
use Rattle.cc_worked.specs.Values.{a, opened, done, answers, refused, dirty_is, read_in, goes_out, begins, fails, written}

-- a stream of four bytes, of which the cache changed the first
abbrev pub changed : List Entry
changed = opened 4 4 ∷ read_in 1 0 ∷ done 1 1 (call.CopyWrite a 0 (171 ∷ [])) ∷ []

-- a noncached read writes the page first, and answers what the cache has
abbrev pub read_through : List Entry
read_through = reverse (changed ++ written 1 0 ++ answers 1 2 (call.NcRead a 0) (reply.Read (171 ∷ 90 ∷ 90 ∷ 90 ∷ [])) ∷ [])

-- wrong: it answers what the disk holds while the page is dirty
abbrev pub disk_read_while_dirty : List Entry
disk_read_while_dirty = reverse (changed ++ answers 1 2 (call.NcRead a 0) (reply.Read (90 ∷ 90 ∷ 90 ∷ 90 ∷ [])) ∷ [])

-- wrong: it answers past the size
abbrev pub read_past_size : List Entry
read_past_size = reverse (changed ++ written 1 0 ++ answers 1 2 (call.NcRead a 0) (reply.Read (171 ∷ 90 ∷ 90 ∷ 90 ∷ 90 ∷ [])) ∷ [])

-- A copied write of the first page, and a copied read of the last byte of it and the first of the next.
abbrev pub copied : List Entry
copied =
    reverse (
    opened 8192 8192
    ∷ read_in 1 0
    ∷ done 1 1 (call.CopyWrite a 0 (171 ∷ []))
    ∷ read_in 1 1
    ∷ answers 1 2 (call.CopyRead a 4095 2 true) (reply.Read (90 ∷ 90 ∷ []))
    ∷ [])

-- A noncached write stores the second page.
abbrev pub page_stored : List Entry
page_stored =
    opened 8192 8192
    ∷ read_in 1 0
    ∷ done 1 1 (call.CopyWrite a 0 (171 ∷ []))
    ∷ done 1 2 (call.NcStore a 1 (replicate 4096 205))
    ∷ []

-- its page is transferred and taken out, and a copied read shows it beside the first
abbrev pub written_around : List Entry
written_around =
    reverse (
    page_stored
    ++ written 1 1
    ++ goes_out 1 1
    ∷ done 1 3 (call.NcWrite a 1)
    ∷ read_in 1 1
    ∷ answers 1 4 (call.CopyRead a 4095 2 true) (reply.Read (90 ∷ 205 ∷ []))
    ∷ [])

-- a noncached read of the page that was copied into, and a noncached write of the next
abbrev pub read_and_written : List Entry
read_and_written =
    reverse (
    opened 8192 8192
    ∷ read_in 1 0
    ∷ done 1 1 (call.CopyWrite a 0 (171 ∷ []))
    ∷ written 1 0
    ++ answers 1 2 (call.NcRead a 0) (reply.Read (171 ∷ replicate 4095 90))
    ∷ done 1 3 (call.NcStore a 1 (replicate 4096 205))
    ∷ written 1 1
    ++ goes_out 1 1
    ∷ done 1 4 (call.NcWrite a 1)
    ∷ read_in 1 1
    ∷ answers 1 5 (call.CopyRead a 4095 2 true) (reply.Read (90 ∷ 205 ∷ []))
    ∷ [])

-- wrong: a noncached read of a whole page answers a byte too few
abbrev pub byte_left_out : List Entry
byte_left_out = reverse (opened 8192 8192 ∷ answers 1 1 (call.NcRead a 0) (reply.Read (replicate 4095 90)) ∷ [])

-- wrong: the journal ends between the store and the begin of its transfer
abbrev pub store_left : List Entry
store_left = reverse page_stored

-- wrong: something stands between the two
abbrev pub store_parted : List Entry
store_parted = reverse (page_stored ++ dirty_is 2 1 true ∷ [])

-- its transfer fails
abbrev pub transfer_failed : List Entry
transfer_failed = page_stored ++ begins 1 1 ∷ fails 1 1 ∷ []

-- the noncached write fails, and the store stands and is dirty
abbrev pub store_stands : List Entry
store_stands =
    reverse (
    transfer_failed
    ++ refused 1 3 (call.NcWrite a 1) (error.WriteFault 1)
    ∷ answers 1 4 (call.CopyRead a 4095 2 true) (reply.Read (90 ∷ 205 ∷ []))
    ∷ [])

-- wrong: the noncached write is done all the same
abbrev pub done_without_transfer : List Entry
done_without_transfer = reverse (transfer_failed ++ done 1 3 (call.NcWrite a 1) ∷ [])

-- wrong: a page is stored with fewer bytes than it has
abbrev pub part_stored : List Entry
part_stored = reverse (opened 8192 8192 ∷ done 1 1 (call.NcStore a 1 (205 ∷ [])) ∷ begins 1 1 ∷ [])
