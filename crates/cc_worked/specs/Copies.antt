-- Copied reads and writes: valid data length, refusals, zeroing.
use Rattle.std.specs.Prelude.{List, [], ◌∷◌, ◌++◌, true, false, reverse}
use Rattle.cc_entry.specs.declared.call.Call.TheVariants as call
use Rattle.cc_entry.specs.declared.reply.Reply.TheVariants as reply
use Rattle.cc_entry.specs.declared.error.CcError.{CcError}
use Rattle.cc_entry.specs.declared.error.CcError.TheVariants as error
use Rattle.cc_entry.specs.declared.entry.Entry.{Entry}
use Rattle.cc_entry.specs.declared.entry.Entry.TheVariants as entry
use Rattle.cc_worked.specs.Values.{a, page, opened, done, answers, refused, read_in}

-- a write at the valid data length, in its page
abbrev pub a_write : List Entry
a_write = opened 8192 5000 ∷ read_in 1 1 ∷ done 1 1 (call.CopyWrite a 5000 (171 ∷ [])) ∷ []

-- a read of the byte before the write, of the write's, and of the one after it
abbrev pub read_around : List Entry
read_around = reverse (a_write ++ answers 1 2 (call.CopyRead a 4999 3 true) (reply.Read (90 ∷ 171 ∷ 0 ∷ [])) ∷ [])

-- wrong: past the valid data length the read shows what the disk held
abbrev pub disk_past_valid : List Entry
disk_past_valid = reverse (a_write ++ answers 1 2 (call.CopyRead a 4999 3 true) (reply.Read (90 ∷ 171 ∷ 90 ∷ [])) ∷ [])

-- wrong: the read shows what the disk held in place of the write
abbrev pub disk_under_write : List Entry
disk_under_write = reverse (a_write ++ answers 1 2 (call.CopyRead a 4999 3 true) (reply.Read (90 ∷ 90 ∷ 0 ∷ [])) ∷ [])

-- a page with no valid byte comes in as zeros, without a read of the disk
abbrev pub zero_page : List Entry
zero_page =
    reverse (
    opened 8192 4096
    ∷ entry.PageIn 1 (page 1) false
    ∷ answers 1 1 (call.CopyRead a 4096 2 true) (reply.Read (0 ∷ 0 ∷ []))
    ∷ [])

-- wrong: it is read from the disk
abbrev pub zero_page_read : List Entry
zero_page_read = reverse (opened 8192 4096 ∷ read_in 1 1 ∷ [])

-- a read at the end of the size, and one past it, which needs no page
abbrev pub read_to_size : List Entry
read_to_size =
    reverse (
    opened 8192 8192
    ∷ read_in 1 1
    ∷ answers 1 1 (call.CopyRead a 8190 10 true) (reply.Read (90 ∷ 90 ∷ []))
    ∷ answers 1 2 (call.CopyRead a 9000 4 true) (reply.Read [])
    ∷ [])

-- wrong: the read goes on past the size
abbrev pub read_past_size : List Entry
read_past_size =
    reverse (opened 8192 8192 ∷ read_in 1 1 ∷ answers 1 1 (call.CopyRead a 8190 3 true) (reply.Read (90 ∷ 90 ∷ 0 ∷ [])) ∷ [])

-- a write that ends past the size is refused, and one that starts past the valid data length
abbrev pub write_past_size : CcError → List Entry
write_past_size cause = reverse (opened 8192 5000 ∷ refused 1 1 (call.CopyWrite a 8191 (171 ∷ 205 ∷ [])) cause ∷ [])

abbrev pub write_past_valid : CcError → List Entry
write_past_valid cause = reverse (opened 8192 5000 ∷ refused 1 1 (call.CopyWrite a 5001 (171 ∷ [])) cause ∷ [])

-- wrong: such a write is done
abbrev pub hole_in_valid : List Entry
hole_in_valid = reverse (opened 8192 5000 ∷ read_in 1 1 ∷ done 1 1 (call.CopyWrite a 5001 (171 ∷ [])) ∷ [])

-- a zeroing and a read of more than the limit
abbrev pub too_long : List Entry
too_long =
    reverse (
    opened 2097152 2097152
    ∷ refused 1 1 (call.Zero a (record { from = 0; to = 1048577 })) (error.TooLong 1048576)
    ∷ refused 1 2 (call.CopyRead a 0 1048577 true) (error.TooLong 1048576)
    ∷ [])

-- a zeroing from the valid data length on, and a write at its end
abbrev pub zeroed : List Entry
zeroed =
    reverse (
    opened 8192 5000
    ∷ read_in 1 1
    ∷ done 1 1 (call.Zero a (record { from = 5000; to = 6000 }))
    ∷ done 1 2 (call.CopyWrite a 6000 (171 ∷ []))
    ∷ answers 1 3 (call.CopyRead a 4999 3 true) (reply.Read (90 ∷ 0 ∷ 0 ∷ []))
    ∷ answers 1 4 (call.CopyRead a 5999 3 true) (reply.Read (0 ∷ 171 ∷ 0 ∷ []))
    ∷ [])

-- a zeroing that starts past the valid data length is refused
abbrev pub zeroing_past_valid : List Entry
zeroing_past_valid =
    reverse (opened 8192 5000 ∷ refused 1 1 (call.Zero a (record { from = 5001; to = 6000 })) (error.BeyondValid 5000) ∷ [])

-- wrong: it is done
abbrev pub hole_before_zeros : List Entry
hole_before_zeros = reverse (opened 8192 5000 ∷ read_in 1 1 ∷ done 1 1 (call.Zero a (record { from = 5001; to = 6000 })) ∷ [])
