-- What noncached calls leave, and the end of a repin with write through. Each stretch has its newest entry
-- first, and stands on a past.
use Rattle.std.specs.Prelude.{ℕ, List, [], ◌∷◌, false}
use Rattle.std.specs.declared.option.Option.TheVariants.{Some, None}
use Rattle.cc_entry.specs.declared.call.Call.{Call}
use Rattle.cc_entry.specs.declared.call.Call.TheVariants as call
use Rattle.cc_entry.specs.declared.reply.Reply.{Reply}
use Rattle.cc_entry.specs.declared.reply.Reply.TheVariants as reply
use Rattle.cc_entry.specs.declared.error.CcError.TheVariants as error
use Rattle.cc_entry.specs.declared.entry.End.TheVariants as how
use Rattle.cc_entry.specs.declared.entry.Entry.{Entry}
use Rattle.cc_entry.specs.declared.entry.Entry.TheVariants as entry
use Rattle.cc_worked.specs.Values.{a, page, opened, done, answers, refused, read_in, goes_out, begins, ends, fails, synced}

-- the bytes of a page, as far as they matter here
abbrev pub some_bytes : List ℕ
some_bytes = 171 ∷ []

-- the store with its begin
abbrev pub stored : List Entry
stored = begins 1 0 ∷ done 1 1 (call.NcStore a 0 some_bytes) ∷ []

-- a page is stored, is on the disk, goes out again, and its write ends
abbrev pub page_is_written : List Entry
page_is_written = done 1 2 (call.NcWrite a 0) ∷ goes_out 1 0 ∷ ends 1 0 ∷ stored

-- its transfer fails, or finds no memory
abbrev pub transfer_fails : List Entry
transfer_fails = refused 1 2 (call.NcWrite a 0) (error.WriteFault 0) ∷ fails 1 0 ∷ stored

abbrev pub transfer_wants_memory : List Entry
transfer_wants_memory = entry.WriteEnd 1 (page 0) how.NoMemory ∷ stored

-- a place that is no multiple of a page
abbrev pub misaligned : List Entry
misaligned = refused 1 1 (call.NcRead a 0) error.Unaligned ∷ []

-- a noncached read of a dirty page
abbrev pub first_read : Call
first_read = call.NcRead a 0

abbrev pub a_page : Reply
a_page = reply.Read some_bytes

abbrev pub read_through : List Entry
read_through = answers 1 3 first_read a_page ∷ ends 1 0 ∷ begins 1 0 ∷ []

-- wrong: the page was not written
abbrev pub read_around : List Entry
read_around = answers 1 3 first_read a_page ∷ []

-- two pages are read, and the first comes short
abbrev pub second_read : Call
second_read = call.NcRead a 1

abbrev pub short_page_first : List Entry
short_page_first = answers 1 2 second_read a_page ∷ answers 1 1 first_read a_page ∷ []

-- the bytes of both
abbrev pub both_pages : List ℕ
both_pages = 171 ∷ 171 ∷ []

-- wrong: the page behind is not read
abbrev pub short_page_alone : List Entry
short_page_alone = answers 1 1 first_read a_page ∷ []

-- the page behind is refused
abbrev pub refused_behind : List Entry
refused_behind = refused 1 2 second_read error.NotCached ∷ short_page_alone

-- wrong: a third one is asked
abbrev pub third_read : Call
third_read = call.NcRead a 2

abbrev pub refused_further : List Entry
refused_further = refused 1 3 third_read error.NotCached ∷ short_page_first

-- a repin of a pinned page that was stamped
abbrev pub repinned : List Entry
repinned =
    done 1 4 (call.EndHold 1)
    ∷ answers 1 3 (call.Repin 1) (reply.Hold 2)
    ∷ done 1 2 (call.SetDirty 1 None)
    ∷ answers 1 1 (call.PinRead a 0 16 false) (reply.Hold 1)
    ∷ read_in 1 0
    ∷ opened 8192 8192
    ∷ []

-- the hold ends, and its page is flushed; or the flush finds no memory, and the hold has ended all the same
abbrev pub written_through : List Entry
written_through =
    done 1 6 (call.Flush a (Some (record { from = 0; to = 16 }))) ∷ synced 1 ∷ ends 1 0 ∷ begins 1 0 ∷ done 1 5 (call.EndHold 2) ∷ []

abbrev pub hold_alone : List Entry
hold_alone = done 1 5 (call.EndHold 2) ∷ []
