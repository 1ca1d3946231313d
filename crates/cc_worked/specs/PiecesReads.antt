-- What copied reads leave: the pages that they bring in, and how they end. Each stretch has its newest entry
-- first, and stands on a past.
use Rattle.std.specs.Prelude.{List, [], ◌∷◌, true, false}
use Rattle.std.specs.declared.option.Option.TheVariants.{None}
use Rattle.cc_entry.specs.declared.call.Call.{Call}
use Rattle.cc_entry.specs.declared.call.Call.TheVariants as call
use Rattle.cc_entry.specs.declared.reply.Reply.{Reply}
use Rattle.cc_entry.specs.declared.reply.Reply.TheVariants as reply
use Rattle.cc_entry.specs.declared.query.Value.TheVariants as value
use Rattle.cc_entry.specs.declared.error.CcError.TheVariants as error
use Rattle.cc_entry.specs.declared.entry.Entry.{Entry}
use Rattle.cc_entry.specs.declared.entry.Entry.TheVariants as entry
use Rattle.cc_worked.specs.Values.{a, page, opened, answers, refused, read_in, synced}

-- a stream of two pages
abbrev pub two_pages : List Entry
two_pages = opened 8192 8192 ∷ []

-- the same, with its first page resident; and with one valid page
abbrev pub first_resident : List Entry
first_resident = read_in 2 0 ∷ two_pages

abbrev pub one_valid : List Entry
one_valid = opened 8192 4096 ∷ []

abbrev pub first_byte : Call
first_byte = call.CopyRead a 0 1 true

abbrev pub a_byte : Reply
a_byte = reply.Read (90 ∷ [])

-- the page of the read comes in, alone and beside another caller's
abbrev pub page_comes_in : List Entry
page_comes_in = answers 1 1 first_byte a_byte ∷ read_in 1 0 ∷ []

abbrev pub another_beside : List Entry
another_beside = read_in 2 1 ∷ page_comes_in

-- wrong: another page comes in
abbrev pub other_page_comes_in : List Entry
other_page_comes_in = answers 1 1 first_byte a_byte ∷ read_in 1 1 ∷ read_in 1 0 ∷ []

-- wrong: a read that may not wait brings its page in
abbrev pub no_waiting : Call
no_waiting = call.CopyRead a 0 1 false

abbrev pub comes_in_without_waiting : List Entry
comes_in_without_waiting = answers 1 1 no_waiting a_byte ∷ read_in 1 0 ∷ []

-- such a read of a resident page; wrong as a read of the shim, which waits
abbrev pub read_without_waiting : List Entry
read_without_waiting = answers 1 1 no_waiting a_byte ∷ []

-- wrong: a read syncs the disk
abbrev pub read_that_syncs : List Entry
read_that_syncs = answers 1 1 first_byte a_byte ∷ synced 1 ∷ read_in 1 0 ∷ []

-- wrong as a read that is done: its entry is missing; right where memory was wanting
abbrev pub page_alone : List Entry
page_alone = read_in 1 0 ∷ []

-- the read of the page fails, and nothing follows
abbrev pub fill_alone : List Entry
fill_alone = entry.FillFailed 1 (page 0) ∷ []

-- the disk fails to read the page
abbrev pub fill_fails : List Entry
fill_fails = refused 1 1 first_byte (error.ReadFault 0) ∷ entry.FillFailed 1 (page 0) ∷ []

-- another caller closes the file while the page is read, and that is answered
abbrev pub closed_meanwhile : List Entry
closed_meanwhile =
    refused 1 1 first_byte error.NotCached
    ∷ entry.FillFailed 1 (page 0)
    ∷ answers 2 1 (call.Uninitialise a None) (reply.Value (value.Flag true))
    ∷ []

-- wrong: the fault has no entry, or that of another caller
abbrev pub fault_alone : List Entry
fault_alone = refused 1 1 first_byte (error.ReadFault 0) ∷ []

abbrev pub fill_of_another_fails : List Entry
fill_of_another_fails = refused 1 1 first_byte (error.ReadFault 0) ∷ entry.FillFailed 2 (page 0) ∷ []

-- wrong where only the first page is valid: the second page is a page of zeros, and is not read
abbrev pub second_byte : Call
second_byte = call.CopyRead a 4096 1 true

abbrev pub zeros_fail : List Entry
zeros_fail = refused 1 1 second_byte (error.ReadFault 1) ∷ entry.FillFailed 1 (page 1) ∷ []

-- a write past the size is refused
abbrev pub past_the_size : Call
past_the_size = call.CopyWrite a 8192 (171 ∷ [])

abbrev pub write_refused : List Entry
write_refused = refused 1 1 past_the_size (error.BeyondSize 8192) ∷ []
