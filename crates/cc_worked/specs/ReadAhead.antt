-- Read-ahead: when a read asks for one, and for what.
use Rattle.std.specs.Prelude.{List, [], ◌∷◌, ◌++◌, true, false, reverse, replicate}
use Rattle.std.specs.declared.option.Option.TheVariants.{Some, None}
use Rattle.cc_entry.specs.declared.place.Request.{Request}
use Rattle.cc_entry.specs.declared.call.Call.TheVariants as call
use Rattle.cc_entry.specs.declared.reply.Reply.TheVariants as reply
use Rattle.cc_entry.specs.declared.error.CcError.TheVariants as error
use Rattle.cc_entry.specs.declared.entry.Entry.{Entry}
use Rattle.cc_worked.specs.Values.{a, opened, done, answers, refused, read_in}

-- two reads of which the second begins where the first ends, by granules of a page
abbrev pub two_reads : List Entry
two_reads =
    opened 8192 8192
    ∷ refused 1 1 (call.SetGranularity a 5000) error.BadGranularity
    ∷ done 1 2 (call.SetGranularity a 4096)
    ∷ read_in 1 0
    ∷ answers 1 3 (call.CopyRead a 0 10 true) (reply.Read (replicate 10 90))
    ∷ answers 1 4 (call.CopyRead a 10 10 true) (reply.Read (replicate 10 90))
    ∷ []

abbrev pub second_page : Request
second_page = record { file = a; at = 4096; len = 4096 }

-- A third read that goes on where the second ended asks for the next page.
abbrev pub asked : List Entry
asked = two_reads ++ answers 1 5 (call.AskAhead a 20 10) (reply.Ahead (Some second_page)) ∷ []

-- the step brings the page in; once read-ahead is off, the same read asks for nothing
abbrev pub page_ahead : List Entry
page_ahead =
    reverse (
    asked
    ++ read_in 1 1
    ∷ answers 1 6 (call.AheadStep second_page) (reply.Whole true)
    ∷ done 1 7 (call.SetAttributes a true false)
    ∷ answers 1 8 (call.AskAhead a 20 10) (reply.Ahead None)
    ∷ answers 1 9 (call.CopyRead a 4096 1 false) (reply.Read (90 ∷ []))
    ∷ [])

-- a read somewhere else asks for nothing
abbrev pub no_page_ahead : List Entry
no_page_ahead = reverse (two_reads ++ answers 1 5 (call.AskAhead a 100 10) (reply.Ahead None) ∷ [])

-- wrong: it asks all the same
abbrev pub ahead_of_a_jump : List Entry
ahead_of_a_jump = reverse (two_reads ++ answers 1 5 (call.AskAhead a 100 10) (reply.Ahead (Some second_page)) ∷ [])

-- wrong: the read that goes on asks for nothing
abbrev pub not_asked : List Entry
not_asked = reverse (two_reads ++ answers 1 5 (call.AskAhead a 20 10) (reply.Ahead None) ∷ [])

-- wrong: the request goes past the size
abbrev pub ahead_past_size : List Entry
ahead_past_size = reverse (two_reads ++ answers 1 5 (call.AskAhead a 20 10) (reply.Ahead (Some (record second_page { len = 8192 }))) ∷ [])

-- wrong: the step says that the page is there, and it is not
abbrev pub step_without_page : List Entry
step_without_page = reverse (asked ++ answers 1 6 (call.AheadStep second_page) (reply.Whole true) ∷ [])

-- wrong: the step gives up although the object is open and its blocks fit
abbrev pub step_given_up : List Entry
step_given_up = reverse (asked ++ answers 1 6 (call.AheadStep second_page) (reply.Whole false) ∷ [])

-- the queue is full as the read that goes on asks, and has room as it asks again
abbrev pub queue_full : List Entry
queue_full =
    reverse (
    two_reads
    ++ refused 1 5 (call.AskAhead a 20 10) error.QueueFull
    ∷ answers 1 6 (call.AskAhead a 20 10) (reply.Ahead (Some second_page))
    ∷ [])

-- wrong: the queue is full for a read that asks for nothing, or for a call that never asks
abbrev pub full_for_a_jump : List Entry
full_for_a_jump = reverse (two_reads ++ refused 1 5 (call.AskAhead a 100 10) error.QueueFull ∷ [])

abbrev pub full_for_a_copy : List Entry
full_for_a_copy = reverse (two_reads ++ refused 1 5 (call.CopyRead a 20 10 true) error.QueueFull ∷ [])
