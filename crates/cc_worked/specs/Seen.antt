-- What a caller has seen of the journal, and where its calls stand.
use Rattle.std.specs.Prelude.{List, [], ◌∷◌, true, false, reverse}
use Rattle.cc_entry.specs.declared.call.Call.TheVariants as call
use Rattle.cc_entry.specs.declared.reply.Reply.TheVariants as reply
use Rattle.cc_entry.specs.declared.entry.Entry.{Entry}
use Rattle.cc_worked.specs.Values.{a, opened, answers, dirty_is, read_in}

-- the first caller has seen that the stream was opened
abbrev pub seen_before : List Entry
seen_before = opened 8192 8192 ∷ []

-- its read, which brings the page in and answers after a call of another
abbrev pub its_read : Entry
its_read = answers 1 1 (call.CopyRead a 0 1 true) (reply.Read (90 ∷ []))

abbrev pub call_of_another : Entry
call_of_another = dirty_is 2 1 false

-- what the first caller has seen after the read, and all that there is
abbrev pub seen_after : List Entry
seen_after = reverse (opened 8192 8192 ∷ read_in 1 0 ∷ call_of_another ∷ its_read ∷ [])

abbrev pub whole_journal : List Entry
whole_journal = dirty_is 2 2 false ∷ seen_after

-- wrong: something is left out of what it has seen
abbrev pub one_left_out : List Entry
one_left_out = its_read ∷ read_in 1 0 ∷ seen_before
