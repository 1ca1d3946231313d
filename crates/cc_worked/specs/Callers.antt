-- Callers: the number of each call, and the stream under which it stands.
use Rattle.std.specs.Prelude.{List, [], ◌∷◌, ◌++◌, true, false, reverse}
use Rattle.std.specs.declared.option.Option.TheVariants.{Some, None}
use Rattle.cc_entry.specs.declared.call.Call.TheVariants as call
use Rattle.cc_entry.specs.declared.reply.Reply.TheVariants as reply
use Rattle.cc_entry.specs.declared.reply.Outcome.TheVariants as outcome
use Rattle.cc_entry.specs.declared.entry.Entry.{Entry}
use Rattle.cc_entry.specs.declared.entry.Entry.TheVariants as entry
use Rattle.cc_worked.specs.Values.{a, b, sized, opened, done, answers, read_in}

-- stream 1 is initialised beside stream 0, and a page of each is in the cache
abbrev pub two_streams : List Entry
two_streams =
    opened 8192 8192
    ∷ entry.Call 0 2 (Some 1) (call.Initialise b (sized 8192 8192) 16 false) (outcome.Done reply.Unit)
    ∷ read_in 1 0
    ∷ entry.PageIn 1 (record { stream = 1; page = 0 }) true
    ∷ []

-- a copied write of stream 1 stands under its own stream, and changes no other
abbrev pub under_its_own : List Entry
under_its_own =
    reverse (
    two_streams
    ++ entry.Call 1 1 (Some 1) (call.CopyWrite b 0 (171 ∷ [])) (outcome.Done reply.Unit)
    ∷ answers 1 2 (call.CopyRead a 0 1 true) (reply.Read (90 ∷ []))
    ∷ entry.Call 1 3 (Some 1) (call.CopyRead b 0 1 true) (outcome.Done (reply.Read (171 ∷ [])))
    ∷ [])

-- wrong: it stands under stream 0
abbrev pub under_another : List Entry
under_another = reverse (two_streams ++ done 1 1 (call.CopyWrite b 0 (171 ∷ [])) ∷ [])

-- wrong: it stands under no stream
abbrev pub under_none : List Entry
under_none = reverse (two_streams ++ entry.Call 1 1 None (call.CopyWrite b 0 (171 ∷ [])) (outcome.Done reply.Unit) ∷ [])

-- a hold of stream 0, and its end
abbrev pub held : List Entry
held = two_streams ++ answers 1 1 (call.Map a 0 16) (reply.Hold 1) ∷ []

abbrev pub ended : List Entry
ended = reverse (held ++ done 1 2 (call.EndHold 1) ∷ [])

-- wrong: it is ended under stream 1
abbrev pub hold_under_another : List Entry
hold_under_another = reverse (held ++ entry.Call 1 2 (Some 1) (call.EndHold 1) (outcome.Done reply.Unit) ∷ [])

-- wrong: it is ended by a caller that did not make it
abbrev pub hold_of_another : List Entry
hold_of_another = reverse (held ++ done 2 1 (call.EndHold 1) ∷ [])

-- wrong: it is ended twice
abbrev pub ended_twice : List Entry
ended_twice = done 1 3 (call.EndHold 1) ∷ ended

-- wrong: a hold takes the number of one before it
abbrev pub hold_number_again : List Entry
hold_number_again = answers 1 3 (call.Map a 0 16) (reply.Hold 1) ∷ ended

-- wrong: a number of a call is left out
abbrev pub number_left_out : List Entry
number_left_out = reverse (two_streams ++ answers 1 2 (call.CopyRead a 0 1 true) (reply.Read (90 ∷ [])) ∷ [])
