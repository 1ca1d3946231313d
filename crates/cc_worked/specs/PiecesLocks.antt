-- What lines of locks leave, and reads, writes and updates that are tested against locks. Each stretch has its newest entry
-- first, and stands on a past.
use Rattle.std.specs.Prelude.{ℕ, Bool, List, [], ◌∷◌}
use Rattle.std.specs.declared.option.Option.{Option}
use Rattle.std.specs.declared.option.Option.TheVariants.{Some, None}
use Rattle.cc_entry.specs.Place.{File, Range}
use Rattle.cc_entry.specs.declared.place.FileState.{FileState}
use Rattle.cc_entry.specs.declared.call.Call.TheVariants as call
use Rattle.cc_entry.specs.declared.query.Query.TheVariants as query
use Rattle.cc_entry.specs.declared.reply.Reply.TheVariants as reply
use Rattle.cc_entry.specs.declared.query.Value.TheVariants as value
use Rattle.cc_entry.specs.declared.answer.Answer.{Answer}
use Rattle.cc_entry.specs.declared.entry.Entry.{Entry}
use Rattle.cc_script.specs.declared.script.Action.TheVariants as action
use Rattle.cc_script.specs.declared.script.ReadPath.TheVariants.{Cached}
use Rattle.cc_effects.specs.Moments.{Between}
use Rattle.cc_worked.specs.Values.{a, done, answers}
use Rattle.cc_worked.specs.Locks.{span, reads, writes}
use Rattle.cc_worked.specs.PiecesReads.{first_byte, a_byte}
use Rattle.cc_worked.specs.PiecesShim.{logged_state, writes_at}
use Rattle.cc_worked.specs.PiecesRuns.{OneLine, two_full}

-- the first ten bytes are locked for an object, shared or exclusive
abbrev pub LockLine : File → Bool → Answer → Between
LockLine file exclusive = OneLine (action.Lock file (span 0 10) exclusive)

-- the first lock is ended by an object
abbrev pub UnlockLine : File → Answer → Between
UnlockLine file = OneLine (action.Unlock file 1)

-- the first byte is read by the cached path, written, or updated
abbrev pub ReadLine : Answer → Between
ReadLine = OneLine (action.Read a Cached 0 1)

abbrev pub WriteLine : Answer → Between
WriteLine = OneLine (action.Write a 0 (171 ∷ []))

abbrev pub UpdateLine : Answer → Between
UpdateLine = OneLine (action.Update a 0 (171 ∷ []))

-- a read of four bytes, of which the last three are past the last place of all
abbrev pub LastRead : Answer → Between
LastRead = OneLine (action.Read a Cached 18446744073709551614 4)

-- what the stream tells of itself is the first call of the line
abbrev pub tells : FileState → List Entry
tells state = answers 1 1 (call.Query (query.State a)) (reply.Value (value.State state)) ∷ []

-- and then the line is tested so, and nothing follows
abbrev pub tested_by : Entry → List Entry
tested_by test = test ∷ tells two_full

-- so of an update, whose stream has a log
abbrev pub update_tested : List Entry
update_tested = writes a 0 1 (Some 1) ∷ tells (logged_state 8192)

-- the byte is read behind a test that tells this
abbrev pub read_behind : Option ℕ → List Entry
read_behind conflict = answers 1 2 first_byte a_byte ∷ tested_by (reads a 0 1 conflict)

-- wrong: it is read without a test
abbrev pub read_untested : List Entry
read_untested = answers 1 2 first_byte a_byte ∷ tells two_full

-- the byte is written behind its test, by a write that asks the sizes itself
abbrev pub written_behind : List Entry
written_behind =
    done 1 3 (writes_at 0) ∷ answers 1 2 (call.Query (query.State a)) (reply.Value (value.State two_full)) ∷ tested_by (writes a 0 1 None)

-- the last byte of all, and a test of four bytes from it on
abbrev pub last_byte : Range
last_byte = span 18446744073709551614 18446744073709551615

abbrev pub uncut_test : Entry
uncut_test = reads a 18446744073709551614 18446744073709551618 (Some 1)
