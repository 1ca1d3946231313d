-- What lines of the shim leave: writes, updates, and reads that hold what they read. Each stretch has its newest
-- entry first, and stands on a past.
use Rattle.std.specs.Prelude.{ℕ, ◌+◌, Bool, true, false, nat_lt, List, [], ◌∷◌, ◌++◌, length, Ok, Err}
use Rattle.std.specs.declared.option.Option.TheVariants.{Some, None}
use Rattle.cc_entry.specs.declared.place.FileState.{FileState}
use Rattle.cc_entry.specs.declared.call.Call.{Call}
use Rattle.cc_entry.specs.declared.call.Call.TheVariants as call
use Rattle.cc_entry.specs.declared.query.Query.TheVariants as query
use Rattle.cc_entry.specs.declared.reply.Reply.TheVariants as reply
use Rattle.cc_entry.specs.declared.query.Value.TheVariants as value
use Rattle.cc_entry.specs.declared.answer.Answer.{Answer}
use Rattle.cc_entry.specs.declared.answer.Answer.TheVariants as answer
use Rattle.cc_entry.specs.declared.error.CcError.TheVariants as error
use Rattle.cc_entry.specs.declared.entry.Entry.{Entry}
use Rattle.cc_entry.specs.declared.entry.Entry.TheVariants as entry
use Rattle.cc_effects.specs.Moments.{Between}
use Rattle.cc_script.specs.declared.script.ReadPath.{ReadPath}
use Rattle.cc_pieces.specs.Shim.{ReadTested, UpdateLeft, WriteTested, misaligned_for, too_long_for, write_calls}
use Rattle.cc_worked.specs.Values.{setup, a, page, sized, opened, done, answers, refused, read_in}

-- what the calls of a read by a path leave behind its test, from a place on, of so many bytes
abbrev pub ReadBy : ReadPath → ℕ → ℕ → Answer → Between
ReadBy path at len (answer.Given (reply.Read bytes)) old new =
    ReadTested setup 1 a path at len (too_long_for path len) (misaligned_for path at len) (Ok bytes) old new
ReadBy path at len (answer.Refused e) old new =
    ReadTested setup 1 a path at len (too_long_for path len) (misaligned_for path at len) (Err e) old new
ReadBy path at len other old new = ⊥

-- those of a write of bytes at a place
abbrev pub WriteOf : List ℕ → ℕ → Answer → Between
WriteOf bytes at (answer.Given reply.Unit) old new = WriteTested setup 1 a at bytes (nat_lt 1048576 (length bytes)) (Ok tt) old new
WriteOf bytes at (answer.Refused e) old new = WriteTested setup 1 a at bytes (nat_lt 1048576 (length bytes)) (Err e) old new
WriteOf bytes at other old new = ⊥

-- a write, and an update, of the byte AB at a place
abbrev pub ByteWrite : ℕ → Answer → Between
ByteWrite at = WriteOf (171 ∷ []) at

abbrev pub ByteUpdate : ℕ → Answer → Between
ByteUpdate at (answer.NewLsn lsn) old new = UpdateLeft setup 1 a at (171 ∷ []) (Ok lsn) old new
ByteUpdate at (answer.Refused e) old new = UpdateLeft setup 1 a at (171 ∷ []) (Err e) old new
ByteUpdate at other old new = ⊥

-- the call that writes that byte, and the calls of such a write after the sizes were told so
abbrev pub writes_at : ℕ → Call
writes_at at = call.CopyWrite a at (171 ∷ [])

abbrev pub calls_of_write : ℕ → FileState → List Call
calls_of_write at state = write_calls a at (171 ∷ []) state

-- what a stream of two pages tells of itself, of which one is valid
abbrev pub one_page_valid : FileState
one_page_valid = record { sizes = sized 8192 4096; log = None }

-- the question for that is the first call
abbrev pub asked : List Entry
asked = answers 1 1 (call.Query (query.State a)) (reply.Value (value.State one_page_valid)) ∷ []

-- a byte is written at the end of that stream: first it is extended
abbrev pub extends : Call
extends = call.SetSizes a 8193 8193

-- then the gap behind the valid data length is zeroed
abbrev pub zeroes : Call
zeroes = call.Zero a (record { from = 4096; to = 8192 })

-- and then the byte is written
abbrev pub writes : Call
writes = writes_at 8192

-- the calls of that write, and the pages that come in for them
abbrev pub grows : List Entry
grows =
    done 1 4 writes
    ∷ entry.PageIn 1 (page 2) false
    ∷ done 1 3 zeroes
    ∷ entry.PageIn 1 (page 1) false
    ∷ done 1 2 extends
    ∷ asked

-- wrong as a write that is done: the last call is missing
abbrev pub stops_short : List Entry
stops_short = done 1 3 zeroes ∷ entry.PageIn 1 (page 1) false ∷ done 1 2 extends ∷ asked

-- wrong: the gap is not zeroed
abbrev pub leaves_gap : List Entry
leaves_gap = done 1 3 writes ∷ entry.PageIn 1 (page 2) false ∷ done 1 2 extends ∷ asked

-- wrong: the gap is zeroed after the write
abbrev pub zeroes_last : List Entry
zeroes_last =
    done 1 4 zeroes
    ∷ entry.PageIn 1 (page 1) false
    ∷ done 1 3 writes
    ∷ entry.PageIn 1 (page 2) false
    ∷ done 1 2 extends
    ∷ asked

-- wrong: the sizes were not asked
abbrev pub asks_nothing : List Entry
asks_nothing =
    done 1 3 writes
    ∷ entry.PageIn 1 (page 2) false
    ∷ done 1 2 zeroes
    ∷ entry.PageIn 1 (page 1) false
    ∷ done 1 1 extends
    ∷ []

-- two valid pages, in an allocation of four
abbrev pub allocated : FileState
allocated = record { sizes = record { allocation = 16384; size = 8192; valid = 8192 }; log = None }

-- bytes from one place to another are zeroed
abbrev pub zeroes_part : ℕ → ℕ → Call
zeroes_part from to = call.Zero a (record { from = from; to = to })

-- the second call is refused, and no call follows
abbrev pub extension_is_refused : List Entry
extension_is_refused = refused 1 2 extends (error.Held 1) ∷ asked

-- wrong: another call follows
abbrev pub goes_on : List Entry
goes_on = done 1 3 zeroes ∷ entry.PageIn 1 (page 1) false ∷ extension_is_refused

-- the first call is refused: the object is not cached
abbrev pub state_is_refused : List Entry
state_is_refused = refused 1 1 (call.Query (query.State a)) error.NotCached ∷ []

-- a stream with log 0, valid up to a place
abbrev pub logged : ℕ → List Entry
logged valid = done 0 2 (call.SetLog a 0) ∷ opened 8192 valid ∷ []

-- what it tells of itself
abbrev pub logged_state : ℕ → FileState
logged_state valid = record { sizes = sized 8192 valid; log = Some 0 }

-- a byte is updated at 258: its page is pinned for that alone
abbrev pub pins : Call
pins = call.PinRead a 258 1 true

-- the pin is made, and the stream tells this of itself
abbrev pub pinned_and_asked : FileState → List Entry
pinned_and_asked state = answers 1 2 (call.Query (query.State a)) (reply.Value (value.State state)) ∷ answers 1 1 pins (reply.Hold 1) ∷ read_in 1 0 ∷ []

-- the record: the stream, the place in 8 bytes, the length in 4, and the byte
abbrev pub its_record : List ℕ
its_record = 0 ∷ 2 ∷ 1 ∷ 0 ∷ 0 ∷ 0 ∷ 0 ∷ 0 ∷ 0 ∷ 1 ∷ 0 ∷ 0 ∷ 0 ∷ 171 ∷ []

-- the record of two bytes at 64
abbrev pub record_of_two : List ℕ
record_of_two = 0 ∷ 64 ∷ 0 ∷ 0 ∷ 0 ∷ 0 ∷ 0 ∷ 0 ∷ 0 ∷ 2 ∷ 0 ∷ 0 ∷ 0 ∷ 171 ∷ 205 ∷ []

-- wrong: the place has its greatest byte first
abbrev pub turned_record : List ℕ
turned_record = 0 ∷ 0 ∷ 0 ∷ 0 ∷ 0 ∷ 0 ∷ 0 ∷ 1 ∷ 2 ∷ 1 ∷ 0 ∷ 0 ∷ 0 ∷ 171 ∷ []

-- the pinned byte is written, as the call of this number
abbrev pub changes : ℕ → Entry
changes nth = done 1 nth (call.PinnedWrite 1 258 (171 ∷ []))

-- its page is stamped with an LSN
abbrev pub stamps : ℕ → ℕ → Entry
stamps nth lsn = done 1 nth (call.SetDirty 1 (Some lsn))

-- the pin ends
abbrev pub unpins : ℕ → Entry
unpins nth = done 1 nth (call.EndHold 1)

-- an update with such a record, stamped with such an LSN
abbrev pub updates_with : List ℕ → ℕ → List Entry
updates_with bytes lsn =
    unpins 5 ∷ stamps 4 lsn ∷ changes 3 ∷ entry.Append 1 0 1 bytes ∷ pinned_and_asked (logged_state 8192)

-- wrong: there is no record
abbrev pub updates_unlogged : List Entry
updates_unlogged = unpins 5 ∷ stamps 4 1 ∷ changes 3 ∷ pinned_and_asked (logged_state 8192)

-- wrong: the record comes after the stamp
abbrev pub stamps_first : List Entry
stamps_first = unpins 5 ∷ entry.Append 1 0 1 its_record ∷ stamps 4 1 ∷ changes 3 ∷ pinned_and_asked (logged_state 8192)

-- wrong: the pin stays
abbrev pub stays_pinned : List Entry
stays_pinned = stamps 4 1 ∷ changes 3 ∷ entry.Append 1 0 1 its_record ∷ pinned_and_asked (logged_state 8192)

-- nothing is done between the question and the end of the pin
abbrev pub nothing_changes : FileState → List Entry
nothing_changes state = unpins 3 ∷ pinned_and_asked state

-- what a stream of two valid pages without a log tells of itself
abbrev pub unlogged_state : FileState
unlogged_state = record { sizes = sized 8192 8192; log = None }

-- the same behind the valid data length
abbrev pub nothing_behind : List Entry
nothing_behind =
    done 1 3 (call.EndHold 1)
    ∷ answers 1 2 (call.Query (query.State a)) (reply.Value (value.State (logged_state 4096)))
    ∷ answers 1 1 (call.PinRead a 4097 1 true) (reply.Hold 1)
    ∷ entry.PageIn 1 (page 1) false
    ∷ []

-- the log fails, and the pin ends
abbrev pub log_fails : List Entry
log_fails = unpins 3 ∷ entry.LogFailed 1 0 ∷ pinned_and_asked (logged_state 8192)

-- wrong: the log fails, and the pin stays
abbrev pub log_fails_pinned : List Entry
log_fails_pinned = entry.LogFailed 1 0 ∷ pinned_and_asked (logged_state 8192)

-- wrong: the log fails, and the byte is changed all the same
abbrev pub changes_all_the_same : List Entry
changes_all_the_same = unpins 4 ∷ changes 3 ∷ entry.LogFailed 1 0 ∷ pinned_and_asked (logged_state 8192)

-- memory is wanting after the record, which stands without its change
abbrev pub record_alone : List Entry
record_alone = unpins 3 ∷ entry.Append 1 0 1 its_record ∷ pinned_and_asked (logged_state 8192)

-- wrong: memory is wanting after the change, which stands without its stamp
abbrev pub changes_unstamped : List Entry
changes_unstamped = unpins 4 ∷ changes 3 ∷ entry.Append 1 0 1 its_record ∷ pinned_and_asked (logged_state 8192)

-- the pin is refused
abbrev pub pin_is_refused : List Entry
pin_is_refused = refused 1 1 pins (error.Busy 1) ∷ []

-- a range is held by a call, read by a call on its hold, and let go: three calls from this number on
abbrev pub holds : ℕ → ℕ → Call → Call → List ℕ → List Entry
holds nth id make look bytes =
    done 1 (nth + 2) (call.EndHold id)
    ∷ answers 1 (nth + 1) look (reply.Read bytes)
    ∷ answers 1 nth make (reply.Hold id)
    ∷ []

-- the same of mapped bytes, with their page
abbrev pub maps : ℕ → ℕ → ℕ → ℕ → ℕ → List ℕ → List Entry
maps nth id at len p bytes = holds nth id (call.Map a at len) (call.MappedRead id at len) bytes ++ read_in 1 p ∷ []

-- what a stream of such a size without a log tells of itself, as the first call
abbrev pub says : ℕ → List Entry
says size = answers 1 1 (call.Query (query.State a)) (reply.Value (value.State (record { sizes = sized size size; log = None }))) ∷ []

-- a read of two bytes from the last one on: that one is held
abbrev pub reads_last : List Entry
reads_last = maps 2 1 8191 1 1 (90 ∷ []) ++ says 8192

-- wrong: two bytes are held, of which one is past the size
abbrev pub reads_past : List Entry
reads_past = maps 2 1 8191 2 1 (90 ∷ []) ++ says 8192

-- wrong: the hold stays
abbrev pub stays_mapped : List Entry
stays_mapped =
    answers 1 3 (call.MappedRead 1 8191 1) (reply.Read (90 ∷ [])) ∷ answers 1 2 (call.Map a 8191 1) (reply.Hold 1) ∷ read_in 1 1 ∷ says 8192

-- two view blocks
abbrev pub two_blocks : List Entry
two_blocks = opened 524288 524288 ∷ []

-- a read of the last byte of the first and the first of the second: each is mapped
abbrev pub reads_both : List Entry
reads_both = maps 5 2 262144 1 64 (90 ∷ []) ++ (maps 2 1 262143 1 63 (90 ∷ []) ++ says 524288)

-- wrong: the first byte alone is mapped
abbrev pub reads_first : List Entry
reads_first = maps 2 1 262143 1 63 (90 ∷ []) ++ says 524288

-- wrong: both are mapped at once
abbrev pub reads_at_once : List Entry
reads_at_once = maps 2 1 262143 2 63 (90 ∷ 90 ∷ []) ++ says 524288

-- the same two bytes are pinned one after the other, shared or exclusive
abbrev pub pins_both : Bool → List Entry
pins_both exclusive =
    holds 5 2 (call.PinRead a 262144 1 exclusive) (call.PinnedRead 2 262144 1) (90 ∷ [])
    ++ (read_in 1 64 ∷ (holds 2 1 (call.PinRead a 262143 1 exclusive) (call.PinnedRead 1 262143 1) (90 ∷ []) ++ read_in 1 63 ∷ says 524288))

-- they are held by one chain
abbrev pub chains_both : List Entry
chains_both = holds 2 1 (call.MdlRead a 262143 2) (call.MdlBytes 1 262143 2) (90 ∷ 90 ∷ []) ++ read_in 1 64 ∷ read_in 1 63 ∷ says 524288

-- wrong: a chain for each block
abbrev pub chains_twice : List Entry
chains_twice =
    holds 5 2 (call.MdlRead a 262144 1) (call.MdlBytes 2 262144 1) (90 ∷ [])
    ++ (read_in 1 64 ∷ (holds 2 1 (call.MdlRead a 262143 1) (call.MdlBytes 1 262143 1) (90 ∷ []) ++ read_in 1 63 ∷ says 524288))

-- wrong: a chain of no byte
abbrev pub chains_none : List Entry
chains_none = holds 2 1 (call.MdlRead a 8192 0) (call.MdlBytes 1 8192 0) [] ++ says 8192

-- the first map is refused
abbrev pub map_is_refused : List Entry
map_is_refused = refused 1 2 (call.Map a 262143 1) (error.NoViews 0 16) ∷ says 524288

-- wrong: the second byte is read all the same
abbrev pub reads_on : List Entry
reads_on = maps 3 1 262144 1 64 (90 ∷ []) ++ map_is_refused

-- memory is wanting for the bytes of a range that is held; wrong: the hold stays
abbrev pub held_unread : List Entry
held_unread = answers 1 2 (call.Map a 8191 1) (reply.Hold 1) ∷ read_in 1 1 ∷ says 8192

-- the same, and the hold ends
abbrev pub ends_unread : List Entry
ends_unread = done 1 3 (call.EndHold 1) ∷ held_unread

-- a page of a noncached read is refused
abbrev pub page_is_refused : List Entry
page_is_refused = refused 1 1 (call.NcRead a 0) error.NotCached ∷ []
