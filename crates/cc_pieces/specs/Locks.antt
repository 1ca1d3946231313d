-- Byte-range locks: what a call leaves that makes or ends one, and a read, a write or an update that is tested against them
-- before it is made.
use Rattle.std.specs.Prelude.{◌≡◌, ℕ, ◌+◌, ◌-◌, ◌^◌, Bool, true, false, nat_lt, min, List, length, Result, Ok, Err, ◌⊎◌}
use Rattle.std.specs.declared.option.Option.{Option}
use Rattle.std.specs.declared.option.Option.TheVariants.{Some, None}
use Rattle.cc_entry.specs.Place.{File, Range}
use Rattle.cc_entry.specs.declared.answer.Answer.{Answer}
use Rattle.cc_entry.specs.declared.answer.Answer.TheVariants as answer
use Rattle.cc_entry.specs.declared.call.Call.TheVariants as call
use Rattle.cc_entry.specs.declared.query.Query.TheVariants as query
use Rattle.cc_entry.specs.declared.entry.Entry.{Entry}
use Rattle.cc_entry.specs.declared.entry.Entry.TheVariants as entry
use Rattle.cc_entry.specs.declared.error.CcError.{CcError}
use Rattle.cc_entry.specs.declared.error.CcError.TheVariants as error
use Rattle.cc_entry.specs.declared.place.FileState.{FileState}
use Rattle.cc_entry.specs.declared.reply.Reply.TheVariants as reply
use Rattle.cc_entry.specs.declared.query.Value.TheVariants as value
use Rattle.cc_entry.specs.declared.reply.Outcome.TheVariants as outcome
use Rattle.cc_script.specs.declared.script.ReadPath.{ReadPath}
use Rattle.cc_model.specs.Reasons.{crosses_blocks, past_size, past_valid, refuse_if}
use Rattle.cc_model.specs.Setup.{Setup}
use Rattle.cc_effects.specs.Calls.{CallLeft}
use Rattle.cc_effects.specs.Moments.{Between, IsIdle, PlacedOnly}
use Rattle.cc_pieces.specs.Shim.{ReadTested, StateLeft, UpdateLeft, WriteTested, first_of_two, misaligned_for, too_long_for}

-- ---- locks

-- a lock is granted under the id that is answered, or refused with the least one in its way: its entry tells it
abbrev pub LockLeft : ℕ → File → Range → Bool → Result ℕ CcError → Between
LockLeft me file range exclusive (Ok id) old new = PlacedOnly me (entry.Locked me file range exclusive true id) old new
LockLeft me file range exclusive (Err (error.LockConflict id)) old new = PlacedOnly me (entry.Locked me file range exclusive false id) old new
LockLeft me file range exclusive (Err (error.JournalFull entries)) old new = IsIdle me old new
LockLeft me file range exclusive (Err error.NoMemory) old new = IsIdle me old new
LockLeft me file range exclusive (Err other) old new = ⊥

-- a lock is ended where the file object owned it: its entry tells whether it did
abbrev pub UnlockLeft : ℕ → File → ℕ → Result Bool CcError → Between
UnlockLeft me file id (Ok gone) old new = PlacedOnly me (entry.Unlocked me file id gone) old new
UnlockLeft me file id (Err (error.JournalFull entries)) old new = IsIdle me old new
UnlockLeft me file id (Err error.NoMemory) old new = IsIdle me old new
UnlockLeft me file id (Err other) old new = ⊥

abbrev pub LockAnswered : ℕ → File → Range → Bool → Answer → Between
LockAnswered me file range exclusive (answer.LockId id) old new = LockLeft me file range exclusive (Ok id) old new
LockAnswered me file range exclusive (answer.Refused e) old new = LockLeft me file range exclusive (Err e) old new
LockAnswered me file range exclusive other old new = ⊥

abbrev pub UnlockAnswered : ℕ → File → ℕ → Answer → Between
UnlockAnswered me file id (answer.Given (reply.Value (value.Flag gone))) old new = UnlockLeft me file id (Ok gone) old new
UnlockAnswered me file id (answer.Refused e) old new = UnlockLeft me file id (Err e) old new
UnlockAnswered me file id other old new = ⊥

-- ---- tests against locks

-- the range of n bytes that is tested, which ends at the last place of all at most
abbrev pub tested_range : ℕ → ℕ → Range
tested_range at n = record { from = at; to = min (at + n) (2 ^ 64 - 1) }

-- A range was tested for a read or a write: its entry tells that no lock conflicts, or the least one that does, which refuses
-- it. Where room or memory was wanting there is no entry.
abbrev pub TestLeft : ℕ → File → Range → Bool → Result (Unit {0}) CcError → Between
TestLeft me file range write (Ok done) old new = PlacedOnly me (entry.Tested me file range write None) old new
TestLeft me file range write (Err (error.LockConflict id)) old new = PlacedOnly me (entry.Tested me file range write (Some id)) old new
TestLeft me file range write (Err (error.JournalFull entries)) old new = IsIdle me old new
TestLeft me file range write (Err error.NoMemory) old new = IsIdle me old new
TestLeft me file range write (Err other) old new = ⊥

-- a call behind the test of its range, which is made where no lock conflicts
abbrev pub RangeTestedLeft : {A : Type 0} → ℕ → File → Range → Bool → (Result A CcError → Between) → Result A CcError → Between
RangeTestedLeft me file range write Left answered old new =
    ((e : CcError) × (answered ≡ Err e) × TestLeft me file range write (Err e) old new)
    ⊎ ((between : List Entry) × TestLeft me file range write (Ok tt) old between × Left answered between new)

-- it is not tested where something else refuses it
abbrev pub FoundLeft :
    {A : Type 0} → ℕ → File → Range → Bool → Option CcError → (Result A CcError → Between) → Result A CcError → Between
FoundLeft me file range write (Some e) Left answered old new = (answered ≡ Err e) × IsIdle me old new
FoundLeft me file range write None Left answered old new = RangeTestedLeft me file range write Left answered old new

-- A locked call: the state of the stream is asked; what refuses the call by that state is answered first; then its range is
-- tested, and the call is made.
abbrev pub LockedLeft :
    {A : Type 0} → Setup → ℕ → File → Range → Bool → (FileState → Option CcError) → (Result A CcError → Between) → Result A CcError
    → Between
LockedLeft u me file range write refused Left answered old new =
    ((e : CcError) × (answered ≡ Err e) × CallLeft u me (call.Query (query.State file)) (outcome.Failed e) old new)
    ⊎ ((between : List Entry)
    × (state : FileState)
    × StateLeft u me file state old between
    × FoundLeft me file range write (refused state) Left answered between new)

-- ---- what refuses by the state that was told, in this order

abbrev pub read_refused : ReadPath → ℕ → ℕ → FileState → Option CcError
read_refused path at len state = first_of_two (too_long_for path len) (misaligned_for path at len)

abbrev pub write_refused : ℕ → ℕ → FileState → Option CcError
write_refused at len state =
    first_of_two
    (refuse_if (nat_lt 1048576 len) (error.TooLong 1048576))
    (refuse_if (nat_lt (state.sizes.valid + 67108864) at) (error.GapTooLong 67108864))

abbrev pub no_log_error : Option ℕ → Option CcError
no_log_error None = Some (error.NoLog 255)
no_log_error (Some handle) = None

abbrev pub update_refused : ℕ → ℕ → FileState → Option CcError
update_refused at len state =
    first_of_two
    (refuse_if (crosses_blocks at len) error.ViewBoundary)
    (first_of_two (no_log_error state.log) (first_of_two (past_size state.sizes.size (at + len)) (past_valid state.sizes.valid at)))

-- ---- the locked calls

abbrev pub LockedReadLeft : Setup → ℕ → File → ReadPath → ℕ → ℕ → Result (List ℕ) CcError → Between
LockedReadLeft u me file path at len answered old new =
    LockedLeft u me file (tested_range at len) false (read_refused path at len)
    (ReadTested u me file path at len (too_long_for path len) (misaligned_for path at len)) answered old new

abbrev pub LockedWriteLeft : Setup → ℕ → File → ℕ → List ℕ → Result (Unit {0}) CcError → Between
LockedWriteLeft u me file at bytes answered old new =
    LockedLeft u me file (tested_range at (length bytes)) true (write_refused at (length bytes))
    (WriteTested u me file at bytes (nat_lt 1048576 (length bytes))) answered old new

abbrev pub LockedUpdateLeft : Setup → ℕ → File → ℕ → List ℕ → Result ℕ CcError → Between
LockedUpdateLeft u me file at bytes answered old new =
    LockedLeft u me file (tested_range at (length bytes)) true (update_refused at (length bytes)) (UpdateLeft u me file at bytes)
    answered old new

-- ---- their lines

abbrev pub LockedReadAnswered : Setup → ℕ → File → ReadPath → ℕ → ℕ → Answer → Between
LockedReadAnswered u me file path at len (answer.Given (reply.Read bytes)) old new = LockedReadLeft u me file path at len (Ok bytes) old new
LockedReadAnswered u me file path at len (answer.Refused e) old new = LockedReadLeft u me file path at len (Err e) old new
LockedReadAnswered u me file path at len other old new = ⊥

abbrev pub LockedWriteAnswered : Setup → ℕ → File → ℕ → List ℕ → Answer → Between
LockedWriteAnswered u me file at bytes (answer.Given reply.Unit) old new = LockedWriteLeft u me file at bytes (Ok tt) old new
LockedWriteAnswered u me file at bytes (answer.Refused e) old new = LockedWriteLeft u me file at bytes (Err e) old new
LockedWriteAnswered u me file at bytes other old new = ⊥

abbrev pub LockedUpdateAnswered : Setup → ℕ → File → ℕ → List ℕ → Answer → Between
LockedUpdateAnswered u me file at bytes (answer.NewLsn lsn) old new = LockedUpdateLeft u me file at bytes (Ok lsn) old new
LockedUpdateAnswered u me file at bytes (answer.Refused e) old new = LockedUpdateLeft u me file at bytes (Err e) old new
LockedUpdateAnswered u me file at bytes other old new = ⊥
