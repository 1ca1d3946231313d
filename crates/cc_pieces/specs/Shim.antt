-- Lines of the file system shim: lists of calls, each call with the entry of its own, which answer the first
-- refusal; the calls before it stand.
use Rattle.std.specs.Prelude.{◌≡◌, ℕ, ◌+◌, ◌-◌, ◌*◌, ◌/◌, ◌%◌, ◌<◌, ◌≤◌, Bool, true, false, ◌||◌, nat_lt, List, [], ◌∷◌, ◌++◌, length, map, min, max, Result, Ok, Err, ◌⊎◌, if◌then◌else◌}
use Rattle.std.specs.declared.option.Option.{Option}
use Rattle.std.specs.declared.option.Option.TheVariants.{Some, None}
use Rattle.std.specs.List.{range_with_len}
use Rattle.cc_entry.specs.Place.{File, Range}
use Rattle.cc_entry.specs.Pages.{blocks_of}
use Rattle.cc_entry.specs.declared.place.FileState.{FileState}
use Rattle.cc_entry.specs.declared.call.Call.{Call}
use Rattle.cc_entry.specs.declared.call.Call.TheVariants as call
use Rattle.cc_entry.specs.declared.query.Query.TheVariants as query
use Rattle.cc_entry.specs.declared.error.CcError.{CcError}
use Rattle.cc_entry.specs.declared.error.CcError.TheVariants as error
use Rattle.cc_entry.specs.declared.reply.Reply.TheVariants as reply
use Rattle.cc_entry.specs.declared.query.Value.TheVariants as value
use Rattle.cc_entry.specs.declared.reply.Outcome.TheVariants as outcome
use Rattle.cc_entry.specs.declared.entry.Entry.{Entry}
use Rattle.cc_script.specs.declared.script.ReadPath.{ReadPath}
use Rattle.cc_script.specs.declared.script.ReadPath.TheVariants.{Cached, Mapped, Pinned, Descriptor, Noncached}
use Rattle.cc_model.specs.Setup.{Setup}
use Rattle.cc_model.specs.Ranges.{cut_range}
use Rattle.cc_model.specs.Records.{little_endian}
use Rattle.cc_effects.specs.Moments.{IsIdle, Between}
use Rattle.cc_effects.specs.Calls.{CallLeft}
use Rattle.cc_effects.specs.LogCalls.{AppendLeft}
use Rattle.cc_effects.specs.Noncached.{NcReadLeft}

-- calls that answer nothing, each done, up to one that is refused
abbrev pub CallsLeft : Setup → ℕ → List Call → Result (Unit {0}) CcError → Between
CallsLeft u me [] (Ok done) old new = IsIdle me old new
CallsLeft u me [] (Err e) old new = ⊥
CallsLeft u me (it ∷ more) (Ok done) old new =
    (between : List Entry) × CallLeft u me it (outcome.Done reply.Unit) old between × CallsLeft u me more (Ok done) between new
CallsLeft u me (it ∷ more) (Err e) old new =
    CallLeft u me it (outcome.Failed e) old new
    ⊎ ((between : List Entry) × CallLeft u me it (outcome.Done reply.Unit) old between × CallsLeft u me more (Err e) between new)

-- the sizes and the log of the stream were asked, and told so
abbrev pub StateLeft : Setup → ℕ → File → FileState → Between
StateLeft u me file state old new = CallLeft u me (call.Query (query.State file)) (outcome.Done (reply.Value (value.State state))) old new

-- How a path that holds what it reads makes a hold of a range and reads its bytes.
pub record HoldPath : Type 0 where
  pub make : Range → Call
  pub look : ℕ → Range → Call

-- n bytes of the range, from its begin
abbrev pub len_of : Range → ℕ
len_of r = r.to - r.from

abbrev pub mapped_path : File → HoldPath
mapped_path file = record {
  make = λ r. call.Map file r.from (len_of r);
  look = λ id r. call.MappedRead id r.from (len_of r);
}

abbrev pub pinned_path : File → HoldPath
pinned_path file = record {
  make = λ r. call.PinRead file r.from (len_of r) false;
  look = λ id r. call.PinnedRead id r.from (len_of r);
}

abbrev pub descriptor_path : File → HoldPath
descriptor_path file = record {
  make = λ r. call.MdlRead file r.from (len_of r);
  look = λ id r. call.MdlBytes id r.from (len_of r);
}

-- one range was held, read and let go
abbrev pub PartRead : Setup → ℕ → HoldPath → Range → List ℕ → Between
PartRead u me path r bytes old new =
    (id : ℕ)
    × (made : List Entry)
    × (seen : List Entry)
    × CallLeft u me (path.make r) (outcome.Done (reply.Hold id)) old made
    × CallLeft u me (path.look id r) (outcome.Done (reply.Read bytes)) made seen
    × CallLeft u me (call.EndHold id) (outcome.Done reply.Unit) seen new

-- one range could not be held, or was held and not read; the hold is ended in every case
abbrev pub PartRefused : Setup → ℕ → HoldPath → Range → CcError → Between
PartRefused u me path r e old new =
    CallLeft u me (path.make r) (outcome.Failed e) old new
    ⊎ ((id : ℕ)
    × (made : List Entry)
    × (seen : List Entry)
    × CallLeft u me (path.make r) (outcome.Done (reply.Hold id)) old made
    × CallLeft u me (path.look id r) (outcome.Failed e) made seen
    × CallLeft u me (call.EndHold id) (outcome.Done reply.Unit) seen new)

-- ranges read one after the other, up to one that is refused
abbrev pub PartsLeft : Setup → ℕ → HoldPath → List Range → Result (List ℕ) CcError → Between
PartsLeft u me path [] (Ok bytes) old new = (bytes ≡ []) × IsIdle me old new
PartsLeft u me path [] (Err e) old new = ⊥
PartsLeft u me path (r ∷ rs) (Ok bytes) old new =
    (between : List Entry)
    × (first : List ℕ)
    × (rest : List ℕ)
    × (bytes ≡ first ++ rest)
    × PartRead u me path r first old between
    × PartsLeft u me path rs (Ok rest) between new
PartsLeft u me path (r ∷ rs) (Err e) old new =
    PartRefused u me path r e old new
    ⊎ ((between : List Entry) × (first : List ℕ) × PartRead u me path r first old between × PartsLeft u me path rs (Err e) between new)

-- the part of a range in a view block
abbrev pub part_in : Range → ℕ → Range
part_in r b = record { from = max r.from (262144 * b); to = min r.to (262144 * b + 262144) }

-- the parts of a range, one for each view block
abbrev pub parts_of : Range → List Range
parts_of r = map (part_in r) (blocks_of r)

-- a range as one part, where it has a byte
abbrev pub whole_part : Range → List Range
whole_part r = if nat_lt r.from r.to then r ∷ [] else []

-- a read that asks the size first, and holds the parts of its range below it
abbrev pub HeldPartsLeft : Setup → ℕ → File → HoldPath → (Range → List Range) → ℕ → ℕ → Result (List ℕ) CcError → Between
HeldPartsLeft u me file path parts at len (Ok bytes) old new =
    (between : List Entry)
    × (state : FileState)
    × StateLeft u me file state old between
    × PartsLeft u me path (parts (cut_range state.sizes.size at len)) (Ok bytes) between new
HeldPartsLeft u me file path parts at len (Err e) old new =
    CallLeft u me (call.Query (query.State file)) (outcome.Failed e) old new
    ⊎ ((between : List Entry)
    × (state : FileState)
    × StateLeft u me file state old between
    × PartsLeft u me path (parts (cut_range state.sizes.size at len)) (Err e) between new)

-- a read that went by a path, with the bytes that it answered
abbrev pub PathReadLeft : Setup → ℕ → File → ReadPath → ℕ → ℕ → Result (List ℕ) CcError → Between
PathReadLeft u me file Cached at len (Ok bytes) old new =
    CallLeft u me (call.CopyRead file at len true) (outcome.Done (reply.Read bytes)) old new
PathReadLeft u me file Cached at len (Err e) old new = CallLeft u me (call.CopyRead file at len true) (outcome.Failed e) old new
PathReadLeft u me file Mapped at len answered old new = HeldPartsLeft u me file (mapped_path file) parts_of at len answered old new
PathReadLeft u me file Pinned at len answered old new = HeldPartsLeft u me file (pinned_path file) parts_of at len answered old new
PathReadLeft u me file Descriptor at len answered old new =
    HeldPartsLeft u me file (descriptor_path file) whole_part at len answered old new
PathReadLeft u me file Noncached at len (Ok bytes) old new = NcReadLeft u me file at len (Ok bytes) old new
PathReadLeft u me file Noncached at len (Err e) old new = (done : ℕ) × NcReadLeft u me file at len (Err (done, e)) old new

-- why a length and a place are refused before the first call
abbrev pub too_long_for : ReadPath → ℕ → Option CcError
too_long_for Noncached len = if nat_lt 65536 len then Some (error.TooLong 65536) else None
too_long_for other len = if nat_lt 1048576 len then Some (error.TooLong 1048576) else None

abbrev pub misaligned_for : ReadPath → ℕ → ℕ → Option CcError
misaligned_for Noncached at len = if nat_lt 0 (at % 4096) || nat_lt 0 (len % 4096) then Some error.Unaligned else None
misaligned_for other at len = None

-- the first of two refusals
abbrev pub first_of_two : Option CcError → Option CcError → Option CcError
first_of_two (Some e) other = Some e
first_of_two None other = other

-- a test of the shim's own refuses so, or finds no memory
abbrev pub RefusedSo : {T : Type 0} → CcError → Result T CcError → Type 0
RefusedSo e answered = (answered ≡ Err e) ⊎ (answered ≡ Err error.NoMemory)

-- what is refused before the first call leaves nothing
abbrev pub ReadTested : Setup → ℕ → File → ReadPath → ℕ → ℕ → Option CcError → Option CcError → Result (List ℕ) CcError → Between
ReadTested u me file path at len (Some e) misaligned answered old new = RefusedSo e answered × IsIdle me old new
ReadTested u me file path at len None (Some e) answered old new = RefusedSo e answered × IsIdle me old new
ReadTested u me file path at len None None answered old new = PathReadLeft u me file path at len answered old new

-- the zeroings from one place to another, 1048576 bytes each and the last one the rest
abbrev pub zeroings : File → ℕ → ℕ → List Call
zeroings file from to =
    map
    (λ k. call.Zero file (record { from = from + 1048576 * k; to = min to (from + 1048576 * k + 1048576) }))
    (range_with_len 0 (((to - from) + 1048575) / 1048576))

-- the call that extends a stream to an end, where that is past its size
abbrev pub extensions : File → FileState → ℕ → List Call
extensions file state end = if nat_lt state.sizes.size end then call.SetSizes file (max end state.sizes.allocation) end ∷ [] else []

-- The calls of a write after the sizes were told so: the stream is extended where the end is past its size,
-- the gap behind the valid data length is zeroed, and the bytes are written.
abbrev pub write_calls : File → ℕ → List ℕ → FileState → List Call
write_calls file at bytes state =
    extensions file state (at + length bytes) ++ (zeroings file state.sizes.valid at ++ call.CopyWrite file at bytes ∷ [])

-- a write, given the sizes that it was told: a gap that is too long is refused before the other calls
abbrev pub ToldWriteLeft : Setup → ℕ → File → ℕ → List ℕ → FileState → Result (Unit {0}) CcError → Between
ToldWriteLeft u me file at bytes state answered old new =
    ((state.sizes.valid + 67108864 < at) × RefusedSo (error.GapTooLong 67108864) answered × IsIdle me old new)
    ⊎ ((at ≤ state.sizes.valid + 67108864) × CallsLeft u me (write_calls file at bytes state) answered old new)

-- a write of no more bytes than the limit
abbrev pub ShortWriteLeft : Setup → ℕ → File → ℕ → List ℕ → Result (Unit {0}) CcError → Between
ShortWriteLeft u me file at bytes answered old new =
    ((e : CcError) × (answered ≡ Err e) × CallLeft u me (call.Query (query.State file)) (outcome.Failed e) old new)
    ⊎ ((between : List Entry)
    × (state : FileState)
    × StateLeft u me file state old between
    × ToldWriteLeft u me file at bytes state answered between new)

abbrev pub WriteTested : Setup → ℕ → File → ℕ → List ℕ → Bool → Result (Unit {0}) CcError → Between
WriteTested u me file at bytes true answered old new = RefusedSo (error.TooLong 1048576) answered × IsIdle me old new
WriteTested u me file at bytes false answered old new = ShortWriteLeft u me file at bytes answered old new

-- the log's record of an update: the stream, the place, the length and the bytes
abbrev pub update_record_of_file : File → ℕ → List ℕ → List ℕ
update_record_of_file file at bytes = file.stream ∷ (little_endian 8 at ++ (little_endian 4 (length bytes) ++ bytes))

-- room in the journal, or memory, was wanting, and nothing else
abbrev pub IsForWant : CcError → Type 0
IsForWant (error.JournalFull entries) = Unit {0}
IsForWant error.NoMemory = Unit {0}
IsForWant other = ⊥

-- An update that has its record in a log: the pinned bytes are written and stamped with its LSN. Nothing but want of room
-- or of memory refuses it here: the pin keeps others from cutting the stream below the place.
abbrev pub RecordedLeft : Setup → ℕ → ℕ → ℕ → List ℕ → ℕ → Result ℕ CcError → Between
RecordedLeft u me id at bytes lsn (Ok told) old new =
    (told ≡ lsn) × CallsLeft u me (call.PinnedWrite id at bytes ∷ call.SetDirty id (Some lsn) ∷ []) (Ok tt) old new
RecordedLeft u me id at bytes lsn (Err e) old new =
    IsForWant e × CallsLeft u me (call.PinnedWrite id at bytes ∷ call.SetDirty id (Some lsn) ∷ []) (Err e) old new

-- an update, given the log that it was told: the record is appended first
abbrev pub LoggedLeft : Setup → ℕ → File → ℕ → ℕ → List ℕ → ℕ → Result ℕ CcError → Between
LoggedLeft u me file id at bytes handle answered old new =
    ((e : CcError) × (answered ≡ Err e) × AppendLeft u me handle (update_record_of_file file at bytes) (Err e) old new)
    ⊎ ((between : List Entry)
    × (lsn : ℕ)
    × AppendLeft u me handle (update_record_of_file file at bytes) (Ok lsn) old between
    × RecordedLeft u me id at bytes lsn answered between new)

-- without a log, and past the valid data length, nothing is appended
abbrev pub ToldUpdateLeft : Setup → ℕ → File → ℕ → ℕ → List ℕ → Option ℕ → ℕ → Result ℕ CcError → Between
ToldUpdateLeft u me file id at bytes None valid answered old new = RefusedSo (error.NoLog 255) answered × IsIdle me old new
ToldUpdateLeft u me file id at bytes (Some handle) valid answered old new =
    ((valid < at) × RefusedSo (error.BeyondValid valid) answered × IsIdle me old new)
    ⊎ ((at ≤ valid) × LoggedLeft u me file id at bytes handle answered old new)

-- an update under its pin: the sizes and the log are asked first
abbrev pub PinnedUpdateLeft : Setup → ℕ → File → ℕ → ℕ → List ℕ → Result ℕ CcError → Between
PinnedUpdateLeft u me file id at bytes answered old new =
    ((e : CcError) × (answered ≡ Err e) × CallLeft u me (call.Query (query.State file)) (outcome.Failed e) old new)
    ⊎ ((between : List Entry)
    × (state : FileState)
    × StateLeft u me file state old between
    × ToldUpdateLeft u me file id at bytes state.log state.sizes.valid answered between new)

-- an update: its range is pinned for this call alone, and let go in every case
abbrev pub UpdateLeft : Setup → ℕ → File → ℕ → List ℕ → Result ℕ CcError → Between
UpdateLeft u me file at bytes answered old new =
    ((e : CcError) × (answered ≡ Err e) × CallLeft u me (call.PinRead file at (length bytes) true) (outcome.Failed e) old new)
    ⊎ ((id : ℕ)
    × (made : List Entry)
    × (done : List Entry)
    × CallLeft u me (call.PinRead file at (length bytes) true) (outcome.Done (reply.Hold id)) old made
    × PinnedUpdateLeft u me file id at bytes answered made done
    × CallLeft u me (call.EndHold id) (outcome.Done reply.Unit) done new)
