-- What noncached reads and writes leave: page after page, until one is refused.
use Rattle.std.specs.Prelude.{◌≡◌, ℕ, zero, suc, ◌+◌, ◌-◌, ◌*◌, ◌/◌, ◌%◌, ◌<◌, ◌≤◌, Bool, true, false, ◌&&◌, ◌==◌, nat_lt, List, [], ◌∷◌, ◌++◌, length, take, drop, Result, Ok, Err, ◌⊎◌, if◌then◌else◌}
use Rattle.std.specs.declared.option.Option.{Option}
use Rattle.std.specs.declared.option.Option.TheVariants.{Some, None}
use Rattle.std.specs.List.{range_with_len}
use Rattle.cc_entry.specs.Place.{File}
use Rattle.cc_entry.specs.declared.call.Call.{Call}
use Rattle.cc_entry.specs.declared.call.Call.TheVariants as call
use Rattle.cc_entry.specs.declared.error.CcError.{CcError}
use Rattle.cc_entry.specs.declared.error.CcError.TheVariants as error
use Rattle.cc_entry.specs.declared.reply.Reply.TheVariants as reply
use Rattle.cc_entry.specs.declared.reply.Outcome.TheVariants as outcome
use Rattle.cc_entry.specs.declared.entry.End.{End}
use Rattle.cc_entry.specs.declared.entry.End.TheVariants as how
use Rattle.cc_entry.specs.declared.entry.Entry.{Entry}
use Rattle.cc_entry.specs.declared.entry.Entry.TheVariants as entry
use Rattle.cc_model.specs.Setup.{Setup}
use Rattle.cc_model.specs.History.{history}
use Rattle.cc_model.specs.Sizes.{stored_range}
use Rattle.cc_model.specs.Touches.{size_of}
use Rattle.cc_effects.specs.Moments.{own, Others, IsIdle, PlacedOnly, EachOwn, Between}
use Rattle.cc_effects.specs.Asked.{Calls}
use Rattle.cc_effects.specs.Places.{MayPlace, Works}
use Rattle.cc_effects.specs.Stops.{IsUnstopped}
use Rattle.cc_effects.specs.Calls.{CallLeft}

-- Why a place and a length are refused, whatever the file: a noncached call takes 16 pages at most, and
-- whole pages alone.
abbrev pub shape_refusal : ℕ → ℕ → Option CcError
shape_refusal at len =
    if nat_lt 65536 len then Some (error.TooLong 65536) else (if at % 4096 == 0 && len % 4096 == 0 then None else Some error.Unaligned)

-- whether a refusal is one of those two
abbrev pub is_of_shape : CcError → Bool
is_of_shape (error.TooLong limit) = true
is_of_shape error.Unaligned = true
is_of_shape other = false

-- the numbers of the pages of a noncached call
abbrev pub pages_from : ℕ → ℕ → List ℕ
pages_from at len = range_with_len (at / 4096) (len / 4096)

-- A call with such a place or length: it leaves its entry for the first page, with that refusal or
-- NotCached, which comes before it; or nothing, where room or memory were wanting.
abbrev pub MisshapenLeft : ℕ → File → Call → CcError → CcError → Between
MisshapenLeft me file it refusal error.NoMemory old new = IsIdle me old new
MisshapenLeft me file it refusal (error.JournalFull entries) old new = IsIdle me old new
MisshapenLeft me file it refusal error.NotCached old new =
    (nth : ℕ) × PlacedOnly me (entry.Call me nth (Some file.stream) it (outcome.Failed error.NotCached)) old new
MisshapenLeft me file it refusal e old new =
    (nth : ℕ) × (e ≡ refusal) × PlacedOnly me (entry.Call me nth (Some file.stream) it (outcome.Failed e)) old new

-- What the page behind one that came short answers is not told. Where the range has no page behind it, nothing is left.
abbrev pub IsUntold : Setup → ℕ → File → List ℕ → Between
IsUntold u me file [] old new = IsIdle me old new
IsUntold u me file (page ∷ pages) old new =
    (bytes : List ℕ) × CallLeft u me (call.NcRead file page) (outcome.Done (reply.Read bytes)) old new

-- A page came short, with these bytes: the page behind it ends the read, whatever it answers. For the file may have grown
-- between the two, and no moment had the bytes of both behind one another.
abbrev pub EndsShort : Setup → ℕ → File → ℕ → List ℕ → List ℕ → Between
EndsShort u me file page pages bytes old new =
    (between : List Entry)
    × (length bytes < 4096)
    × CallLeft u me (call.NcRead file page) (outcome.Done (reply.Read bytes)) old between
    × IsUntold u me file pages between new

-- The pages of a read, each with the bytes that it answered, up to the first that answered none: it began
-- at the size or past it, and ends the call. Each page that is told is whole but the last.
abbrev pub PagesRead : Setup → ℕ → File → List ℕ → List ℕ → Between
PagesRead u me file [] bytes old new = (bytes ≡ []) × IsIdle me old new
PagesRead u me file (page ∷ pages) [] old new =
    CallLeft u me (call.NcRead file page) (outcome.Done (reply.Read [])) old new
PagesRead u me file (page ∷ pages) (byte ∷ bytes) old new =
    ((between : List Entry)
    × (first : List ℕ)
    × (rest : List ℕ)
    × (byte ∷ bytes ≡ first ++ rest)
    × (length first ≡ 4096)
    × CallLeft u me (call.NcRead file page) (outcome.Done (reply.Read first)) old between
    × PagesRead u me file pages rest between new)
    ⊎ EndsShort u me file page pages (byte ∷ bytes) old new

-- A page of a read of which another was refused: it is whole where so many pages more were read behind it, and else
-- answered a byte.
abbrev pub IsWholeBefore : ℕ → List ℕ → Type 0
IsWholeBefore zero bytes = 0 < length bytes
IsWholeBefore (suc more) bytes = length bytes ≡ 4096

-- So many pages were read, from this one on, and the one after them was refused. Each page is whole but the last that
-- was read.
abbrev pub PageReadsRefused : Setup → ℕ → File → ℕ → ℕ → CcError → Between
PageReadsRefused u me file page zero e old new =
    (is_of_shape e ≡ false) × CallLeft u me (call.NcRead file page) (outcome.Failed e) old new
PageReadsRefused u me file page (suc done) e old new =
    (between : List Entry)
    × (first : List ℕ)
    × IsWholeBefore done first
    × CallLeft u me (call.NcRead file page) (outcome.Done (reply.Read first)) old between
    × PageReadsRefused u me file (suc page) done e between new

-- A noncached read with a place and length in order. One of no bytes leaves nothing, whatever the file.
abbrev pub AlignedReadLeft : Setup → ℕ → File → ℕ → ℕ → Result (List ℕ) (ℕ × CcError) → Between
AlignedReadLeft u me file at zero (Ok bytes) old new = (bytes ≡ []) × IsIdle me old new
AlignedReadLeft u me file at zero (Err failed) old new = (failed ≡ (0, error.NoMemory)) × IsIdle me old new
AlignedReadLeft u me file at (suc n) (Ok bytes) old new = PagesRead u me file (pages_from at (suc n)) bytes old new
AlignedReadLeft u me file at (suc n) (Err failed) old new =
    (failed.0 < length (pages_from at (suc n))) × PageReadsRefused u me file (at / 4096) failed.0 failed.1 old new

-- the same by what is refused of the place and the length, where something is
abbrev pub ShapedReadLeft : Setup → ℕ → File → ℕ → ℕ → Option CcError → Result (List ℕ) (ℕ × CcError) → Between
ShapedReadLeft u me file at len None answered old new = AlignedReadLeft u me file at len answered old new
ShapedReadLeft u me file at len (Some refusal) (Ok bytes) old new = ⊥
ShapedReadLeft u me file at len (Some refusal) (Err failed) old new =
    (failed.0 ≡ 0) × MisshapenLeft me file (call.NcRead file (at / 4096)) refusal failed.1 old new

-- A noncached read: the bytes that it answered, or how many pages it finished and why the next was refused.
abbrev pub NcReadLeft : Setup → ℕ → File → ℕ → ℕ → Result (List ℕ) (ℕ × CcError) → Between
NcReadLeft u me file at len answered old new = ShapedReadLeft u me file at len (shape_refusal at len) answered old new

-- The bytes of one page came into the cache and went to the disk: the store with its begin, which is one
-- event, and the end. What the pass placed before made room or flushed the log; between begin and end it
-- placed nothing.
pub record StoreIsTransferred (me : ℕ) (file : File) (page : ℕ) (bytes : List ℕ) (end : End) (old new : List Entry) : Type 0 where
  pub nth : ℕ
  pub earlier : List Entry
  pub waiting : List Entry
  pub works : Works me (Calls (call.NcStore file page bytes)) earlier old
  pub unstopped : IsUnstopped me earlier
  pub quiet : Others me waiting
  pub grew :
      new
      ≡ entry.WriteEnd me (record { stream = file.stream; page = page }) end
      ∷ (waiting
      ++ (entry.WriteBegin me (record { stream = file.stream; page = page })
      ∷ entry.Call me nth (Some file.stream) (call.NcStore file page bytes) (outcome.Done reply.Unit)
      ∷ (earlier ++ old)))

-- how many bytes the store changed: its page, cut at the size as it then was
abbrev pub bytes_stored : ℕ → ℕ → List Entry → ℕ
bytes_stored s page past = let r = stored_range page (size_of (history past s)) in r.to - r.from

-- an entry takes the page that was stored out again, as the end of the write may
abbrev pub TakesOut : ℕ → File → ℕ → List Entry → List Entry → Entry → Type 0
TakesOut me file page old past e =
    (e ≡ entry.PageOut me (record { stream = file.stream; page = page })) × MayPlace me (Calls (call.NcWrite file page)) old past e

-- a page was written: stored, put on the disk, taken out again where it could be, and its end placed
pub record IsPageWritten (me : ℕ) (file : File) (page : ℕ) (bytes : List ℕ) (count : ℕ) (old new : List Entry) : Type 0 where
  pub ended : List Entry
  pub transferred : StoreIsTransferred me file page bytes how.Good old ended
  pub counted : count ≡ bytes_stored file.stream page (transferred.earlier ++ old)
  pub nth : ℕ
  pub later : List Entry
  pub tidied : List Entry
  pub goes_out : EachOwn me (TakesOut me file page ended) tidied ended
  pub once : length (own me tidied) ≤ 1
  pub quiet : Others me later
  pub grew :
      new
      ≡ later
      ++ (entry.Call me nth (Some file.stream) (call.NcWrite file page) (outcome.Done reply.Unit)
      ∷ (tidied ++ ended))

-- The transfer of a page that was stored failed, and the end of the write tells it; or it found no memory,
-- and the write has no end.
abbrev pub TransferRefused : ℕ → File → ℕ → List ℕ → CcError → Between
TransferRefused me file page bytes (error.WriteFault failed) old new =
    (failed ≡ page)
    × (ended : List Entry)
    × (nth : ℕ)
    × StoreIsTransferred me file page bytes how.Failed old ended
    × PlacedOnly me (entry.Call me nth (Some file.stream) (call.NcWrite file page) (outcome.Failed (error.WriteFault failed))) ended new
TransferRefused me file page bytes error.NoMemory old new =
    (ended : List Entry) × StoreIsTransferred me file page bytes how.NoMemory old ended × IsIdle me ended new
TransferRefused me file page bytes other old new = ⊥

-- a page was refused: before its store, which leaves the end of the write alone, or at its transfer
abbrev pub PageRefused : Setup → ℕ → File → ℕ → List ℕ → CcError → Between
PageRefused u me file page bytes e old new =
    ((is_of_shape e ≡ false) × CallLeft u me (call.NcWrite file page) (outcome.Failed e) old new)
    ⊎ TransferRefused me file page bytes e old new

-- so many pages were written, from this one on, with these bytes, and their stores changed so many bytes
abbrev pub PagesWritten : ℕ → File → ℕ → ℕ → List ℕ → ℕ → Between
PagesWritten me file page zero bytes count old new = (count ≡ 0) × IsIdle me old new
PagesWritten me file page (suc done) bytes count old new =
    (between : List Entry)
    × (first : ℕ)
    × (rest : ℕ)
    × (count ≡ first + rest)
    × IsPageWritten me file page (take 4096 bytes) first old between
    × PagesWritten me file (suc page) done (drop 4096 bytes) rest between new

-- so many pages were written, and the one after them was refused
abbrev pub PageWritesRefused : Setup → ℕ → File → ℕ → ℕ → List ℕ → CcError → Between
PageWritesRefused u me file page done bytes e old new =
    (between : List Entry)
    × (count : ℕ)
    × PagesWritten me file page done bytes count old between
    × PageRefused u me file (page + done) (take 4096 (drop (4096 * done) bytes)) e between new

-- A noncached write with a place and length in order. One of no bytes leaves nothing, whatever the file.
abbrev pub AlignedWriteLeft : Setup → ℕ → File → ℕ → List ℕ → Result ℕ (ℕ × CcError) → Between
AlignedWriteLeft u me file at [] (Ok count) old new = (count ≡ 0) × IsIdle me old new
AlignedWriteLeft u me file at [] (Err failed) old new = (failed ≡ (0, error.NoMemory)) × IsIdle me old new
AlignedWriteLeft u me file at (byte ∷ bytes) (Ok count) old new =
    PagesWritten me file (at / 4096) (length (byte ∷ bytes) / 4096) (byte ∷ bytes) count old new
AlignedWriteLeft u me file at (byte ∷ bytes) (Err failed) old new =
    (failed.0 < length (byte ∷ bytes) / 4096) × PageWritesRefused u me file (at / 4096) failed.0 (byte ∷ bytes) failed.1 old new

abbrev pub ShapedWriteLeft : Setup → ℕ → File → ℕ → List ℕ → Option CcError → Result ℕ (ℕ × CcError) → Between
ShapedWriteLeft u me file at bytes None answered old new = AlignedWriteLeft u me file at bytes answered old new
ShapedWriteLeft u me file at bytes (Some refusal) (Ok count) old new = ⊥
ShapedWriteLeft u me file at bytes (Some refusal) (Err failed) old new =
    (failed.0 ≡ 0) × MisshapenLeft me file (call.NcWrite file (at / 4096)) refusal failed.1 old new

-- A noncached write: how many bytes its stores changed, or how many pages it finished and why the next was
-- refused.
abbrev pub NcWriteLeft : Setup → ℕ → File → ℕ → List ℕ → Result ℕ (ℕ × CcError) → Between
NcWriteLeft u me file at bytes answered old new =
    ShapedWriteLeft u me file at bytes (shape_refusal at (length bytes)) answered old new
