-- The same for noncached reads and writes, and for the end of a repin.
use Rattle.std.specs.Prelude.{ℕ, zero, suc, ◌+◌, ◌*◌, ◌/◌, Bool, true, false, List, [], ◌∷◌, ◌++◌, length, take, drop, Result, Ok, Err}
use Rattle.std.specs.declared.option.Option.{Option}
use Rattle.std.specs.declared.option.Option.TheVariants.{Some, None}
use Rattle.std.proofs.Common.{inl, inr, append_assoc}
use Rattle.cc_entry.specs.Place.{File}
use Rattle.cc_entry.specs.declared.call.Call.{Call}
use Rattle.cc_entry.specs.declared.call.Call.TheVariants as call
use Rattle.cc_entry.specs.declared.error.CcError.{CcError}
use Rattle.cc_entry.specs.declared.error.CcError.TheVariants as error
use Rattle.cc_entry.specs.declared.reply.Reply.TheVariants as reply
use Rattle.cc_entry.specs.declared.reply.Outcome.{Outcome}
use Rattle.cc_entry.specs.declared.reply.Outcome.TheVariants as outcome
use Rattle.cc_entry.specs.declared.entry.End.{End}
use Rattle.cc_entry.specs.declared.entry.End.TheVariants as how
use Rattle.cc_entry.specs.declared.entry.Entry.{Entry}
use Rattle.cc_entry.specs.declared.entry.Entry.TheVariants as entry
use Rattle.cc_model.specs.Setup.{Setup}
use Rattle.cc_model.specs.Holds.{Hold, range_held}
use Rattle.cc_effects.specs.Moments.{Others, IsIdle}
use Rattle.cc_effects.specs.Asked.{Calls}
use Rattle.cc_effects.specs.Noncached.{shape_refusal, pages_from, MisshapenLeft, IsUntold, EndsShort, PagesRead, PageReadsRefused, AlignedReadLeft, ShapedReadLeft, NcReadLeft, StoreIsTransferred, IsPageWritten, TransferRefused, PageRefused, PagesWritten, AlignedWriteLeft, ShapedWriteLeft, NcWriteLeft}
use Rattle.cc_effects.specs.Repins.{IsHoldEnded, UnpinLeft}
use Rattle.cc_effects.proofs.Stretches.{others-append, idle-then, only-after, only-before, grew-after}
use Rattle.cc_effects.proofs.WorkSteps.{works-others, works-append, unsynced-others, unstopped-others, unstopped-append}
use Rattle.cc_effects.proofs.CallSteps.{left-after, left-before, is-done-before, joined-others}

misshapen-after : (me : ℕ) (file : File) (it : Call) (refusal e : CcError) (old new newer : List Entry) → MisshapenLeft me file it refusal e old new → IsIdle me new newer → MisshapenLeft me file it refusal e old newer
misshapen-after me file it refusal error.NoMemory old new newer left idle = idle-then me old new newer left idle
misshapen-after me file it refusal (error.JournalFull entries) old new newer left idle = idle-then me old new newer left idle
misshapen-after me file it refusal error.NotCached old new newer left idle = (left.0, only-after me _ old new newer left.1 idle)
misshapen-after me file it refusal e old new newer left idle = (left.0, left.1, only-after me _ old new newer left.2 idle)

misshapen-before : (me : ℕ) (file : File) (it : Call) (refusal e : CcError) (older old new : List Entry) → IsIdle me older old → MisshapenLeft me file it refusal e old new → MisshapenLeft me file it refusal e older new
misshapen-before me file it refusal error.NoMemory older old new idle left = idle-then me older old new idle left
misshapen-before me file it refusal (error.JournalFull entries) older old new idle left = idle-then me older old new idle left
misshapen-before me file it refusal error.NotCached older old new idle left = (left.0, only-before me _ older old new idle left.1)
misshapen-before me file it refusal e older old new idle left = (left.0, left.1, only-before me _ older old new idle left.2)

untold-after : (u : Setup) (me : ℕ) (file : File) (pages : List ℕ) (old new newer : List Entry) → IsUntold u me file pages old new → IsIdle me new newer → IsUntold u me file pages old newer
untold-after u me file [] old new newer left idle = idle-then me old new newer left idle
untold-after u me file (page ∷ pages) old new newer left idle =
    (left.0, left-after u me (call.NcRead file page) (outcome.Done (reply.Read left.0)) old new newer left.1 idle)

short-after : (u : Setup) (me : ℕ) (file : File) (page : ℕ) (pages bytes : List ℕ) (old new newer : List Entry) → EndsShort u me file page pages bytes old new → IsIdle me new newer → EndsShort u me file page pages bytes old newer
short-after u me file page pages bytes old new newer left idle =
    (left.0, left.1, left.2, untold-after u me file pages left.0 new newer left.3 idle)

short-before : (u : Setup) (me : ℕ) (file : File) (page : ℕ) (pages bytes : List ℕ) (older old new : List Entry) → IsIdle me older old → EndsShort u me file page pages bytes old new → EndsShort u me file page pages bytes older new
short-before u me file page pages bytes older old new idle left =
    (left.0, left.1, left-before u me (call.NcRead file page) (outcome.Done (reply.Read bytes)) older old left.0 idle left.2, left.3)

reads-after : (u : Setup) (me : ℕ) (file : File) (pages bytes : List ℕ) (old new newer : List Entry) → PagesRead u me file pages bytes old new → IsIdle me new newer → PagesRead u me file pages bytes old newer
reads-after u me file [] bytes old new newer left idle = (left.0, idle-then me old new newer left.1 idle)
reads-after u me file (page ∷ pages) [] old new newer left idle = left-after u me (call.NcRead file page) (outcome.Done (reply.Read [])) old new newer left idle
reads-after u me file (page ∷ pages) (byte ∷ bytes) old new newer (inl left) idle =
    inl (left.0, left.1, left.2, left.3, left.4, left.5, reads-after u me file pages left.2 left.0 new newer left.6 idle)
reads-after u me file (page ∷ pages) (byte ∷ bytes) old new newer (inr left) idle =
    inr (short-after u me file page pages (byte ∷ bytes) old new newer left idle)

reads-before : (u : Setup) (me : ℕ) (file : File) (pages bytes : List ℕ) (older old new : List Entry) → IsIdle me older old → PagesRead u me file pages bytes old new → PagesRead u me file pages bytes older new
reads-before u me file [] bytes older old new idle left = (left.0, idle-then me older old new idle left.1)
reads-before u me file (page ∷ pages) [] older old new idle left = left-before u me (call.NcRead file page) (outcome.Done (reply.Read [])) older old new idle left
reads-before u me file (page ∷ pages) (byte ∷ bytes) older old new idle (inl left) =
    inl (left.0, left.1, left.2, left.3, left.4, left-before u me (call.NcRead file page) (outcome.Done (reply.Read left.1)) older old left.0 idle left.5, left.6)
reads-before u me file (page ∷ pages) (byte ∷ bytes) older old new idle (inr left) =
    inr (short-before u me file page pages (byte ∷ bytes) older old new idle left)

reads-refused-after : (u : Setup) (me : ℕ) (file : File) (page done : ℕ) (e : CcError) (old new newer : List Entry) → PageReadsRefused u me file page done e old new → IsIdle me new newer → PageReadsRefused u me file page done e old newer
reads-refused-after u me file page zero e old new newer left idle = (left.0, left-after u me (call.NcRead file page) (outcome.Failed e) old new newer left.1 idle)
reads-refused-after u me file page (suc done) e old new newer left idle =
    (left.0, left.1, left.2, left.3, reads-refused-after u me file (suc page) done e left.0 new newer left.4 idle)

reads-refused-before : (u : Setup) (me : ℕ) (file : File) (page done : ℕ) (e : CcError) (older old new : List Entry) → IsIdle me older old → PageReadsRefused u me file page done e old new → PageReadsRefused u me file page done e older new
reads-refused-before u me file page zero e older old new idle left = (left.0, left-before u me (call.NcRead file page) (outcome.Failed e) older old new idle left.1)
reads-refused-before u me file page (suc done) e older old new idle left =
    (left.0, left.1, left.2, left-before u me (call.NcRead file page) (outcome.Done (reply.Read left.1)) older old left.0 idle left.3, left.4)

aligned-read-after : (u : Setup) (me : ℕ) (file : File) (at len : ℕ) (answered : Result (List ℕ) (ℕ × CcError)) (old new newer : List Entry) → AlignedReadLeft u me file at len answered old new → IsIdle me new newer → AlignedReadLeft u me file at len answered old newer
aligned-read-after u me file at zero (Ok bytes) old new newer left idle = (left.0, idle-then me old new newer left.1 idle)
aligned-read-after u me file at zero (Err failed) old new newer left idle = (left.0, idle-then me old new newer left.1 idle)
aligned-read-after u me file at (suc n) (Ok bytes) old new newer left idle = reads-after u me file (pages_from at (suc n)) bytes old new newer left idle
aligned-read-after u me file at (suc n) (Err failed) old new newer left idle = (left.0, reads-refused-after u me file (at / 4096) failed.0 failed.1 old new newer left.1 idle)

aligned-read-before : (u : Setup) (me : ℕ) (file : File) (at len : ℕ) (answered : Result (List ℕ) (ℕ × CcError)) (older old new : List Entry) → IsIdle me older old → AlignedReadLeft u me file at len answered old new → AlignedReadLeft u me file at len answered older new
aligned-read-before u me file at zero (Ok bytes) older old new idle left = (left.0, idle-then me older old new idle left.1)
aligned-read-before u me file at zero (Err failed) older old new idle left = (left.0, idle-then me older old new idle left.1)
aligned-read-before u me file at (suc n) (Ok bytes) older old new idle left = reads-before u me file (pages_from at (suc n)) bytes older old new idle left
aligned-read-before u me file at (suc n) (Err failed) older old new idle left = (left.0, reads-refused-before u me file (at / 4096) failed.0 failed.1 older old new idle left.1)

shaped-read-after : (u : Setup) (me : ℕ) (file : File) (at len : ℕ) (shape : Option CcError) (answered : Result (List ℕ) (ℕ × CcError)) (old new newer : List Entry) → ShapedReadLeft u me file at len shape answered old new → IsIdle me new newer → ShapedReadLeft u me file at len shape answered old newer
shaped-read-after u me file at len None answered old new newer left idle = aligned-read-after u me file at len answered old new newer left idle
shaped-read-after u me file at len (Some refusal) (Ok bytes) old new newer left idle = absurd left
shaped-read-after u me file at len (Some refusal) (Err failed) old new newer left idle = (left.0, misshapen-after me file (call.NcRead file (at / 4096)) refusal failed.1 old new newer left.1 idle)

shaped-read-before : (u : Setup) (me : ℕ) (file : File) (at len : ℕ) (shape : Option CcError) (answered : Result (List ℕ) (ℕ × CcError)) (older old new : List Entry) → IsIdle me older old → ShapedReadLeft u me file at len shape answered old new → ShapedReadLeft u me file at len shape answered older new
shaped-read-before u me file at len None answered older old new idle left = aligned-read-before u me file at len answered older old new idle left
shaped-read-before u me file at len (Some refusal) (Ok bytes) older old new idle left = absurd left
shaped-read-before u me file at len (Some refusal) (Err failed) older old new idle left = (left.0, misshapen-before me file (call.NcRead file (at / 4096)) refusal failed.1 older old new idle left.1)

pub nc-read-after : (u : Setup) (me : ℕ) (file : File) (at len : ℕ) (answered : Result (List ℕ) (ℕ × CcError)) (old new newer : List Entry) → NcReadLeft u me file at len answered old new → IsIdle me new newer → NcReadLeft u me file at len answered old newer
nc-read-after u me file at len answered old new newer left idle = shaped-read-after u me file at len (shape_refusal at len) answered old new newer left idle

pub nc-read-before : (u : Setup) (me : ℕ) (file : File) (at len : ℕ) (answered : Result (List ℕ) (ℕ × CcError)) (older old new : List Entry) → IsIdle me older old → NcReadLeft u me file at len answered old new → NcReadLeft u me file at len answered older new
nc-read-before u me file at len answered older old new idle left = shaped-read-before u me file at len (shape_refusal at len) answered older old new idle left

abbrev transferred-behind : (me : ℕ) (file : File) (page : ℕ) (bytes : List ℕ) (end : End) (gap older new : List Entry) → Others me gap → StoreIsTransferred me file page bytes end (gap ++ older) new → StoreIsTransferred me file page bytes end older new
transferred-behind me file page bytes end gap older new others is = record {
  nth = is.nth;
  earlier = is.earlier ++ gap;
  waiting = is.waiting;
  works = works-append me (Calls (call.NcStore file page bytes)) is.earlier gap older is.works (works-others me (Calls (call.NcStore file page bytes)) gap older others) (unsynced-others me gap others);
  unstopped = unstopped-append me is.earlier gap is.unstopped (unstopped-others me gap others);
  quiet = is.quiet;
  grew = rw (append_assoc is.earlier gap older) is.grew;
}

page-written-behind : (me : ℕ) (file : File) (page : ℕ) (bytes : List ℕ) (count : ℕ) (gap older new : List Entry) → Others me gap → IsPageWritten me file page bytes count (gap ++ older) new → IsPageWritten me file page bytes count older new
page-written-behind me file page bytes count gap older new others is = record {
  ended = is.ended;
  transferred = transferred-behind me file page bytes how.Good gap older is.ended others is.transferred;
  counted = rw (append_assoc is.transferred.earlier gap older) is.counted;
  nth = is.nth;
  later = is.later;
  tidied = is.tidied;
  goes_out = is.goes_out;
  once = is.once;
  quiet = is.quiet;
  grew = is.grew;
}

page-written-before : (me : ℕ) (file : File) (page : ℕ) (bytes : List ℕ) (count : ℕ) (older old new : List Entry) → IsIdle me older old → IsPageWritten me file page bytes count old new → IsPageWritten me file page bytes count older new
page-written-before me file page bytes count older old new idle is = page-written-behind me file page bytes count idle.during older new idle.others (rw idle.grew at is)

page-written-after : (me : ℕ) (file : File) (page : ℕ) (bytes : List ℕ) (count : ℕ) (old new newer : List Entry) → IsPageWritten me file page bytes count old new → IsIdle me new newer → IsPageWritten me file page bytes count old newer
page-written-after me file page bytes count old new newer is idle = record {
  ended = is.ended;
  transferred = is.transferred;
  counted = is.counted;
  nth = is.nth;
  later = idle.during ++ is.later;
  tidied = is.tidied;
  goes_out = is.goes_out;
  once = is.once;
  quiet = others-append me idle.during is.later idle.others is.quiet;
  grew = grew-after idle.during is.later (entry.Call me is.nth (Some file.stream) (call.NcWrite file page) (outcome.Done reply.Unit) ∷ (is.tidied ++ is.ended)) new newer idle.grew is.grew;
}

transfer-refused-after : (me : ℕ) (file : File) (page : ℕ) (bytes : List ℕ) (e : CcError) (old new newer : List Entry) → TransferRefused me file page bytes e old new → IsIdle me new newer → TransferRefused me file page bytes e old newer
transfer-refused-after me file page bytes (error.WriteFault failed) old new newer left idle = (left.0, left.1, left.2, left.3, only-after me _ left.1 new newer left.4 idle)
transfer-refused-after me file page bytes error.NoMemory old new newer left idle = (left.0, left.1, idle-then me left.0 new newer left.2 idle)
transfer-refused-after me file page bytes other old new newer left idle = absurd left

transfer-refused-behind : (me : ℕ) (file : File) (page : ℕ) (bytes : List ℕ) (e : CcError) (gap older new : List Entry) → Others me gap → TransferRefused me file page bytes e (gap ++ older) new → TransferRefused me file page bytes e older new
transfer-refused-behind me file page bytes (error.WriteFault failed) gap older new others left =
    (left.0, left.1, left.2, transferred-behind me file page bytes how.Failed gap older left.1 others left.3, left.4)
transfer-refused-behind me file page bytes error.NoMemory gap older new others left =
    (left.0, transferred-behind me file page bytes how.NoMemory gap older left.0 others left.1, left.2)
transfer-refused-behind me file page bytes other gap older new others left = absurd left

page-refused-after : (u : Setup) (me : ℕ) (file : File) (page : ℕ) (bytes : List ℕ) (e : CcError) (old new newer : List Entry) → PageRefused u me file page bytes e old new → IsIdle me new newer → PageRefused u me file page bytes e old newer
page-refused-after u me file page bytes e old new newer (inl is) idle = inl (is.0, left-after u me (call.NcWrite file page) (outcome.Failed e) old new newer is.1 idle)
page-refused-after u me file page bytes e old new newer (inr is) idle = inr (transfer-refused-after me file page bytes e old new newer is idle)

page-refused-before : (u : Setup) (me : ℕ) (file : File) (page : ℕ) (bytes : List ℕ) (e : CcError) (older old new : List Entry) → IsIdle me older old → PageRefused u me file page bytes e old new → PageRefused u me file page bytes e older new
page-refused-before u me file page bytes e older old new idle (inl is) = inl (is.0, left-before u me (call.NcWrite file page) (outcome.Failed e) older old new idle is.1)
page-refused-before u me file page bytes e older old new idle (inr is) = inr (transfer-refused-behind me file page bytes e idle.during older new idle.others (rw idle.grew at is))

writes-after : (me : ℕ) (file : File) (page done : ℕ) (bytes : List ℕ) (count : ℕ) (old new newer : List Entry) → PagesWritten me file page done bytes count old new → IsIdle me new newer → PagesWritten me file page done bytes count old newer
writes-after me file page zero bytes count old new newer left idle = (left.0, idle-then me old new newer left.1 idle)
writes-after me file page (suc done) bytes count old new newer left idle =
    (left.0, left.1, left.2, left.3, left.4, writes-after me file (suc page) done (drop 4096 bytes) left.2 left.0 new newer left.5 idle)

writes-before : (me : ℕ) (file : File) (page done : ℕ) (bytes : List ℕ) (count : ℕ) (older old new : List Entry) → IsIdle me older old → PagesWritten me file page done bytes count old new → PagesWritten me file page done bytes count older new
writes-before me file page zero bytes count older old new idle left = (left.0, idle-then me older old new idle left.1)
writes-before me file page (suc done) bytes count older old new idle left =
    (left.0, left.1, left.2, left.3, page-written-before me file page (take 4096 bytes) left.1 older old left.0 idle left.4, left.5)

aligned-write-after : (u : Setup) (me : ℕ) (file : File) (at : ℕ) (bytes : List ℕ) (answered : Result ℕ (ℕ × CcError)) (old new newer : List Entry) → AlignedWriteLeft u me file at bytes answered old new → IsIdle me new newer → AlignedWriteLeft u me file at bytes answered old newer
aligned-write-after u me file at [] (Ok count) old new newer left idle = (left.0, idle-then me old new newer left.1 idle)
aligned-write-after u me file at [] (Err failed) old new newer left idle = (left.0, idle-then me old new newer left.1 idle)
aligned-write-after u me file at (byte ∷ bytes) (Ok count) old new newer left idle =
    writes-after me file (at / 4096) (length (byte ∷ bytes) / 4096) (byte ∷ bytes) count old new newer left idle
aligned-write-after u me file at (byte ∷ bytes) (Err failed) old new newer left idle =
    (left.0, (left.1.0, left.1.1, left.1.2, page-refused-after u me file (at / 4096 + failed.0) (take 4096 (drop (4096 * failed.0) (byte ∷ bytes))) failed.1 left.1.0 new newer left.1.3 idle))

aligned-write-before : (u : Setup) (me : ℕ) (file : File) (at : ℕ) (bytes : List ℕ) (answered : Result ℕ (ℕ × CcError)) (older old new : List Entry) → IsIdle me older old → AlignedWriteLeft u me file at bytes answered old new → AlignedWriteLeft u me file at bytes answered older new
aligned-write-before u me file at [] (Ok count) older old new idle left = (left.0, idle-then me older old new idle left.1)
aligned-write-before u me file at [] (Err failed) older old new idle left = (left.0, idle-then me older old new idle left.1)
aligned-write-before u me file at (byte ∷ bytes) (Ok count) older old new idle left =
    writes-before me file (at / 4096) (length (byte ∷ bytes) / 4096) (byte ∷ bytes) count older old new idle left
aligned-write-before u me file at (byte ∷ bytes) (Err failed) older old new idle left =
    (left.0, (left.1.0, left.1.1, writes-before me file (at / 4096) failed.0 (byte ∷ bytes) left.1.1 older old left.1.0 idle left.1.2, left.1.3))

shaped-write-after : (u : Setup) (me : ℕ) (file : File) (at : ℕ) (bytes : List ℕ) (shape : Option CcError) (answered : Result ℕ (ℕ × CcError)) (old new newer : List Entry) → ShapedWriteLeft u me file at bytes shape answered old new → IsIdle me new newer → ShapedWriteLeft u me file at bytes shape answered old newer
shaped-write-after u me file at bytes None answered old new newer left idle = aligned-write-after u me file at bytes answered old new newer left idle
shaped-write-after u me file at bytes (Some refusal) (Ok count) old new newer left idle = absurd left
shaped-write-after u me file at bytes (Some refusal) (Err failed) old new newer left idle = (left.0, misshapen-after me file (call.NcWrite file (at / 4096)) refusal failed.1 old new newer left.1 idle)

shaped-write-before : (u : Setup) (me : ℕ) (file : File) (at : ℕ) (bytes : List ℕ) (shape : Option CcError) (answered : Result ℕ (ℕ × CcError)) (older old new : List Entry) → IsIdle me older old → ShapedWriteLeft u me file at bytes shape answered old new → ShapedWriteLeft u me file at bytes shape answered older new
shaped-write-before u me file at bytes None answered older old new idle left = aligned-write-before u me file at bytes answered older old new idle left
shaped-write-before u me file at bytes (Some refusal) (Ok count) older old new idle left = absurd left
shaped-write-before u me file at bytes (Some refusal) (Err failed) older old new idle left = (left.0, misshapen-before me file (call.NcWrite file (at / 4096)) refusal failed.1 older old new idle left.1)

pub nc-write-after : (u : Setup) (me : ℕ) (file : File) (at : ℕ) (bytes : List ℕ) (answered : Result ℕ (ℕ × CcError)) (old new newer : List Entry) → NcWriteLeft u me file at bytes answered old new → IsIdle me new newer → NcWriteLeft u me file at bytes answered old newer
nc-write-after u me file at bytes answered old new newer left idle = shaped-write-after u me file at bytes (shape_refusal at (length bytes)) answered old new newer left idle

pub nc-write-before : (u : Setup) (me : ℕ) (file : File) (at : ℕ) (bytes : List ℕ) (answered : Result ℕ (ℕ × CcError)) (older old new : List Entry) → IsIdle me older old → NcWriteLeft u me file at bytes answered old new → NcWriteLeft u me file at bytes answered older new
nc-write-before u me file at bytes answered older old new idle left = shaped-write-before u me file at bytes (shape_refusal at (length bytes)) answered older old new idle left

hold-ended-behind : (me id : ℕ) (hold : Hold) (gap older new : List Entry) → Others me gap → IsHoldEnded me id hold (gap ++ older) new → IsHoldEnded me id hold older new
hold-ended-behind me id hold gap older new others is = record {
  done = is-done-before me (call.EndHold id) reply.Unit gap older new (joined-others me (call.EndHold id) gap older others) is.done;
  found = rw (append_assoc is.done.earlier gap older) is.found;
}

pub unpin-after : (u : Setup) (me id : ℕ) (through : Bool) (answered : Outcome) (old new newer : List Entry) → UnpinLeft u me id through answered old new → IsIdle me new newer → UnpinLeft u me id through answered old newer
unpin-after u me id false answered old new newer left idle = left-after u me (call.EndHold id) answered old new newer left idle
unpin-after u me id true answered old new newer left idle = (left.0, left.1, left.2, left-after u me (call.Flush left.1.file (Some (range_held left.1))) answered left.0 new newer left.3 idle)

pub unpin-before : (u : Setup) (me id : ℕ) (through : Bool) (answered : Outcome) (older old new : List Entry) → IsIdle me older old → UnpinLeft u me id through answered old new → UnpinLeft u me id through answered older new
unpin-before u me id false answered older old new idle left = left-before u me (call.EndHold id) answered older old new idle left
unpin-before u me id true answered older old new idle left =
    (left.0, left.1, hold-ended-behind me id left.1 idle.during older left.0 idle.others (rw idle.grew at left.2), left.3)
