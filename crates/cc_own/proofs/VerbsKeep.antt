-- What else a pass may ask changes no hold of its own: the end of a repin but its own, noncached reads and
-- writes, the writing of pages and ticks, read-ahead steps, deferrals and posts, logs, and levels.
use Rattle.std.specs.Prelude.{◌≡◌, ℕ, zero, suc, ◌+◌, ◌*◌, ◌/◌, Bool, true, false, ◌==◌, List, [], ◌∷◌, ◌++◌, length, take, drop, Option, Result, Ok, Err, refl, ◌⊎◌}
use Rattle.std.specs.declared.option.Option.TheVariants.{Some, None}
use Rattle.std.proofs.Common.{ap, sym, inl, inr, subst}
use Rattle.cc_entry.specs.Place.{File, Page}
use Rattle.cc_entry.specs.declared.answer.AheadDone.{AheadDone}
use Rattle.cc_entry.specs.declared.place.Request.{Request}
use Rattle.cc_entry.specs.declared.answer.Tick.{Tick}
use Rattle.cc_entry.specs.declared.call.Call.{Call}
use Rattle.cc_entry.specs.declared.call.Call.TheVariants as call
use Rattle.cc_entry.specs.declared.error.CcError.{CcError}
use Rattle.cc_entry.specs.declared.error.CcError.TheVariants as error
use Rattle.cc_entry.specs.declared.reply.Reply.TheVariants as reply
use Rattle.cc_entry.specs.declared.reply.Outcome.{Outcome}
use Rattle.cc_entry.specs.declared.reply.Outcome.TheVariants as outcome
use Rattle.cc_entry.specs.declared.entry.End.{End}
use Rattle.cc_entry.specs.declared.entry.End.TheVariants as how
use Rattle.cc_entry.specs.declared.entry.Entry.{Entry}
use Rattle.cc_entry.specs.declared.entry.Entry.TheVariants as entry
use Rattle.cc_model.specs.Setup.{Setup}
use Rattle.cc_model.specs.Holds.{range_held}
use Rattle.cc_effects.specs.Asked.{Calls, Writes}
use Rattle.cc_effects.specs.Moments.{PlacedOnly}
use Rattle.cc_effects.specs.Repins.{UnpinLeft}
use Rattle.cc_effects.specs.Noncached.{shape_refusal, pages_from, MisshapenLeft, IsUntold, EndsShort, PagesRead, PageReadsRefused, AlignedReadLeft, ShapedReadLeft, NcReadLeft, StoreIsTransferred, TakesOut, IsPageWritten, TransferRefused, PageRefused, PagesWritten, AlignedWriteLeft, ShapedWriteLeft, NcWriteLeft}
use Rattle.cc_effects.specs.PageWrites.{PageWrite, HasScanned, PageWriteLeft, TickCutOff, TickLeft}
use Rattle.cc_effects.specs.ReadAhead.{AheadLeft}
use Rattle.cc_effects.specs.Throttle.{DeferLeft, PostLeft}
use Rattle.cc_effects.specs.LogCalls.{AppendRefused, AppendLeft, WasFlushed, FlushRefused, LogFlushLeft}
use Rattle.cc_effects.specs.Levels.{LevelsLeft}
use Rattle.cc_own.specs.Own.{changes_hold, IsUnchanged}
use Rattle.cc_own.proofs.CallsKeep.{each-kept, works-kept}
use Rattle.cc_own.proofs.Unchanged.{unchanged-then, unchanged-others, unchanged-idle, unchanged-entry, unchanged-only, unchanged-works, unchanged-placed, unchanged-failed, unchanged-call}

-- the end of another repin, with write through or without
pub unpin-unchanged : (u : Setup) (me id named : ℕ) (through : Bool) (answered : Outcome) (old new : List Entry) → UnpinLeft u me named through answered old new → (named == id) ≡ false → IsUnchanged me id old new
unpin-unchanged u me id named false answered old new left apart = unchanged-call u me id (call.EndHold named) answered old new left apart
unpin-unchanged u me id named true answered old new left apart =
    unchanged-then me id old left.0 new (unchanged-placed me id (call.EndHold named) _ left.2.done.earlier old left.0 left.2.done.placed apart)
    (unchanged-call u me id (call.Flush left.1.file (Some (range_held left.1))) answered left.0 new left.3 refl)

-- a noncached call of such a shape that it is refused
misshapen-unchanged : (me id : ℕ) (file : File) (it : Call) (refusal e : CcError) (old new : List Entry) → MisshapenLeft me file it refusal e old new → IsUnchanged me id old new
misshapen-unchanged me id file it refusal error.NoMemory old new left = unchanged-idle me id old new left
misshapen-unchanged me id file it refusal (error.JournalFull entries) old new left = unchanged-idle me id old new left
misshapen-unchanged me id file it refusal error.NotCached old new left = unchanged-only me id _ old new left.1 refl
misshapen-unchanged me id file it refusal e old new left = unchanged-only me id _ old new left.2 refl

untold-unchanged : (u : Setup) (me id : ℕ) (file : File) (pages : List ℕ) (old new : List Entry) → IsUntold u me file pages old new → IsUnchanged me id old new
untold-unchanged u me id file [] old new left = unchanged-idle me id old new left
untold-unchanged u me id file (page ∷ pages) old new left = unchanged-call u me id (call.NcRead file page) (outcome.Done (reply.Read left.0)) old new left.1 refl

short-unchanged : (u : Setup) (me id : ℕ) (file : File) (page : ℕ) (pages bytes : List ℕ) (old new : List Entry) → EndsShort u me file page pages bytes old new → IsUnchanged me id old new
short-unchanged u me id file page pages bytes old new left =
    unchanged-then me id old left.0 new (unchanged-call u me id (call.NcRead file page) (outcome.Done (reply.Read bytes)) old left.0 left.2 refl)
    (untold-unchanged u me id file pages left.0 new left.3)

reads-unchanged : (u : Setup) (me id : ℕ) (file : File) (pages bytes : List ℕ) (old new : List Entry) → PagesRead u me file pages bytes old new → IsUnchanged me id old new
reads-unchanged u me id file [] bytes old new left = unchanged-idle me id old new left.1
reads-unchanged u me id file (page ∷ pages) [] old new left = unchanged-call u me id (call.NcRead file page) (outcome.Done (reply.Read [])) old new left refl
reads-unchanged u me id file (page ∷ pages) (byte ∷ bytes) old new (inr left) = short-unchanged u me id file page pages (byte ∷ bytes) old new left
reads-unchanged u me id file (page ∷ pages) (byte ∷ bytes) old new (inl left) =
    unchanged-then me id old left.0 new (unchanged-call u me id (call.NcRead file page) (outcome.Done (reply.Read left.1)) old left.0 left.5 refl)
    (reads-unchanged u me id file pages left.2 left.0 new left.6)

reads-refused-unchanged : (u : Setup) (me id : ℕ) (file : File) (page done : ℕ) (e : CcError) (old new : List Entry) → PageReadsRefused u me file page done e old new → IsUnchanged me id old new
reads-refused-unchanged u me id file page zero e old new left = unchanged-failed u me id (call.NcRead file page) e old new left.1
reads-refused-unchanged u me id file page (suc done) e old new left =
    unchanged-then me id old left.0 new (unchanged-call u me id (call.NcRead file page) (outcome.Done (reply.Read left.1)) old left.0 left.3 refl)
    (reads-refused-unchanged u me id file (suc page) done e left.0 new left.4)

aligned-read-unchanged : (u : Setup) (me id : ℕ) (file : File) (at len : ℕ) (answered : Result (List ℕ) (ℕ × CcError)) (old new : List Entry) → AlignedReadLeft u me file at len answered old new → IsUnchanged me id old new
aligned-read-unchanged u me id file at zero (Ok bytes) old new left = unchanged-idle me id old new left.1
aligned-read-unchanged u me id file at zero (Err failed) old new left = unchanged-idle me id old new left.1
aligned-read-unchanged u me id file at (suc n) (Ok bytes) old new left = reads-unchanged u me id file (pages_from at (suc n)) bytes old new left
aligned-read-unchanged u me id file at (suc n) (Err failed) old new left = reads-refused-unchanged u me id file (at / 4096) failed.0 failed.1 old new left.1

shaped-read-unchanged : (u : Setup) (me id : ℕ) (file : File) (at len : ℕ) (shape : Option CcError) (answered : Result (List ℕ) (ℕ × CcError)) (old new : List Entry) → ShapedReadLeft u me file at len shape answered old new → IsUnchanged me id old new
shaped-read-unchanged u me id file at len None answered old new left = aligned-read-unchanged u me id file at len answered old new left
shaped-read-unchanged u me id file at len (Some refusal) (Ok bytes) old new left = absurd left
shaped-read-unchanged u me id file at len (Some refusal) (Err failed) old new left = misshapen-unchanged me id file (call.NcRead file (at / 4096)) refusal failed.1 old new left.1

pub nc_read-unchanged : (u : Setup) (me id : ℕ) (file : File) (at len : ℕ) (answered : Result (List ℕ) (ℕ × CcError)) (old new : List Entry) → NcReadLeft u me file at len answered old new → IsUnchanged me id old new
nc_read-unchanged u me id file at len answered old new left = shaped-read-unchanged u me id file at len (shape_refusal at len) answered old new left

transferred-unchanged : (me id : ℕ) (file : File) (page : ℕ) (bytes : List ℕ) (end : End) (old new : List Entry) → StoreIsTransferred me file page bytes end old new → IsUnchanged me id old new
transferred-unchanged me id file page bytes end old new is =
    subst (IsUnchanged me id old) (sym is.grew)
    (unchanged-then me id old _ _
    (unchanged-then me id old _ _
    (unchanged-then me id old _ _
    (unchanged-then me id old (is.earlier ++ old) _ (unchanged-works me id (Calls (call.NcStore file page bytes)) is.earlier old is.works) (unchanged-entry me id (entry.Call me is.nth (Some file.stream) (call.NcStore file page bytes) (outcome.Done reply.Unit)) (is.earlier ++ old) refl))
    (unchanged-entry me id (entry.WriteBegin me (record { stream = file.stream; page = page })) _ refl))
    (unchanged-others me id is.waiting _ is.quiet))
    (unchanged-entry me id (entry.WriteEnd me (record { stream = file.stream; page = page }) end) _ refl))

page-written-unchanged : (me id : ℕ) (file : File) (page : ℕ) (bytes : List ℕ) (count : ℕ) (old new : List Entry) → IsPageWritten me file page bytes count old new → IsUnchanged me id old new
page-written-unchanged me id file page bytes count old new is =
    subst (IsUnchanged me id old) (sym is.grew)
    (unchanged-then me id old is.ended _ (transferred-unchanged me id file page bytes how.Good old is.ended is.transferred)
    (unchanged-then me id is.ended _ _
    (unchanged-then me id is.ended (is.tidied ++ is.ended) _ tidied (unchanged-entry me id (entry.Call me is.nth (Some file.stream) (call.NcWrite file page) (outcome.Done reply.Unit)) (is.tidied ++ is.ended) refl))
    (unchanged-others me id is.later _ is.quiet)))
  where
    goes-out : (past : List Entry) (e : Entry) → TakesOut me file page is.ended past e → changes_hold id e ≡ false
    goes-out past e takes = ap (changes_hold id) takes.0

    tidied : IsUnchanged me id is.ended (is.tidied ++ is.ended)
    tidied = record { during = is.tidied; grew = refl; unchanged = each-kept me id (TakesOut me file page is.ended) goes-out is.tidied is.ended is.goes_out }

transfer-refused-unchanged : (me id : ℕ) (file : File) (page : ℕ) (bytes : List ℕ) (e : CcError) (old new : List Entry) → TransferRefused me file page bytes e old new → IsUnchanged me id old new
transfer-refused-unchanged me id file page bytes (error.WriteFault failed) old new left =
    unchanged-then me id old left.1 new (transferred-unchanged me id file page bytes how.Failed old left.1 left.3) (unchanged-only me id _ left.1 new left.4 refl)
transfer-refused-unchanged me id file page bytes error.NoMemory old new left =
    unchanged-then me id old left.0 new (transferred-unchanged me id file page bytes how.NoMemory old left.0 left.1) (unchanged-idle me id left.0 new left.2)
transfer-refused-unchanged me id file page bytes other old new left = absurd left

page-refused-unchanged : (u : Setup) (me id : ℕ) (file : File) (page : ℕ) (bytes : List ℕ) (e : CcError) (old new : List Entry) → PageRefused u me file page bytes e old new → IsUnchanged me id old new
page-refused-unchanged u me id file page bytes e old new (inl is) = unchanged-failed u me id (call.NcWrite file page) e old new is.1
page-refused-unchanged u me id file page bytes e old new (inr is) = transfer-refused-unchanged me id file page bytes e old new is

writes-unchanged : (me id : ℕ) (file : File) (page done : ℕ) (bytes : List ℕ) (count : ℕ) (old new : List Entry) → PagesWritten me file page done bytes count old new → IsUnchanged me id old new
writes-unchanged me id file page zero bytes count old new left = unchanged-idle me id old new left.1
writes-unchanged me id file page (suc done) bytes count old new left =
    unchanged-then me id old left.0 new (page-written-unchanged me id file page (take 4096 bytes) left.1 old left.0 left.4)
    (writes-unchanged me id file (suc page) done (drop 4096 bytes) left.2 left.0 new left.5)

aligned-write-unchanged : (u : Setup) (me id : ℕ) (file : File) (at : ℕ) (bytes : List ℕ) (answered : Result ℕ (ℕ × CcError)) (old new : List Entry) → AlignedWriteLeft u me file at bytes answered old new → IsUnchanged me id old new
aligned-write-unchanged u me id file at [] (Ok count) old new left = unchanged-idle me id old new left.1
aligned-write-unchanged u me id file at [] (Err failed) old new left = unchanged-idle me id old new left.1
aligned-write-unchanged u me id file at (byte ∷ bytes) (Ok count) old new left =
    writes-unchanged me id file (at / 4096) (length (byte ∷ bytes) / 4096) (byte ∷ bytes) count old new left
aligned-write-unchanged u me id file at (byte ∷ bytes) (Err failed) old new left =
    unchanged-then me id old left.1.0 new (writes-unchanged me id file (at / 4096) failed.0 (byte ∷ bytes) left.1.1 old left.1.0 left.1.2)
    (page-refused-unchanged u me id file (at / 4096 + failed.0) (take 4096 (drop (4096 * failed.0) (byte ∷ bytes))) failed.1 left.1.0 new left.1.3)

shaped-write-unchanged : (u : Setup) (me id : ℕ) (file : File) (at : ℕ) (bytes : List ℕ) (shape : Option CcError) (answered : Result ℕ (ℕ × CcError)) (old new : List Entry) → ShapedWriteLeft u me file at bytes shape answered old new → IsUnchanged me id old new
shaped-write-unchanged u me id file at bytes None answered old new left = aligned-write-unchanged u me id file at bytes answered old new left
shaped-write-unchanged u me id file at bytes (Some refusal) (Ok count) old new left = absurd left
shaped-write-unchanged u me id file at bytes (Some refusal) (Err failed) old new left = misshapen-unchanged me id file (call.NcWrite file (at / 4096)) refusal failed.1 old new left.1

pub nc_write-unchanged : (u : Setup) (me id : ℕ) (file : File) (at : ℕ) (bytes : List ℕ) (answered : Result ℕ (ℕ × CcError)) (old new : List Entry) → NcWriteLeft u me file at bytes answered old new → IsUnchanged me id old new
nc_write-unchanged u me id file at bytes answered old new left = shaped-write-unchanged u me id file at bytes (shape_refusal at (length bytes)) answered old new left

pub page_write-unchanged : (me id : ℕ) (page : Page) (answered : Result PageWrite CcError) (old new : List Entry) → PageWriteLeft me page answered old new → IsUnchanged me id old new
page_write-unchanged me id page (Ok became) old new left = record { during = left.during; grew = left.grew; unchanged = works-kept me id (Writes (page ∷ [])) left.during old left.works }
page_write-unchanged me id page (Err (error.JournalFull entries)) old new left = record { during = left.during; grew = left.grew; unchanged = works-kept me id (Writes (page ∷ [])) left.during old left.works }
page_write-unchanged me id page (Err error.NoMemory) old new left = record { during = left.during; grew = left.grew; unchanged = works-kept me id (Writes (page ∷ [])) left.during old left.works }
page_write-unchanged me id page (Err other) old new left = absurd left

scanned-unchanged : (me id : ℕ) (picked : List Page) (during old new : List Entry) → HasScanned me picked during old new → IsUnchanged me id old new
scanned-unchanged me id picked during old new has =
    subst (IsUnchanged me id old) (sym has.grew)
    (unchanged-then me id old (entry.Scan me picked ∷ (has.before ++ old)) _
    (unchanged-then me id old (has.before ++ old) _ (unchanged-others me id has.before old has.quiet) (unchanged-entry me id (entry.Scan me picked) (has.before ++ old) refl))
    (unchanged-works me id (Writes picked) during _ has.works))

cut-tick-unchanged : (me id : ℕ) (e : CcError) (old new : List Entry) → TickCutOff me e old new → IsUnchanged me id old new
cut-tick-unchanged me id e old new (inl was) = unchanged-idle me id old new was
cut-tick-unchanged me id e old new (inr has) = scanned-unchanged me id has.0 has.1 old new has.2

pub tick-unchanged : (me id : ℕ) (answered : Result Tick CcError) (old new : List Entry) → TickLeft me answered old new → IsUnchanged me id old new
tick-unchanged me id (Ok tick) old new left = scanned-unchanged me id tick.picked left.during old new left.scanned
tick-unchanged me id (Err (error.JournalFull entries)) old new left = cut-tick-unchanged me id (error.JournalFull entries) old new left
tick-unchanged me id (Err error.NoMemory) old new left = cut-tick-unchanged me id error.NoMemory old new left
tick-unchanged me id (Err other) old new left = absurd left

pub ahead-unchanged : (u : Setup) (me id : ℕ) (taken : Option Request) (answered : Result (Option AheadDone) CcError) (old new : List Entry) → AheadLeft u me taken answered old new → IsUnchanged me id old new
ahead-unchanged u me id None (Ok None) old new left = unchanged-idle me id old new left
ahead-unchanged u me id None (Ok (Some done)) old new left = absurd left
ahead-unchanged u me id None (Err e) old new left = absurd left
ahead-unchanged u me id (Some request) (Ok None) old new left = absurd left
ahead-unchanged u me id (Some request) (Ok (Some done)) old new left = unchanged-call u me id (call.AheadStep request) (outcome.Done (reply.Whole done.whole)) old new left.1 refl
ahead-unchanged u me id (Some request) (Err e) old new left = unchanged-failed u me id (call.AheadStep request) e old new left

pub defer-unchanged : (me id : ℕ) (file : File) (bytes : ℕ) (retrying : Bool) (answered : Result ℕ CcError) (old new : List Entry) → DeferLeft me file bytes retrying answered old new → IsUnchanged me id old new
defer-unchanged me id file bytes retrying (Ok number) old new left = unchanged-only me id _ old new left refl
defer-unchanged me id file bytes retrying (Err error.NotCached) old new left = unchanged-idle me id old new left.idle
defer-unchanged me id file bytes retrying (Err error.QueueFull) old new left = unchanged-idle me id old new left.idle
defer-unchanged me id file bytes retrying (Err (error.JournalFull entries)) old new left = unchanged-idle me id old new left
defer-unchanged me id file bytes retrying (Err error.NoMemory) old new left = unchanged-idle me id old new left
defer-unchanged me id file bytes retrying (Err other) old new left = absurd left

pub post-unchanged : (u : Setup) (me id : ℕ) (answered : Result (Option ℕ) CcError) (old new : List Entry) → PostLeft u me answered old new → IsUnchanged me id old new
post-unchanged u me id (Ok (Some number)) old new left = unchanged-idle me id old new left.idle
post-unchanged u me id (Ok None) old new left = unchanged-idle me id old new left.idle
post-unchanged u me id (Err (error.JournalFull entries)) old new left = unchanged-idle me id old new left
post-unchanged u me id (Err error.NoMemory) old new left = unchanged-idle me id old new left
post-unchanged u me id (Err other) old new left = absurd left

append-refused-unchanged : (u : Setup) (me id handle : ℕ) (e : CcError) (old new : List Entry) → AppendRefused u me handle e old new → IsUnchanged me id old new
append-refused-unchanged u me id handle (error.NoLog missing) old new left = unchanged-idle me id old new left.2
append-refused-unchanged u me id handle (error.LogFull full) old new left = unchanged-idle me id old new left.2
append-refused-unchanged u me id handle (error.LogFault failed) old new left = unchanged-only me id _ old new left.2.1 refl
append-refused-unchanged u me id handle (error.JournalFull entries) old new left = unchanged-idle me id old new left
append-refused-unchanged u me id handle error.NoMemory old new left = unchanged-idle me id old new left
append-refused-unchanged u me id handle other old new left = absurd left

pub append-unchanged : (u : Setup) (me id handle : ℕ) (bytes : List ℕ) (answered : Result ℕ CcError) (old new : List Entry) → AppendLeft u me handle bytes answered old new → IsUnchanged me id old new
append-unchanged u me id handle bytes (Ok lsn) old new left = unchanged-only me id _ old new left.1 refl
append-unchanged u me id handle bytes (Err e) old new left = append-refused-unchanged u me id handle e old new left

flush-refused-unchanged : (u : Setup) (me id handle lsn : ℕ) (e : CcError) (old new : List Entry) → FlushRefused u me handle lsn e old new → IsUnchanged me id old new
flush-refused-unchanged u me id handle lsn (error.NoLog missing) old new left = unchanged-idle me id old new left.2
flush-refused-unchanged u me id handle lsn (error.LogFault failed) old new left = unchanged-only me id _ old new left.2.1 refl
flush-refused-unchanged u me id handle lsn (error.JournalFull entries) old new left = unchanged-idle me id old new left
flush-refused-unchanged u me id handle lsn error.NoMemory old new left = unchanged-idle me id old new left
flush-refused-unchanged u me id handle lsn other old new left = absurd left

pub log_flush-unchanged : {T : Type 0} (u : Setup) (me id handle lsn : ℕ) (answered : Result T CcError) (old new : List Entry) → LogFlushLeft u me handle lsn answered old new → IsUnchanged me id old new
log_flush-unchanged u me id handle lsn (Ok done) old new left = by left.1
  where
    by : PlacedOnly me (entry.Flushed me handle lsn) old new ⊎ WasFlushed me handle lsn old new → IsUnchanged me id old new
    by (inl only) = unchanged-only me id _ old new only refl
    by (inr was) = unchanged-idle me id old new was.idle
log_flush-unchanged u me id handle lsn (Err e) old new left = flush-refused-unchanged u me id handle lsn e old new left

pub levels-unchanged : (levels : ℕ → ℕ) (me id : ℕ) (file : File) (answered : Result ℕ CcError) (old new : List Entry) → LevelsLeft levels me file answered old new → IsUnchanged me id old new
levels-unchanged levels me id file (Ok n) old new left = unchanged-idle me id old new left.idle
levels-unchanged levels me id file (Err error.NotCached) old new left = unchanged-idle me id old new left.idle
levels-unchanged levels me id file (Err error.NoMemory) old new left = unchanged-idle me id old new left
levels-unchanged levels me id file (Err other) old new left = absurd left
