-- What the other calls changed that were refused: the end of a repin, those of logs, deferrals and posts, the writing of pages and ticks,
-- a read-ahead step.
use Rattle.std.specs.Prelude.{ℕ, true, false, List, [], ◌∷◌, ◌++◌, Option, Result, Ok, Err, refl, ◌⊎◌}
use Rattle.std.specs.declared.option.Option.TheVariants.{Some, None}
use Rattle.std.proofs.Common.{sym, subst, inl, inr}
use Rattle.cc_entry.specs.Place.{File, Page}
use Rattle.cc_entry.specs.declared.answer.Tick.{Tick}
use Rattle.cc_entry.specs.declared.call.Call.TheVariants as call
use Rattle.cc_entry.specs.declared.entry.Entry.{Entry}
use Rattle.cc_entry.specs.declared.entry.Entry.TheVariants as entry
use Rattle.cc_entry.specs.declared.error.CcError.{CcError}
use Rattle.cc_entry.specs.declared.error.CcError.TheVariants as error
use Rattle.cc_entry.specs.declared.place.Request.{Request}
use Rattle.cc_entry.specs.declared.reply.Outcome.TheVariants as outcome
use Rattle.cc_entry.specs.declared.reply.Reply.TheVariants as reply
use Rattle.cc_model.specs.Holds.{range_held}
use Rattle.cc_model.specs.Setup.{Setup}
use Rattle.cc_effects.specs.Asked.{Calls, Writes}
use Rattle.cc_effects.specs.Levels.{LevelsLeft}
use Rattle.cc_effects.specs.Licences.{IsEntryOf}
use Rattle.cc_effects.specs.LogCalls.{AppendLeft, AppendRefused, FlushRefused, LogFlushLeft}
use Rattle.cc_effects.specs.Moments.{IsIdle, PlacedOnly}
use Rattle.cc_effects.specs.PageWrites.{HasScanned, PageWrite, PageWriteLeft, TickCutOff, TickLeft}
use Rattle.cc_effects.specs.ReadAhead.{AheadLeft}
use Rattle.cc_effects.specs.Repins.{UnpinLeft}
use Rattle.cc_effects.specs.Throttle.{DeferLeft, PostLeft}
use Rattle.cc_refused_laws.specs.Changed.{ChangedNoFile, ChangedNoFileBut, ChangedNothing, KeepsAll, KeepsFiles}
use Rattle.cc_refused_laws.proofs.Calls.{placed-is, refused-files, steps-keep}
use Rattle.cc_refused_laws.proofs.Entries.{keeps-all-unlocked, keeps-files}
use Rattle.cc_refused_laws.proofs.Steps.{end-not-refused}
use Rattle.cc_refused_laws.proofs.Stretches.{is-entry, is-idle, is-implies, is-only, is-others, is-then, is-works}

-- ---- the end of a repin

abbrev KeptOrEnd : ℕ → List Entry → Entry → Type 0
KeptOrEnd id past e = KeepsFiles past e ⊎ IsEntryOf (call.EndHold id) (outcome.Done reply.Unit) e

pub unpin-files : (u : Setup) (me id : ℕ) (e : CcError) (old new : List Entry) → UnpinLeft u me id true (outcome.Failed e) old new → ChangedNoFileBut me (IsEntryOf (call.EndHold id) (outcome.Done reply.Unit)) old new
unpin-files u me id e old new left =
    is-then me (KeptOrEnd id) old left.0 new
    (placed-is me (KeptOrEnd id) (call.EndHold id) (outcome.Done reply.Unit) left.2.done.earlier old left.0 left.2.done.placed
    (λ past x may. inl (steps-keep me (Calls (call.EndHold id)) old past x may)) (inr (refl, refl)))
    (is-implies me KeepsFiles (KeptOrEnd id) (λ past x is. inl is) left.0 new
    (refused-files u me (call.Flush left.1.file (Some (range_held left.1))) e left.0 new left.3))

pub unpin-alone : (u : Setup) (me id : ℕ) (e : CcError) (old new : List Entry) → UnpinLeft u me id false (outcome.Failed e) old new → ⊥
unpin-alone u me id e old new left = end-not-refused u me id e old new left

-- ---- logs

only-failed : (me handle : ℕ) (old new : List Entry) → PlacedOnly me (entry.LogFailed me handle) old new → ChangedNothing me old new
only-failed me handle old new only = is-only me KeepsAll (entry.LogFailed me handle) old new only (λ past. keeps-all-unlocked (entry.LogFailed me handle) past refl refl)

append-refused : (u : Setup) (me handle : ℕ) (e : CcError) (old new : List Entry) → AppendRefused u me handle e old new → ChangedNothing me old new
append-refused u me handle (error.NoLog missing) old new left = is-idle me KeepsAll old new left.2
append-refused u me handle (error.LogFull full) old new left = is-idle me KeepsAll old new left.2
append-refused u me handle (error.LogFault failed) old new left = only-failed me handle old new left.2.1
append-refused u me handle (error.JournalFull entries) old new left = is-idle me KeepsAll old new left
append-refused u me handle error.NoMemory old new left = is-idle me KeepsAll old new left
append-refused u me handle other old new left = absurd left

pub append-nothing : (u : Setup) (me handle : ℕ) (bytes : List ℕ) (e : CcError) (old new : List Entry) → AppendLeft u me handle bytes (Err e) old new → ChangedNothing me old new
append-nothing u me handle bytes e old new left = append-refused u me handle e old new left

flush-refused : (u : Setup) (me handle lsn : ℕ) (e : CcError) (old new : List Entry) → FlushRefused u me handle lsn e old new → ChangedNothing me old new
flush-refused u me handle lsn (error.NoLog missing) old new left = is-idle me KeepsAll old new left.2
flush-refused u me handle lsn (error.LogFault failed) old new left = only-failed me handle old new left.2.1
flush-refused u me handle lsn (error.JournalFull entries) old new left = is-idle me KeepsAll old new left
flush-refused u me handle lsn error.NoMemory old new left = is-idle me KeepsAll old new left
flush-refused u me handle lsn other old new left = absurd left

pub log_flush-nothing : (u : Setup) (me handle lsn : ℕ) (e : CcError) (old new : List Entry) → LogFlushLeft {T = Unit {0}} u me handle lsn (Err e) old new → ChangedNothing me old new
log_flush-nothing u me handle lsn e old new left = flush-refused u me handle lsn e old new left

-- ---- deferrals, posts, levels

pub defer-idle : (me : ℕ) (file : File) (bytes : ℕ) (retrying : _) (e : CcError) (old new : List Entry) → DeferLeft me file bytes retrying (Err e) old new → IsIdle me old new
defer-idle me file bytes retrying error.NotCached old new left = left.idle
defer-idle me file bytes retrying error.QueueFull old new left = left.idle
defer-idle me file bytes retrying (error.JournalFull entries) old new left = left
defer-idle me file bytes retrying error.NoMemory old new left = left
defer-idle me file bytes retrying other old new left = absurd left

pub post-idle : (u : Setup) (me : ℕ) (e : CcError) (old new : List Entry) → PostLeft u me (Err e) old new → IsIdle me old new
post-idle u me (error.JournalFull entries) old new left = left
post-idle u me error.NoMemory old new left = left
post-idle u me other old new left = absurd left

pub levels-idle : (levels : ℕ → ℕ) (me : ℕ) (file : File) (e : CcError) (old new : List Entry) → LevelsLeft levels me file (Err e) old new → IsIdle me old new
levels-idle levels me file error.NotCached old new left = left.idle
levels-idle levels me file error.NoMemory old new left = left
levels-idle levels me file other old new left = absurd left

-- ---- pages and ticks

pub page_write-files : (me : ℕ) (page : Page) (answered : Result PageWrite CcError) (old new : List Entry) → PageWriteLeft me page answered old new → ChangedNoFile me old new
page_write-files me page (Ok became) old new left =
    subst (λ (l : List Entry). ChangedNoFile me old l) (sym left.grew) (is-works me KeepsFiles (Writes (page ∷ [])) left.during old (steps-keep me (Writes (page ∷ [])) old) left.works)
page_write-files me page (Err (error.JournalFull entries)) old new left =
    subst (λ (l : List Entry). ChangedNoFile me old l) (sym left.grew) (is-works me KeepsFiles (Writes (page ∷ [])) left.during old (steps-keep me (Writes (page ∷ [])) old) left.works)
page_write-files me page (Err error.NoMemory) old new left =
    subst (λ (l : List Entry). ChangedNoFile me old l) (sym left.grew) (is-works me KeepsFiles (Writes (page ∷ [])) left.during old (steps-keep me (Writes (page ∷ [])) old) left.works)
page_write-files me page (Err other) old new left = absurd left

scanned-files : (me : ℕ) (picked : List Page) (during old new : List Entry) → HasScanned me picked during old new → ChangedNoFile me old new
scanned-files me picked during old new has =
    subst (λ (l : List Entry). ChangedNoFile me old l) (sym has.grew)
    (is-then me KeepsFiles old (entry.Scan me picked ∷ (has.before ++ old)) (during ++ (entry.Scan me picked ∷ (has.before ++ old)))
    (is-then me KeepsFiles old (has.before ++ old) (entry.Scan me picked ∷ (has.before ++ old)) (is-others me KeepsFiles has.before old has.quiet) (is-entry me KeepsFiles (entry.Scan me picked) (has.before ++ old) (keeps-files (entry.Scan me picked) (has.before ++ old) refl)))
    (is-works me KeepsFiles (Writes picked) during (entry.Scan me picked ∷ (has.before ++ old)) (steps-keep me (Writes picked) (entry.Scan me picked ∷ (has.before ++ old))) has.works))

cut-tick-files : (me : ℕ) (e : CcError) (old new : List Entry) → TickCutOff me e old new → ChangedNoFile me old new
cut-tick-files me e old new (inl was) = is-idle me KeepsFiles old new was
cut-tick-files me e old new (inr has) = scanned-files me has.0 has.1 old new has.2

pub tick-files : (me : ℕ) (answered : Result Tick CcError) (old new : List Entry) → TickLeft me answered old new → ChangedNoFile me old new
tick-files me (Ok tick) old new left = scanned-files me tick.picked left.during old new left.scanned
tick-files me (Err (error.JournalFull entries)) old new left = cut-tick-files me (error.JournalFull entries) old new left
tick-files me (Err error.NoMemory) old new left = cut-tick-files me error.NoMemory old new left
tick-files me (Err other) old new left = absurd left

-- ---- read-ahead

pub ahead-files : (u : Setup) (me : ℕ) (taken : Option Request) (e : CcError) (old new : List Entry) → AheadLeft u me taken (Err e) old new → ChangedNoFile me old new
ahead-files u me None e old new left = absurd left
ahead-files u me (Some request) e old new left = refused-files u me (call.AheadStep request) e old new left
