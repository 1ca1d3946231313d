-- The same for the calls without an entry: logs, deferrals and posts, pages and ticks, read-ahead, levels.
use Rattle.std.specs.Prelude.{◌≡◌, ℕ, ◌≤◌, ◌<◌, ◌^◌, Bool, true, false, List, ◌∷◌, ◌++◌, length, Option, Result, Ok, Err, ◌⊎◌}
use Rattle.std.specs.declared.option.Option.TheVariants.{Some, None}
use Rattle.std.proofs.Common.{ap, ◌∙◌, inl, inr}
use Rattle.cc_entry.specs.Place.{File}
use Rattle.cc_entry.specs.declared.answer.AheadDone.{AheadDone}
use Rattle.cc_entry.specs.declared.place.Request.{Request}
use Rattle.cc_entry.specs.declared.error.CcError.{CcError}
use Rattle.cc_entry.specs.declared.error.CcError.TheVariants as error
use Rattle.cc_entry.specs.declared.call.Call.TheVariants as call
use Rattle.cc_entry.specs.declared.reply.Reply.TheVariants as reply
use Rattle.cc_entry.specs.declared.reply.Outcome.TheVariants as outcome
use Rattle.cc_entry.specs.declared.entry.Entry.{Entry}
use Rattle.cc_entry.specs.declared.entry.Entry.TheVariants as entry
use Rattle.cc_model.specs.Setup.{Setup}
use Rattle.cc_model.specs.History.{history}
use Rattle.cc_model.specs.Logs.{flushed_to, floor_of}
use Rattle.cc_model.specs.Touches.{size_of}
use Rattle.cc_model.specs.Throttle.{queue}
use Rattle.cc_model.specs.Reasons.{is_open}
use Rattle.cc_effects.specs.Moments.{IsIdle, PlacedOnly, AtSome}
use Rattle.cc_effects.specs.LogCalls.{AppendRefused, AppendLeft, WasFlushed, FlushRefused, LogFlushLeft}
use Rattle.cc_effects.specs.Throttle.{WasNotCached, DeferLeft, MayNotPost, PostLeft}
use Rattle.cc_effects.specs.ReadAhead.{AheadLeft}
use Rattle.cc_effects.specs.Levels.{LevelsLeft}
use Rattle.cc_effects.proofs.Stretches.{idle-then, only-after, only-before, grew-after, grew-before, some-after, some-before}
use Rattle.cc_effects.proofs.CallSteps.{left-after, left-before}

-- a moment of a stretch is one of each longer stretch
at-after : (Holds : List Entry → Type 0) (me : ℕ) (old new newer : List Entry) → AtSome Holds old new → IsIdle me new newer → AtSome Holds old newer
at-after Holds me old new newer some idle = rw idle.grew (some-after Holds old new idle.during some)

at-before : (Holds : List Entry → Type 0) (me : ℕ) (older old new : List Entry) → IsIdle me older old → AtSome Holds old new → AtSome Holds older new
at-before Holds me older old new idle some = some-before Holds older idle.during new (rw idle.grew at some)

append-refused-after : (u : Setup) (me handle : ℕ) (e : CcError) (old new newer : List Entry) → AppendRefused u me handle e old new → IsIdle me new newer → AppendRefused u me handle e old newer
append-refused-after u me handle (error.NoLog missing) old new newer left idle = (left.0, left.1, idle-then me old new newer left.2 idle)
append-refused-after u me handle (error.LogFull full) old new newer left idle =
    (left.0, at-after (λ moment. floor_of moment handle ≡ 2 ^ 62) me old new newer left.1 idle, idle-then me old new newer left.2 idle)
append-refused-after u me handle (error.LogFault failed) old new newer left idle =
    (left.0, at-after (λ moment. floor_of moment handle < 2 ^ 62) me old new newer left.1 idle, (left.2.0, only-after me _ old new newer left.2.1 idle))
append-refused-after u me handle (error.JournalFull entries) old new newer left idle = idle-then me old new newer left idle
append-refused-after u me handle error.NoMemory old new newer left idle = idle-then me old new newer left idle
append-refused-after u me handle other old new newer left idle = absurd left

append-refused-before : (u : Setup) (me handle : ℕ) (e : CcError) (older old new : List Entry) → IsIdle me older old → AppendRefused u me handle e old new → AppendRefused u me handle e older new
append-refused-before u me handle (error.NoLog missing) older old new idle left = (left.0, left.1, idle-then me older old new idle left.2)
append-refused-before u me handle (error.LogFull full) older old new idle left =
    (left.0, at-before (λ moment. floor_of moment handle ≡ 2 ^ 62) me older old new idle left.1, idle-then me older old new idle left.2)
append-refused-before u me handle (error.LogFault failed) older old new idle left =
    (left.0, at-before (λ moment. floor_of moment handle < 2 ^ 62) me older old new idle left.1, (left.2.0, only-before me _ older old new idle left.2.1))
append-refused-before u me handle (error.JournalFull entries) older old new idle left = idle-then me older old new idle left
append-refused-before u me handle error.NoMemory older old new idle left = idle-then me older old new idle left
append-refused-before u me handle other older old new idle left = absurd left

pub append-after : (u : Setup) (me handle : ℕ) (bytes : List ℕ) (answered : Result ℕ CcError) (old new newer : List Entry) → AppendLeft u me handle bytes answered old new → IsIdle me new newer → AppendLeft u me handle bytes answered old newer
append-after u me handle bytes (Ok lsn) old new newer left idle = (left.0, only-after me _ old new newer left.1 idle)
append-after u me handle bytes (Err e) old new newer left idle = append-refused-after u me handle e old new newer left idle

pub append-before : (u : Setup) (me handle : ℕ) (bytes : List ℕ) (answered : Result ℕ CcError) (older old new : List Entry) → IsIdle me older old → AppendLeft u me handle bytes answered old new → AppendLeft u me handle bytes answered older new
append-before u me handle bytes (Ok lsn) older old new idle left = (left.0, only-before me _ older old new idle left.1)
append-before u me handle bytes (Err e) older old new idle left = append-refused-before u me handle e older old new idle left

flush-refused-after : (u : Setup) (me handle lsn : ℕ) (e : CcError) (old new newer : List Entry) → FlushRefused u me handle lsn e old new → IsIdle me new newer → FlushRefused u me handle lsn e old newer
flush-refused-after u me handle lsn (error.NoLog missing) old new newer left idle = (left.0, left.1, idle-then me old new newer left.2 idle)
flush-refused-after u me handle lsn (error.LogFault failed) old new newer left idle =
    (left.0, at-after (λ moment. flushed_to moment handle < lsn) me old new newer left.1 idle, (left.2.0, only-after me _ old new newer left.2.1 idle))
flush-refused-after u me handle lsn (error.JournalFull entries) old new newer left idle = idle-then me old new newer left idle
flush-refused-after u me handle lsn error.NoMemory old new newer left idle = idle-then me old new newer left idle
flush-refused-after u me handle lsn other old new newer left idle = absurd left

flush-refused-before : (u : Setup) (me handle lsn : ℕ) (e : CcError) (older old new : List Entry) → IsIdle me older old → FlushRefused u me handle lsn e old new → FlushRefused u me handle lsn e older new
flush-refused-before u me handle lsn (error.NoLog missing) older old new idle left = (left.0, left.1, idle-then me older old new idle left.2)
flush-refused-before u me handle lsn (error.LogFault failed) older old new idle left =
    (left.0, at-before (λ moment. flushed_to moment handle < lsn) me older old new idle left.1, (left.2.0, only-before me _ older old new idle left.2.1))
flush-refused-before u me handle lsn (error.JournalFull entries) older old new idle left = idle-then me older old new idle left
flush-refused-before u me handle lsn error.NoMemory older old new idle left = idle-then me older old new idle left
flush-refused-before u me handle lsn other older old new idle left = absurd left

pub log-flush-after : {T : Type 0} (u : Setup) (me handle lsn : ℕ) (answered : Result T CcError) (old new newer : List Entry) → LogFlushLeft u me handle lsn answered old new → IsIdle me new newer → LogFlushLeft u me handle lsn answered old newer
log-flush-after u me handle lsn (Ok done) old new newer left idle = (left.0, by left.1)
  where
    by : PlacedOnly me (entry.Flushed me handle lsn) old new ⊎ WasFlushed me handle lsn old new → PlacedOnly me (entry.Flushed me handle lsn) old newer ⊎ WasFlushed me handle lsn old newer
    by (inl only) = inl (only-after me _ old new newer only idle)
    by (inr was) = inr (record { idle = idle-then me old new newer was.idle idle; reached = at-after (λ moment. lsn ≤ flushed_to moment handle) me old new newer was.reached idle })
log-flush-after u me handle lsn (Err e) old new newer left idle = flush-refused-after u me handle lsn e old new newer left idle

pub log-flush-before : {T : Type 0} (u : Setup) (me handle lsn : ℕ) (answered : Result T CcError) (older old new : List Entry) → IsIdle me older old → LogFlushLeft u me handle lsn answered old new → LogFlushLeft u me handle lsn answered older new
log-flush-before u me handle lsn (Ok done) older old new idle left = (left.0, by left.1)
  where
    by : PlacedOnly me (entry.Flushed me handle lsn) old new ⊎ WasFlushed me handle lsn old new → PlacedOnly me (entry.Flushed me handle lsn) older new ⊎ WasFlushed me handle lsn older new
    by (inl only) = inl (only-before me _ older old new idle only)
    by (inr was) = inr (record { idle = idle-then me older old new idle was.idle; reached = at-before (λ moment. lsn ≤ flushed_to moment handle) me older old new idle was.reached })
log-flush-before u me handle lsn (Err e) older old new idle left = flush-refused-before u me handle lsn e older old new idle left

closed-after : (me : ℕ) (file : File) (old new newer : List Entry) → WasNotCached me file old new → IsIdle me new newer → WasNotCached me file old newer
closed-after me file old new newer left idle = record {
  idle = idle-then me old new newer left.idle idle;
  closed = at-after (λ moment. is_open (history moment file.stream) file ≡ false) me old new newer left.closed idle;
}

closed-before : (me : ℕ) (file : File) (older old new : List Entry) → IsIdle me older old → WasNotCached me file old new → WasNotCached me file older new
closed-before me file older old new idle left = record {
  idle = idle-then me older old new idle left.idle;
  closed = at-before (λ moment. is_open (history moment file.stream) file ≡ false) me older old new idle left.closed;
}

pub defer-after : (me : ℕ) (file : File) (bytes : ℕ) (retrying : Bool) (answered : Result ℕ CcError) (old new newer : List Entry) → DeferLeft me file bytes retrying answered old new → IsIdle me new newer → DeferLeft me file bytes retrying answered old newer
defer-after me file bytes retrying (Ok id) old new newer left idle = only-after me _ old new newer left idle
defer-after me file bytes retrying (Err error.NotCached) old new newer left idle = closed-after me file old new newer left idle
defer-after me file bytes retrying (Err error.QueueFull) old new newer left idle = record {
  idle = idle-then me old new newer left.idle idle;
  full = at-after (λ moment. (is_open (history moment file.stream) file ≡ true) × (64 ≤ length (queue moment))) me old new newer left.full idle;
}
defer-after me file bytes retrying (Err (error.JournalFull entries)) old new newer left idle = idle-then me old new newer left idle
defer-after me file bytes retrying (Err error.NoMemory) old new newer left idle = idle-then me old new newer left idle
defer-after me file bytes retrying (Err other) old new newer left idle = absurd left

pub defer-before : (me : ℕ) (file : File) (bytes : ℕ) (retrying : Bool) (answered : Result ℕ CcError) (older old new : List Entry) → IsIdle me older old → DeferLeft me file bytes retrying answered old new → DeferLeft me file bytes retrying answered older new
defer-before me file bytes retrying (Ok id) older old new idle left = only-before me _ older old new idle left
defer-before me file bytes retrying (Err error.NotCached) older old new idle left = closed-before me file older old new idle left
defer-before me file bytes retrying (Err error.QueueFull) older old new idle left = record {
  idle = idle-then me older old new idle left.idle;
  full = at-before (λ moment. (is_open (history moment file.stream) file ≡ true) × (64 ≤ length (queue moment))) me older old new idle left.full;
}
defer-before me file bytes retrying (Err (error.JournalFull entries)) older old new idle left = idle-then me older old new idle left
defer-before me file bytes retrying (Err error.NoMemory) older old new idle left = idle-then me older old new idle left
defer-before me file bytes retrying (Err other) older old new idle left = absurd left

pub post-after : (u : Setup) (me : ℕ) (answered : Result (Option ℕ) CcError) (old new newer : List Entry) → PostLeft u me answered old new → IsIdle me new newer → PostLeft u me answered old newer
post-after u me (Ok (Some id)) old new newer left idle = record {
  idle = idle-then me old new newer left.idle idle;
  later = idle.during ++ left.later;
  earlier = left.earlier;
  grew = grew-after idle.during left.later (entry.Posted id ∷ (left.earlier ++ old)) new newer idle.grew left.grew;
}
post-after u me (Ok None) old new newer left idle = record {
  idle = idle-then me old new newer left.idle idle;
  nothing = at-after (λ moment. MayNotPost u moment (queue moment)) me old new newer left.nothing idle;
}
post-after u me (Err (error.JournalFull entries)) old new newer left idle = idle-then me old new newer left idle
post-after u me (Err error.NoMemory) old new newer left idle = idle-then me old new newer left idle
post-after u me (Err other) old new newer left idle = absurd left

pub post-before : (u : Setup) (me : ℕ) (answered : Result (Option ℕ) CcError) (older old new : List Entry) → IsIdle me older old → PostLeft u me answered old new → PostLeft u me answered older new
post-before u me (Ok (Some id)) older old new idle left = record {
  idle = idle-then me older old new idle left.idle;
  later = left.later;
  earlier = left.earlier ++ idle.during;
  grew = let behind : left.later ++ (entry.Posted id ∷ (left.earlier ++ old)) ≡ left.later ++ (entry.Posted id ∷ ((left.earlier ++ idle.during) ++ older)) = ap (λ l. left.later ++ (entry.Posted id ∷ l)) (grew-before left.earlier idle.during older old idle.grew) in left.grew ∙ behind;
}
post-before u me (Ok None) older old new idle left = record {
  idle = idle-then me older old new idle left.idle;
  nothing = at-before (λ moment. MayNotPost u moment (queue moment)) me older old new idle left.nothing;
}
post-before u me (Err (error.JournalFull entries)) older old new idle left = idle-then me older old new idle left
post-before u me (Err error.NoMemory) older old new idle left = idle-then me older old new idle left
post-before u me (Err other) older old new idle left = absurd left

pub levels-after : (levels : ℕ → ℕ) (me : ℕ) (file : File) (answered : Result ℕ CcError) (old new newer : List Entry) → LevelsLeft levels me file answered old new → IsIdle me new newer → LevelsLeft levels me file answered old newer
levels-after levels me file (Ok n) old new newer left idle = record {
  idle = idle-then me old new newer left.idle idle;
  had = at-after (λ moment. (is_open (history moment file.stream) file ≡ true) × (n ≡ levels (size_of (history moment file.stream)))) me old new newer left.had idle;
}
levels-after levels me file (Err error.NotCached) old new newer left idle = closed-after me file old new newer left idle
levels-after levels me file (Err error.NoMemory) old new newer left idle = idle-then me old new newer left idle
levels-after levels me file (Err other) old new newer left idle = absurd left

pub levels-before : (levels : ℕ → ℕ) (me : ℕ) (file : File) (answered : Result ℕ CcError) (older old new : List Entry) → IsIdle me older old → LevelsLeft levels me file answered old new → LevelsLeft levels me file answered older new
levels-before levels me file (Ok n) older old new idle left = record {
  idle = idle-then me older old new idle left.idle;
  had = at-before (λ moment. (is_open (history moment file.stream) file ≡ true) × (n ≡ levels (size_of (history moment file.stream)))) me older old new idle left.had;
}
levels-before levels me file (Err error.NotCached) older old new idle left = closed-before me file older old new idle left
levels-before levels me file (Err error.NoMemory) older old new idle left = idle-then me older old new idle left
levels-before levels me file (Err other) older old new idle left = absurd left

pub ahead-after : (u : Setup) (me : ℕ) (taken : Option Request) (answered : Result (Option AheadDone) CcError) (old new newer : List Entry) → AheadLeft u me taken answered old new → IsIdle me new newer → AheadLeft u me taken answered old newer
ahead-after u me None (Ok None) old new newer left idle = idle-then me old new newer left idle
ahead-after u me None (Ok (Some done)) old new newer left idle = absurd left
ahead-after u me None (Err e) old new newer left idle = absurd left
ahead-after u me (Some request) (Ok None) old new newer left idle = absurd left
ahead-after u me (Some request) (Ok (Some done)) old new newer left idle = (left.0, left-after u me (call.AheadStep request) (outcome.Done (reply.Whole done.whole)) old new newer left.1 idle)
ahead-after u me (Some request) (Err e) old new newer left idle = left-after u me (call.AheadStep request) (outcome.Failed e) old new newer left idle

pub ahead-before : (u : Setup) (me : ℕ) (taken : Option Request) (answered : Result (Option AheadDone) CcError) (older old new : List Entry) → IsIdle me older old → AheadLeft u me taken answered old new → AheadLeft u me taken answered older new
ahead-before u me None (Ok None) older old new idle left = idle-then me older old new idle left
ahead-before u me None (Ok (Some done)) older old new idle left = absurd left
ahead-before u me None (Err e) older old new idle left = absurd left
ahead-before u me (Some request) (Ok None) older old new idle left = absurd left
ahead-before u me (Some request) (Ok (Some done)) older old new idle left = (left.0, left-before u me (call.AheadStep request) (outcome.Done (reply.Whole done.whole)) older old new idle left.1)
ahead-before u me (Some request) (Err e) older old new idle left = left-before u me (call.AheadStep request) (outcome.Failed e) older old new idle left
