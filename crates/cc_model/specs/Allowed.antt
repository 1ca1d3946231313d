-- Allowed journals: which entry may stand where.
use Rattle.std.specs.Prelude.{◌≡◌, ℕ, suc, ◌<◌, Bool, true, false, List, [], ◌∷◌}
use Rattle.std.specs.declared.option.Option.{Option}
use Rattle.std.specs.declared.option.Option.TheVariants.{Some, None}
use Rattle.std.specs.Bool.{OnTrue}
use Rattle.cc_entry.specs.declared.call.Call.{Call}
use Rattle.cc_entry.specs.declared.call.Call.TheVariants as call
use Rattle.cc_entry.specs.declared.error.CcError.{CcError}
use Rattle.cc_entry.specs.declared.error.CcError.TheVariants as error
use Rattle.cc_entry.specs.declared.reply.Outcome.{Outcome}
use Rattle.cc_entry.specs.declared.reply.Outcome.TheVariants as outcome
use Rattle.cc_entry.specs.declared.entry.Entry.{Entry}
use Rattle.cc_entry.specs.declared.entry.Entry.TheVariants as entry
use Rattle.cc_model.specs.Setup.{Setup}
use Rattle.cc_model.specs.History.{history}
use Rattle.cc_model.specs.Acts.{file_of}
use Rattle.cc_model.specs.Holds.{holds_of}
use Rattle.cc_model.specs.Touches.{size_of}
use Rattle.cc_model.specs.Ranges.{range_of, needs_pages}
use Rattle.cc_model.specs.Images.{open_of}
use Rattle.cc_model.specs.Logs.{flushed_to}
use Rattle.cc_model.specs.Covered.{IsNextLsn}
use Rattle.cc_model.specs.Pick.{pick}
use Rattle.cc_model.specs.Throttle.{queue}
use Rattle.cc_model.specs.Passes.{calls_of}
use Rattle.cc_model.specs.Legal.{stream_history, IsFailure}
use Rattle.cc_model.specs.Conditions.{MayComeIn, MayGoOut, MayBegin, MayDefer, MayPost, IsFilled, IsReadyIn}
use Rattle.cc_model.specs.Filing.{IsFiled}
use Rattle.cc_model.specs.Records.{MayRecord}
use Rattle.cc_model.specs.Locks.{locks_of, conflict_of}
use Rattle.cc_entry.specs.Locks.{IsAnswered}
use Rattle.cc_entry.specs.declared.lock.LockCall.TheVariants as lock_call

-- whether a refusal is a fault of a device or a log
abbrev pub is_fault : CcError → Bool
is_fault (error.ReadFault page) = true
is_fault (error.WriteFault page) = true
is_fault (error.LogFault handle) = true
is_fault other = false

-- a done call has its pages resident, and a fault its cause
abbrev pub MayEnd : Setup → List Entry → ℕ → Option ℕ → Call → Outcome → Type 0
MayEnd u past pass stream call (outcome.Done r) =
    OnTrue (needs_pages call r) (IsFilled (stream_history past stream) (range_of (size_of (stream_history past stream)) call))
    × IsReadyIn past pass stream call
MayEnd u past pass stream call (outcome.Failed e) = OnTrue (is_fault e) (IsFailure u past pass stream call e)

-- a call may stand: its number is the next of its pass, it is filed where it belongs, and it may end so
pub record MayCall (u : Setup) (past : List Entry) (pass nth : ℕ) (stream : Option ℕ) (call : Call) (ended : Outcome) : Type 0 where
  pub number : nth ≡ suc (calls_of past pass)
  pub filed : IsFiled (holds_of (stream_history past stream)) pass stream call (file_of call)
  pub may_end : MayEnd u past pass stream call ended

-- which entry may stand after a past, but for what a store asks of the entry after it
abbrev pub MayStand : Setup → List Entry → Entry → Type 0
MayStand u past (entry.Call pass nth stream call ended) = MayCall u past pass nth stream call ended
MayStand u past (entry.PageIn pass page from_disk) = MayComeIn (history past page.stream) page.page from_disk
MayStand u past (entry.PageOut pass page) = MayGoOut (history past page.stream) page.page
MayStand u past (entry.FillFailed pass page) = Unit {0}
MayStand u past (entry.WriteBegin pass page) = MayBegin past page.stream page.page
MayStand u past (entry.WriteEnd pass page how) =
    open_of (history past page.stream) ≡ Some (record { pass = pass; page = page.page })
MayStand u past (entry.Sync pass stream how) = open_of (history past stream) ≡ None
MayStand u past (entry.Append pass handle lsn bytes) = IsNextLsn past handle lsn
MayStand u past (entry.Flushed pass handle to) = flushed_to past handle < to
MayStand u past (entry.LogFailed pass handle) = Unit {0}
MayStand u past (entry.Defer pass id file pages retrying) = MayDefer past id file
MayStand u past (entry.Posted id) = MayPost u past id (queue past)
MayStand u past (entry.Scan pass picked) = picked ≡ pick u past
MayStand u past (entry.Record pass stream size valid how) = MayRecord (history past stream) size valid
MayStand u past (entry.RecordFailed pass stream) = Unit {0}
MayStand u past (entry.Locked pass file span exclusive granted id) =
    IsAnswered (locks_of past file.stream) (lock_call.Lock file span exclusive granted id)
MayStand u past (entry.Unlocked pass file id gone) = IsAnswered (locks_of past file.stream) (lock_call.Unlock file id gone)
MayStand u past (entry.Tested pass file span write conflict) =
    conflict ≡ conflict_of (locks_of past file.stream).locks write file span

-- the begin that has to follow a done noncached store at once
abbrev pub begin_after : ℕ → Option ℕ → Call → Outcome → Option Entry
begin_after pass (Some s) (call.NcStore file page bytes) (outcome.Done reply) =
    Some (entry.WriteBegin pass (record { stream = s; page = page }))
begin_after pass stream other ended = None

abbrev pub owed_begin : List Entry → Option Entry
owed_begin [] = None
owed_begin (entry.Call pass nth stream call ended ∷ past) = begin_after pass stream call ended
owed_begin (other ∷ past) = None

-- an entry is the one that is owed, where one is
abbrev pub IsOwed : Option Entry → Entry → Type 0
IsOwed None e = Unit {0}
IsOwed (Some owed) e = e ≡ owed

-- whether each entry may stand where it does; a done store may be the last
unfoldable pub IsAllowedSoFar : Setup → List Entry → Type 0
IsAllowedSoFar u [] = Unit {0}
IsAllowedSoFar u (e ∷ past) = IsOwed (owed_begin past) e × MayStand u past e × IsAllowedSoFar u past

-- whether a journal is allowed: each entry may stand, and a store has its begin
unfoldable pub IsAllowed : Setup → List Entry → Type 0
IsAllowed u past = IsAllowedSoFar u past × (owed_begin past ≡ None)
