-- When an event may happen, what it asks, and what it places by what it is replied.
use Rattle.std.specs.Prelude.{◌≡◌, ℕ, suc, ◌*◌, ◌^◌, ◌<◌, ◌≤◌, ◌⊎◌, Bool, true, false, is_some, nat_le, nat_lt, List, [], ◌∷◌, length, if◌then◌else◌}
use Rattle.std.specs.declared.option.Option.{Option}
use Rattle.std.specs.declared.option.Option.TheVariants.{Some, None}
use Rattle.std.specs.List.{find, range_with_len}
use Rattle.cc_entry.specs.Place.{File, Page}
use Rattle.cc_entry.specs.declared.call.Call.{Call}
use Rattle.cc_entry.specs.declared.call.Call.TheVariants as call
use Rattle.cc_entry.specs.declared.entry.End.{End}
use Rattle.cc_entry.specs.declared.entry.End.TheVariants as how
use Rattle.cc_entry.specs.declared.entry.Entry.{Entry}
use Rattle.cc_entry.specs.declared.entry.Entry.TheVariants as entry
use Rattle.cc_entry.specs.declared.error.CcError.{CcError}
use Rattle.cc_entry.specs.declared.error.CcError.TheVariants as error
use Rattle.cc_entry.specs.declared.hold.Deferral.{Deferral}
use Rattle.cc_entry.specs.declared.reply.Outcome.{Outcome}
use Rattle.cc_entry.specs.declared.reply.Outcome.TheVariants as outcome
use Rattle.cc_entry.specs.declared.reply.Reply.{Reply}
use Rattle.cc_entry.specs.declared.reply.Reply.TheVariants as reply
use Rattle.cc_model.specs.Acts.{file_of}
use Rattle.cc_model.specs.Allowed.{MayEnd, MayStand}
use Rattle.cc_model.specs.Faults.{Fault, ReadFailed, WriteFailed, SyncFailed, LogFailed, faults_since, oldest}
use Rattle.cc_model.specs.Filing.{IsFiled}
use Rattle.cc_model.specs.History.{history}
use Rattle.cc_model.specs.Holds.{Hold, hold_at, holds_of}
use Rattle.cc_model.specs.Images.{Transfer, open_of}
use Rattle.cc_model.specs.Legal.{ends_own_store, stream_history, stream_opening}
use Rattle.cc_model.specs.Logs.{floor_of, flushed_to}
use Rattle.cc_model.specs.Passes.{calls_of}
use Rattle.cc_model.specs.Pick.{pick}
use Rattle.cc_model.specs.Ranges.{first_page}
use Rattle.cc_model.specs.Reasons.{is_open}
use Rattle.cc_model.specs.Refusals.{refusal}
use Rattle.cc_model.specs.Replies.{IsReply}
use Rattle.cc_model.specs.Room.{places_asked}
use Rattle.cc_model.specs.Setup.{Setup}
use Rattle.cc_model.specs.Throttle.{deferred, may_go, pages_for, queue}
use Rattle.cc_model.specs.Touches.{size_of, valid_of}
use Rattle.cc_effects.specs.declared.events.Event.{Event}
use Rattle.cc_effects.specs.declared.events.Event.TheVariants as event
use Rattle.cc_effects.specs.declared.events.StepReply.{StepReply}
use Rattle.cc_effects.specs.declared.events.StepReply.TheVariants as step

-- the entry of a page that comes in: from the disk where it has a byte below the valid data length
abbrev pub page_in_entry : List Entry → ℕ → Page → Entry
page_in_entry past pass page = entry.PageIn pass page (nat_lt (4096 * page.page) (valid_of (history past page.stream)))

-- the pass that began a transfer, where there is one
abbrev pub beginner : Option Transfer → ℕ
beginner None = 0
beginner (Some transfer) = transfer.pass

-- the end of a page's transfer, by the pass that began it
abbrev pub write_end : List Entry → Page → End → Entry
write_end past page how = entry.WriteEnd (beginner (open_of (history past page.stream))) page how

-- The first stream in whose history a hold is open. There are at most 16 streams.
abbrev pub holder_of : List Entry → ℕ → Option ℕ
holder_of past hold = find (λ s. is_some (hold_at (holds_of (history past s)) hold)) (range_with_len 0 16)

-- Under which stream a call is filed: that of the file that it names, or else that of its hold, where it is open. A
-- query that names no file is filed under none.
abbrev pub filed_under : List Entry → Call → Option ℕ
filed_under past (call.PinMapped hold exclusive) = holder_of past hold
filed_under past (call.MappedRead hold at len) = holder_of past hold
filed_under past (call.PinnedRead hold at len) = holder_of past hold
filed_under past (call.PinnedWrite hold at bytes) = holder_of past hold
filed_under past (call.SetDirty hold lsn) = holder_of past hold
filed_under past (call.EndHold hold) = holder_of past hold
filed_under past (call.Repin hold) = holder_of past hold
filed_under past (call.MdlBytes hold at len) = holder_of past hold
filed_under past (call.MdlStore hold at bytes) = holder_of past hold
filed_under past it = stream_of (file_of it)
  where
    stream_of : Option File → Option ℕ
    stream_of None = None
    stream_of (Some file) = Some file.stream

-- the entry of a pass's next call, that ended so
abbrev pub call_entry : List Entry → ℕ → Call → Outcome → Entry
call_entry past pass it ended = entry.Call pass (suc (calls_of past pass)) (filed_under past it) it ended

-- Why a call is refused: the first reason that holds. The end of a noncached write passed its tests at its store.
abbrev pub reason_of : Setup → List Entry → Call → Option CcError
reason_of u past (call.NcWrite file page) = None
reason_of u past it = refusal u past (stream_history past (filed_under past it)) it

-- A call may end now: it is refused, or else there is a reply with which its entry may stand.
abbrev pub CanEnd : Setup → List Entry → ℕ → Call → Option CcError → Type 0
CanEnd u past pass it (Some e) = Unit {0}
CanEnd u past pass it None =
    (r : Reply) × IsReply u past (stream_opening u (filed_under past it)) (stream_history past (filed_under past it)) pass it r
    × MayEnd u past pass (filed_under past it) it (outcome.Done r)

-- A call may be made now: it names a file, or an open hold of its pass, of its kind and with its range; and it may end.
pub record MayDo (u : Setup) (past : List Entry) (pass : ℕ) (it : Call) : Type 0 where
  pub filed : IsFiled (holds_of (stream_history past (filed_under past it))) pass (filed_under past it) it (file_of it)
  pub can_end : CanEnd u past pass it (reason_of u past it)

-- the error by which a call tells a fault; a failed sync names the first page of the call's range
abbrev pub error_of : Call → Fault → CcError
error_of it (ReadFailed page) = error.ReadFault page
error_of it (WriteFailed page) = error.WriteFault page
error_of it SyncFailed = error.WriteFault (first_page it)
error_of it (LogFailed handle) = error.LogFault handle

-- the entry of a call that tells the oldest fault that befell its pass since its last call, where one did
abbrev pub told_entry : List Entry → ℕ → Call → Option Fault → Option Entry
told_entry past pass it None = None
told_entry past pass it (Some fault) = Some (call_entry past pass it (outcome.Failed (error_of it fault)))

abbrev pub fault_told : List Entry → ℕ → Call → Option Entry
fault_told past pass it = told_entry past pass it (oldest (faults_since past pass))

-- an entry that there is may stand
abbrev pub MayStandIf : Setup → List Entry → Option Entry → Type 0
MayStandIf u past None = ⊥
MayStandIf u past (Some e) = MayStand u past e

-- An event may happen where the law lets the entry stand that it would place. That of a page that goes out is of pass 1,
-- and that of a transfer's end is of the pass that began it. The events of a log, and a scan, a deferral and a post, may
-- always happen.
abbrev pub MayHappen : {Q : Type 0} → Setup → List Entry → Event Q → Type 0
MayHappen u past (event.Fill pass page) = MayStand u past (page_in_entry past pass page)
MayHappen u past (event.Drop page) = MayStand u past (entry.PageOut 1 page)
MayHappen u past (event.WriteBegin pass page) = MayStand u past (entry.WriteBegin pass page)
MayHappen u past (event.WriteEnd page) = MayStand u past (write_end past page how.Good)
MayHappen u past (event.Sync pass stream) = MayStand u past (entry.Sync pass stream how.Good)
MayHappen u past (event.Do pass it) = MayDo u past pass it
MayHappen u past (event.Fail pass it) = MayStandIf u past (fault_told past pass it)
MayHappen u past (event.Append pass handle bytes) = Unit {0}
MayHappen u past (event.LogFlush pass handle to) = Unit {0}
MayHappen u past (event.Scan pass) = Unit {0}
MayHappen u past (event.Defer pass file bytes retrying routine) = Unit {0}
MayHappen u past (event.Post pass) = Unit {0}

-- where an event happens
pub data Where : Type 0 where
  OnStream : (stream : ℕ) → Where
  OnLog : (handle : ℕ) → Where
  OnJournal : Where
  Nowhere : Where

abbrev pub place_on : Option ℕ → Where
place_on None = OnJournal
place_on (Some s) = OnStream s

abbrev pub log_place : Setup → ℕ → Where
log_place u handle = if nat_lt handle u.logs then OnLog handle else Nowhere

abbrev pub place_of_event : {Q : Type 0} → Setup → List Entry → Event Q → Where
place_of_event u past (event.Fill pass page) = OnStream page.stream
place_of_event u past (event.Drop page) = OnStream page.stream
place_of_event u past (event.WriteBegin pass page) = OnStream page.stream
place_of_event u past (event.WriteEnd page) = OnStream page.stream
place_of_event u past (event.Sync pass stream) = OnStream stream
place_of_event u past (event.Do pass it) = place_on (filed_under past it)
place_of_event u past (event.Fail pass it) = place_on (filed_under past it)
place_of_event u past (event.Append pass handle bytes) = log_place u handle
place_of_event u past (event.LogFlush pass handle to) = log_place u handle
place_of_event u past (event.Scan pass) = OnJournal
place_of_event u past (event.Defer pass file bytes retrying routine) = OnJournal
place_of_event u past (event.Post pass) = OnJournal

-- whether there is the stream that an event names; a log that there is not is told
abbrev pub NamesOf : ℕ → Option File → Type 0
NamesOf disks None = Unit {0}
NamesOf disks (Some file) = file.stream < disks

abbrev pub IsKnown : {Q : Type 0} → ℕ → Event Q → Type 0
IsKnown disks (event.Fill pass page) = page.stream < disks
IsKnown disks (event.Drop page) = page.stream < disks
IsKnown disks (event.WriteBegin pass page) = page.stream < disks
IsKnown disks (event.WriteEnd page) = page.stream < disks
IsKnown disks (event.Sync pass stream) = stream < disks
IsKnown disks (event.Do pass it) = NamesOf disks (file_of it)
IsKnown disks (event.Fail pass it) = NamesOf disks (file_of it)
IsKnown disks (event.Append pass handle bytes) = Unit {0}
IsKnown disks (event.LogFlush pass handle to) = Unit {0}
IsKnown disks (event.Scan pass) = Unit {0}
IsKnown disks (event.Defer pass file bytes retrying routine) = file.stream < disks
IsKnown disks (event.Post pass) = Unit {0}

-- the routine of a deferral was not posted
abbrev pub IsUnposted : {Q : Type 0} → (Q → Bool) → Event Q → Type 0
IsUnposted posted (event.Defer pass file bytes retrying routine) = posted routine ≡ false
IsUnposted posted other = Unit {0}

-- How many places of the journal a call asks that nothing refuses: as its step asks; a noncached store asks that of its
-- begin and those of both ends too; and the end of a noncached write has its place.
abbrev pub asked_done : List Hold → Call → ℕ
asked_done holds (call.NcStore file page bytes) = 4
asked_done holds it = places_asked holds it

abbrev pub asked_for : List Entry → ℕ → Call → Option CcError → ℕ
asked_for past pass it (Some e) = 1
asked_for past pass it None =
    if ends_own_store past pass (filed_under past it) it then 0
    else asked_done (holds_of (stream_history past (filed_under past it))) it

-- a call that tells a fault asks the place of its entry, which the end of a noncached write has
abbrev pub asked_to_fail : List Entry → ℕ → Call → ℕ
asked_to_fail past pass it = if ends_own_store past pass (filed_under past it) it then 0 else 1

-- whether the head of the queue may be posted
abbrev pub goes_first : Setup → List Entry → List Deferral → Bool
goes_first u past [] = false
goes_first u past (head ∷ rest) = may_go u past head.file.stream head.pages

-- How many places of the journal an event asks. A flush of a log that reached the LSN, and a post of nothing, ask none.
abbrev pub asked_by_event : {Q : Type 0} → Setup → List Entry → Event Q → ℕ
asked_by_event u past (event.Fill pass page) = 1
asked_by_event u past (event.Drop page) = 1
asked_by_event u past (event.WriteBegin pass page) = 2
asked_by_event u past (event.WriteEnd page) = 0
asked_by_event u past (event.Sync pass stream) = 1
asked_by_event u past (event.Do pass it) = asked_for past pass it (reason_of u past it)
asked_by_event u past (event.Fail pass it) = asked_to_fail past pass it
asked_by_event u past (event.Append pass handle bytes) = 1
asked_by_event u past (event.LogFlush pass handle to) = if nat_le to (flushed_to past handle) then 0 else 1
asked_by_event u past (event.Scan pass) = 1
asked_by_event u past (event.Defer pass file bytes retrying routine) = 1
asked_by_event u past (event.Post pass) = if goes_first u past (queue past) then 1 else 0

-- what a done call places: its entry, and behind that of a noncached store the begin of the page's transfer
abbrev pub entries_done : List Entry → ℕ → Call → Reply → List Entry
entries_done past pass (call.NcStore file page bytes) r =
    entry.WriteBegin pass (record { stream = file.stream; page = page })
    ∷ call_entry past pass (call.NcStore file page bytes) (outcome.Done r) ∷ []
entries_done past pass it r = call_entry past pass it (outcome.Done r) ∷ []

-- What was placed by an event, by what it was replied. A refusal for want of room or of memory, and a fault, are said
-- apart.
abbrev pub Answers : {Q : Type 0} → Setup → List Entry → Event Q → StepReply Q → List Entry → Type 0
Answers u past (event.Fill pass page) (step.Done reply.Unit) added = added ≡ page_in_entry past pass page ∷ []
Answers u past (event.Drop page) (step.Done reply.Unit) added = added ≡ entry.PageOut 1 page ∷ []
Answers u past (event.WriteBegin pass page) (step.Done reply.Unit) added = added ≡ entry.WriteBegin pass page ∷ []
Answers u past (event.WriteEnd page) (step.Done reply.Unit) added = added ≡ write_end past page how.Good ∷ []
Answers u past (event.Sync pass stream) (step.Done reply.Unit) added = added ≡ entry.Sync pass stream how.Good ∷ []
Answers u past (event.Do pass it) (step.Done r) added =
    (reason_of u past it ≡ None) × (added ≡ entries_done past pass it r)
Answers u past (event.Do pass it) (step.Refused e) added =
    (reason_of u past it ≡ Some e) × (added ≡ call_entry past pass it (outcome.Failed e) ∷ [])
Answers u past (event.Fail pass it) (step.Refused e) added =
    (added ≡ call_entry past pass it (outcome.Failed e) ∷ [])
    × (fault_told past pass it ≡ Some (call_entry past pass it (outcome.Failed e)))
Answers u past (event.Append pass handle bytes) (step.NewLsn lsn) added =
    (handle < u.logs) × (lsn ≡ suc (floor_of past handle)) × (added ≡ entry.Append pass handle lsn bytes ∷ [])
Answers u past (event.Append pass handle bytes) (step.Refused (error.NoLog n)) added =
    (u.logs ≤ handle) × (n ≡ handle) × (added ≡ [])
Answers u past (event.Append pass handle bytes) (step.Refused (error.LogFull n)) added =
    (handle < u.logs) × (floor_of past handle ≡ 2 ^ 62) × (n ≡ handle) × (added ≡ [])
Answers u past (event.LogFlush pass handle to) (step.Done reply.Unit) added =
    (handle < u.logs) × (added ≡ (if nat_le to (flushed_to past handle) then [] else entry.Flushed pass handle to ∷ []))
Answers u past (event.LogFlush pass handle to) (step.Refused (error.NoLog n)) added =
    (u.logs ≤ handle) × (n ≡ handle) × (added ≡ [])
Answers u past (event.Scan pass) (step.Done reply.Unit) added = added ≡ entry.Scan pass (pick u past) ∷ []
Answers u past (event.Defer pass file bytes retrying routine) (step.Deferred id) added =
    (id ≡ suc (deferred past)) × (added ≡ entry.Defer pass id file (pages_for bytes) retrying ∷ [])
Answers u past (event.Defer pass file bytes retrying routine) (step.Refused error.NotCached) added =
    (is_open (history past file.stream) file ≡ false) × (added ≡ [])
Answers u past (event.Defer pass file bytes retrying routine) (step.Refused error.QueueFull) added =
    (is_open (history past file.stream) file ≡ true) × (64 ≤ length (queue past)) × (added ≡ [])
Answers u past (event.Post pass) (step.Posted (Some posted)) added = added ≡ entry.Posted posted.id ∷ []
Answers u past (event.Post pass) (step.Posted None) added = (goes_first u past (queue past) ≡ false) × (added ≡ [])
Answers u past it other added = ⊥

-- The entry of a failure of the device or the log of an event, where it has one that may fail. A flush of a log that
-- reached the LSN goes to no file; of calls, a noncached read of a page reads the disk.
abbrev pub read_fault : ℕ → Call → Option Entry
read_fault pass (call.NcRead file page) = Some (entry.FillFailed pass (record { stream = file.stream; page = page }))
read_fault pass other = None

abbrev pub faulted_by : {Q : Type 0} → List Entry → Event Q → Option Entry
faulted_by past (event.Fill pass page) = Some (entry.FillFailed pass page)
faulted_by past (event.Drop page) = None
faulted_by past (event.WriteBegin pass page) = None
faulted_by past (event.WriteEnd page) = Some (write_end past page how.Failed)
faulted_by past (event.Sync pass stream) = Some (entry.Sync pass stream how.Failed)
faulted_by past (event.Do pass it) = read_fault pass it
faulted_by past (event.Fail pass it) = None
faulted_by past (event.Append pass handle bytes) = Some (entry.LogFailed pass handle)
faulted_by past (event.LogFlush pass handle to) =
    if nat_le to (flushed_to past handle) then None else Some (entry.LogFailed pass handle)
faulted_by past (event.Scan pass) = None
faulted_by past (event.Defer pass file bytes retrying routine) = None
faulted_by past (event.Post pass) = None

-- A call goes to the disk, whose failure it may tell: the noncached read of a page that starts below the size, where nothing
-- refuses it.
abbrev pub MayFaultCall : Setup → List Entry → Call → Type 0
MayFaultCall u past (call.NcRead file page) =
    (reason_of u past (call.NcRead file page) ≡ None) × (4096 * page < size_of (history past file.stream))
MayFaultCall u past other = ⊥

-- An event goes to its device or its log, whose failure it may tell. A page comes in from the disk where it has a byte below
-- the valid data length. A log is one that there is: an append finds an LSN left, and a flush goes past what was flushed.
abbrev pub MayFault : {Q : Type 0} → Setup → List Entry → Event Q → Type 0
MayFault u past (event.Fill pass page) = 4096 * page.page < valid_of (history past page.stream)
MayFault u past (event.Drop page) = ⊥
MayFault u past (event.WriteBegin pass page) = ⊥
MayFault u past (event.WriteEnd page) = Unit {0}
MayFault u past (event.Sync pass stream) = Unit {0}
MayFault u past (event.Do pass it) = MayFaultCall u past it
MayFault u past (event.Fail pass it) = ⊥
MayFault u past (event.Append pass handle bytes) = (handle < u.logs) × (floor_of past handle < 2 ^ 62)
MayFault u past (event.LogFlush pass handle to) = (handle < u.logs) × (flushed_to past handle < to)
MayFault u past (event.Scan pass) = ⊥
MayFault u past (event.Defer pass file bytes retrying routine) = ⊥
MayFault u past (event.Post pass) = ⊥

-- What an event placed that found no memory: the end of a transfer, or a sync, whose disk found none; or nothing.
abbrev pub IsWanting : {Q : Type 0} → List Entry → Event Q → List Entry → Type 0
IsWanting past (event.WriteEnd page) added = added ≡ write_end past page how.NoMemory ∷ []
IsWanting past (event.Sync pass stream) added = (added ≡ entry.Sync pass stream how.NoMemory ∷ []) ⊎ (added ≡ [])
IsWanting past other added = added ≡ []
