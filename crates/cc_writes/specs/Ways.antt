-- How far a call came, or another work of a pass: it is under way, or was stopped, or ended.
use Rattle.std.specs.Prelude.{◌≡◌, ℕ, ◌+◌, ◌<◌, ◌≤◌, ◌⊎◌, Bool, true, false, Result, Ok, Err, IfSome, List, [], ◌∷◌, ◌++◌, length, take, drop}
use Rattle.std.specs.declared.option.Option.TheVariants.{Some, None}
use Rattle.cc_entry.specs.Place.{Page}
use Rattle.cc_entry.specs.declared.call.Call.{Call}
use Rattle.cc_entry.specs.declared.call.Call.TheVariants as call
use Rattle.cc_entry.specs.declared.error.CcError.{CcError}
use Rattle.cc_entry.specs.declared.error.CcError.TheVariants as error
use Rattle.cc_entry.specs.declared.entry.Entry.{Entry}
use Rattle.cc_entry.specs.declared.reply.Outcome.TheVariants as outcome
use Rattle.cc_entry.specs.declared.reply.Reply.{Reply}
use Rattle.cc_entry.specs.declared.reply.Reply.TheVariants as reply
use Rattle.cc_entry.specs.declared.query.Value.TheVariants as value
use Rattle.cc_effects.specs.Asked.{Work, Calls, reaches}
use Rattle.cc_effects.specs.Calls.{CallLeft}
use Rattle.cc_effects.specs.Moments.{AtSome}
use Rattle.cc_effects.specs.Places.{Works, syncs_of}
use Rattle.cc_effects.specs.Stops.{IsUnstopped, IsStopped, tells}
use Rattle.cc_model.specs.Acts.{file_of}
use Rattle.cc_model.specs.Faults.{Fault, fault_of, faults_since}
use Rattle.cc_model.specs.History.{history}
use Rattle.cc_model.specs.Refusals.{refusal}
use Rattle.cc_model.specs.Room.{reserved_in}
use Rattle.cc_model.specs.Setup.{Setup}
use Rattle.cc_step.specs.Step.{IsReadyFor, asked_now, most_asked}
use Rattle.cc_turns.specs.Standing.{Standing}
use Rattle.cc_writes.specs.declared.tell.Returned.{Returned}
use Rattle.cc_writes.specs.declared.tell.Returned.TheVariants as returned

-- Work of a pass is under way from one moment to another: the pass placed what it may place for it, has not synced, and
-- nothing stopped it.
pub record IsAtWork (me : ℕ) (work : Work) (old new : List Entry) : Type 0 where
  pub during : List Entry
  pub grew : new ≡ during ++ old
  pub works : Works me work during old
  pub unsynced : syncs_of me during ≡ []
  pub unstopped : IsUnstopped me during

-- An entry of the pass stopped it.
pub record IsStoppedBy (me : ℕ) (work : Work) (stop : Entry) (old new : List Entry) : Type 0 where
  pub during : List Entry
  pub grew : new ≡ during ++ old
  pub works : Works me work during old
  pub stopped : IsStopped me stop during

-- A fault stopped it, which is among those since the pass's last call.
pub record WorkHasFailed (me : ℕ) (work : Work) (fault : Fault) (old new : List Entry) : Type 0 where
  pub stop : Entry
  pub stopped : IsStoppedBy me work stop old new
  pub shown : fault_of me stop ≡ Some fault
  pub since : List Fault
  pub earlier : List Fault
  pub told : faults_since new me ≡ since ++ fault ∷ earlier

-- at a moment nothing refused the call, and the page was of its range
abbrev pub WasWanted : Setup → Call → Page → List Entry → List Entry → Type 0
WasWanted u it page old new =
    AtSome (λ moment. (refusal u moment (history moment page.stream) it ≡ None) × (reaches it page moment ≡ true)) old new

-- at a moment before it was stopped nothing refused the call
abbrev pub WasAdmitted : Setup → Call → ℕ → List Entry → List Entry → Type 0
WasAdmitted u it s old new = AtSome (λ moment. refusal u moment (history moment s) it ≡ None) old new

-- A call was stopped by the fault that this refusal tells; nothing refused it before.
pub record IsHalted (u : Setup) (me s : ℕ) (it : Call) (e : CcError) (old new : List Entry) : Type 0 where
  pub fault : Fault
  pub is : tells it e fault ≡ true
  pub failed : WorkHasFailed me (Calls it) fault old new
  pub admitted : WasAdmitted u it s old (failed.stopped.stopped.before ++ old)

-- whether an error tells a fault, or want of room or of memory
abbrev pub is_met : CcError → Bool
is_met (error.ReadFault page) = true
is_met (error.WriteFault page) = true
is_met (error.LogFault handle) = true
is_met (error.JournalFull entries) = true
is_met error.NoMemory = true
is_met other = false

-- A call on the stream is answered such an error, or what refuses it at a moment.
abbrev pub IsCallReason : Setup → ℕ → Call → CcError → Type 0
IsCallReason u s it e = (is_met e ≡ true) ⊎ ((past : List Entry) × (refusal u past (history past s) it ≡ Some e))

-- what a caller is told of a reply: the bytes of a read, in the front of what it handed in, the id of a hold, or what was
-- found, which of a read-ahead step is a flag
abbrev pub IsTold : Reply → Returned → List ℕ → List ℕ → Type 0
IsTold (reply.Read bytes) told was now =
    (told ≡ returned.Bytes (length bytes)) × (take (length bytes) now ≡ bytes)
    × (drop (length bytes) now ≡ drop (length bytes) was)
IsTold (reply.Hold id) told was now = (told ≡ returned.Hold id) × (now ≡ was)
IsTold (reply.Value found) told was now = (told ≡ returned.Value found) × (now ≡ was)
IsTold (reply.Whole whole) told was now = (told ≡ returned.Value (value.Flag whole)) × (now ≡ was)
IsTold other told was now = (told ≡ returned.Nothing) × (now ≡ was)

-- A call ended so: done, and its caller told the reply, or failed, and what the caller handed in is as it was.
abbrev pub EndedSo : Setup → ℕ → Call → Result Returned CcError → List Entry → List Entry → List ℕ → List ℕ → Type 0
EndedSo u me it (Ok told) old new was now =
    (r : Reply) × CallLeft u me it (outcome.Done r) old new × IsTold r told was now
EndedSo u me it (Err e) old new was now = CallLeft u me it (outcome.Failed e) old new × (now ≡ was)

-- What was handed in has room for what the call reads.
abbrev pub ReadFitsIn : Call → List ℕ → Type 0
ReadFitsIn (call.CopyRead file at len wait) out = len ≤ length out
ReadFitsIn (call.MappedRead hold at len) out = len ≤ length out
ReadFitsIn (call.PinnedRead hold at len) out = len ≤ length out
ReadFitsIn (call.MdlBytes hold at len) out = len ≤ length out
ReadFitsIn other out = Unit {0}

-- Where a call finds the journal full, it has so many entries, and no room for so many more beside what is owed and
-- under way.
abbrev pub IsFullError : ℕ → Standing → CcError → Type 0
IsFullError asked w (error.JournalFull entries) =
    (entries ≡ length w.seen)
    × (w.setup.capacity < length w.seen + (reserved_in w.seen + w.in_flight + w.others) + asked)
IsFullError asked w other = Unit {0}

abbrev pub IsFull : {A : Type 0} → ℕ → Standing → Result A CcError → Type 0
IsFull asked w (Ok a) = Unit {0}
IsFull asked w (Err e) = IsFullError asked w e

-- Nothing refuses a call on a file, and each page of its range is resident.
abbrev pub CallIsReady : Setup → Call → List Entry → Type 0
CallIsReady u it past = IfSome (file_of it) (λ file. IsReadyFor u past file.stream it)

-- Where a call finds the journal full, there is no room for all that it asks; and there is none for one entry, or the call is
-- ready to be done as it finds that.
abbrev pub IsFullCall : {A : Type 0} → Call → Standing → Result A CcError → Type 0
IsFullCall it w answer = IsFull (most_asked it) w answer × (IsFull 1 w answer ⊎ CallIsReady w.setup it w.seen)

-- Where a call on a stream finds the journal full, there is no room for what it asks of the holds as they are there: a pinned
-- write asks one place where its pin owes a set-dirty, else two. And there is none for one entry, or the call is ready to be
-- done as it finds that.
abbrev pub IsFullOn : {A : Type 0} → ℕ → Call → Standing → Result A CcError → Type 0
IsFullOn s it w answer =
    IsFull (asked_now w.seen s it) w answer × (IsFull 1 w answer ⊎ IsReadyFor w.setup w.seen s it)
