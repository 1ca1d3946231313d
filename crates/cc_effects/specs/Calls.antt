-- What a call leaves that has an entry of its own, by what it was answered.
use Rattle.std.specs.Prelude.{◌≡◌, ℕ, Bool, true, false, not, ◌||◌, List, [], ◌∷◌, ◌++◌, length, ◌⊎◌}
use Rattle.std.specs.declared.option.Option.{Option}
use Rattle.std.specs.declared.option.Option.TheVariants.{Some, None}
use Rattle.cc_entry.specs.Place.{Page, Range}
use Rattle.cc_entry.specs.declared.call.Call.{Call}
use Rattle.cc_entry.specs.declared.call.Call.TheVariants as call
use Rattle.cc_entry.specs.declared.error.CcError.{CcError}
use Rattle.cc_entry.specs.declared.error.CcError.TheVariants as error
use Rattle.cc_entry.specs.declared.reply.Reply.{Reply}
use Rattle.cc_entry.specs.declared.reply.Outcome.{Outcome}
use Rattle.cc_entry.specs.declared.reply.Outcome.TheVariants as outcome
use Rattle.cc_entry.specs.declared.entry.End.TheVariants as how
use Rattle.cc_entry.specs.declared.entry.Entry.{Entry}
use Rattle.cc_entry.specs.declared.entry.Entry.TheVariants as entry
use Rattle.cc_model.specs.Setup.{Setup}
use Rattle.cc_model.specs.History.{history}
use Rattle.cc_model.specs.Acts.{file_of}
use Rattle.cc_model.specs.Holds.{holds_of}
use Rattle.cc_model.specs.Sizes.{ended_ok}
use Rattle.cc_model.specs.Touches.{is_dirty}
use Rattle.cc_model.specs.Stamps.{is_unstamped}
use Rattle.cc_model.specs.Faults.{Fault, fault_of}
use Rattle.cc_model.specs.Refusals.{refusal}
use Rattle.cc_model.specs.Legal.{stream_history}
use Rattle.cc_model.specs.Flushed.{settled_since}
use Rattle.cc_model.specs.Filing.{IsFiled}
use Rattle.cc_effects.specs.Moments.{Others, AtSome, Between}
use Rattle.cc_effects.specs.Asked.{Calls}
use Rattle.cc_effects.specs.Places.{Works, syncs_of}
use Rattle.cc_effects.specs.PageWrites.{has_end}
use Rattle.cc_effects.specs.Stops.{IsUnstopped, IsStopped, IsToldBy, may_give_up}
use Rattle.cc_effects.specs.Refusals.{may_refuse, may_want}

-- A call is under way: what the pass placed so far it may place for the call, nothing stopped it, and it has
-- not synced.
pub record IsUnderWay (me : ℕ) (it : Call) (old new : List Entry) : Type 0 where
  pub during : List Entry
  pub grew : new ≡ during ++ old
  pub works : Works me (Calls it) during old
  pub unsynced : syncs_of me during ≡ []
  pub unstopped : IsUnstopped me during

-- The entry of a call stands behind what the call placed before, and after it the pass placed nothing. It
-- is filed under the stream of its file; one that names a hold under the stream in which that hold is open
-- at that front, of the kind that the call needs and with its range.
pub record IsPlaced (me : ℕ) (it : Call) (ended : Outcome) (earlier old new : List Entry) : Type 0 where
  pub nth : ℕ
  pub stream : Option ℕ
  pub later : List Entry
  pub grew : new ≡ later ++ (entry.Call me nth stream it ended ∷ (earlier ++ old))
  pub quiet : Others me later
  pub filed : IsFiled (holds_of (stream_history (earlier ++ old) stream)) me stream it (file_of it)
  pub works : Works me (Calls it) earlier old

-- A good sync of the pass, the last that it placed, at which each touch of a page of the span that was there at
-- the moment `old` is written or cut.
pub record IsSynced (me s : ℕ) (span : Option Range) (during old : List Entry) : Type 0 where
  pub after : List Entry
  pub before : List Entry
  pub split : during ≡ after ++ entry.Sync me s how.Good ∷ before
  pub quiet : Others me after
  pub settled : settled_since (length (history old s)) (history (before ++ old) s) span ≡ true

-- whether a page has no bytes that could be written: it is not dirty, or it is Unstamped
abbrev pub has_no_write : Page → List Entry → Bool
has_no_write page past =
    let h = history past page.stream in not (is_dirty h page.page) || is_unstamped h page.page

-- a page was written well, or had no bytes that could be written at a moment
abbrev pub WasWritten : ℕ → Page → List Entry → List Entry → Type 0
WasWritten me page during old =
    (has_end ended_ok me page during ≡ true) ⊎ AtSome (λ moment. has_no_write page moment ≡ true) old (during ++ old)

-- What a call that is done had to do before: a flush synced, and a noncached read had its page written. A noncached
-- store and the end of that write are parts of one call, and are done by no other.
abbrev pub HasDone : ℕ → Call → List Entry → List Entry → Type 0
HasDone me (call.Flush file span) during old = IsSynced me file.stream span during old
HasDone me (call.NcRead file number) during old = WasWritten me (record { stream = file.stream; page = number }) during old
HasDone me (call.NcStore file page bytes) during old = ⊥
HasDone me (call.NcWrite file page) during old = ⊥
HasDone me other during old = Unit {0}

-- the call was done
pub record IsDone (me : ℕ) (it : Call) (r : Reply) (old new : List Entry) : Type 0 where
  pub earlier : List Entry
  pub placed : IsPlaced me it (outcome.Done r) earlier old new
  pub unstopped : IsUnstopped me earlier
  pub has_done : HasDone me it earlier old

-- the call was refused, and nothing had stopped it
pub record IsRefused (me : ℕ) (it : Call) (e : CcError) (old new : List Entry) : Type 0 where
  pub earlier : List Entry
  pub placed : IsPlaced me it (outcome.Failed e) earlier old new
  pub unstopped : IsUnstopped me earlier
  pub listed : may_refuse it e ≡ true

-- The call met a fault, and was refused for another reason, which came from others meanwhile: at a moment
-- of the call before the fault nothing refused it. Then the refusal is answered.
pub record IsOvertaken (u : Setup) (me : ℕ) (it : Call) (e : CcError) (old new : List Entry) : Type 0 where
  pub earlier : List Entry
  pub placed : IsPlaced me it (outcome.Failed e) earlier old new
  pub listed : may_refuse it e ≡ true
  pub stop : Entry
  pub stopped : IsStopped me stop earlier
  pub fault : Fault
  pub shown : fault_of me stop ≡ Some fault
  pub admitted : AtSome (λ moment. refusal u moment (stream_history moment placed.stream) it ≡ None) old (stopped.before ++ old)

-- the call was told a fault of its own, the last that it did
pub record IsFaulted (me : ℕ) (it : Call) (e : CcError) (old new : List Entry) : Type 0 where
  pub earlier : List Entry
  pub placed : IsPlaced me it (outcome.Failed e) earlier old new
  pub listed : may_refuse it e ≡ true
  pub stop : Entry
  pub stopped : IsStopped me stop earlier
  pub told : IsToldBy me it e stop

-- how far the call came: nothing stopped it, or what did may go untold
abbrev pub CameSoFar : ℕ → CcError → List Entry → Type 0
CameSoFar me e during = IsUnstopped me during ⊎ ((stop : Entry) × IsStopped me stop during × (may_give_up e stop ≡ true))

-- The journal had no room for the call, or memory was wanting: it left what it had placed, and no entry of
-- its own. That there was little room is asked of lines, where they are explained, and of each call by its own
-- contract, which knows what is reserved.
pub record IsUnplaced (me : ℕ) (it : Call) (e : CcError) (old new : List Entry) : Type 0 where
  pub during : List Entry
  pub grew : new ≡ during ++ old
  pub works : Works me (Calls it) during old
  pub came : CameSoFar me e during
  pub listed : may_refuse it e ≡ true
  pub wants : AtSome (λ moment. may_want it moment ≡ true) old new

-- What a call left that was answered so, by cases over the answer.
abbrev pub CallLeft : Setup → ℕ → Call → Outcome → Between
CallLeft u me it (outcome.Done r) old new = IsDone me it r old new
CallLeft u me it (outcome.Failed (error.JournalFull entries)) old new = IsUnplaced me it (error.JournalFull entries) old new
CallLeft u me it (outcome.Failed error.NoMemory) old new = IsUnplaced me it error.NoMemory old new
CallLeft u me it (outcome.Failed (error.ReadFault page)) old new = IsFaulted me it (error.ReadFault page) old new
CallLeft u me it (outcome.Failed (error.WriteFault page)) old new = IsFaulted me it (error.WriteFault page) old new
CallLeft u me it (outcome.Failed (error.LogFault handle)) old new = IsFaulted me it (error.LogFault handle) old new
CallLeft u me it (outcome.Failed e) old new = IsRefused me it e old new ⊎ IsOvertaken u me it e old new

-- whether a call that is answered so leaves an entry of its own
abbrev pub leaves_entry : Outcome → Bool
leaves_entry (outcome.Done r) = true
leaves_entry (outcome.Failed (error.JournalFull entries)) = false
leaves_entry (outcome.Failed error.NoMemory) = false
leaves_entry (outcome.Failed other) = true
