-- How a call ends that was under way, or was stopped: done, refused, told a fault, or without an entry of its own.
use Rattle.std.specs.Prelude.{◌≡◌, ℕ, Bool, true, false, not, ◌&&◌, ◌==◌, List, [], ◌∷◌, None, Some, refl, if◌then◌else◌}
use Rattle.std.proofs.Common.{ap, sym, subst, inl, inr}
use Rattle.cc_entry.specs.declared.call.Call.{Call}
use Rattle.cc_entry.specs.declared.call.Call.TheVariants as call
use Rattle.cc_entry.specs.declared.entry.End.{End}
use Rattle.cc_entry.specs.declared.entry.End.TheVariants as how
use Rattle.cc_entry.specs.declared.entry.Entry.{Entry}
use Rattle.cc_entry.specs.declared.entry.Entry.TheVariants as entry
use Rattle.cc_entry.specs.declared.error.CcError.{CcError}
use Rattle.cc_entry.specs.declared.error.CcError.TheVariants as error
use Rattle.cc_entry.specs.declared.reply.Outcome.{Outcome}
use Rattle.cc_entry.specs.declared.reply.Outcome.TheVariants as outcome
use Rattle.cc_entry.specs.declared.reply.Reply.{Reply}
use Rattle.cc_effects.specs.Calls.{IsUnderWay, IsPlaced, IsRefused, IsFaulted, IsOvertaken, IsUnplaced, HasDone, CallLeft}
use Rattle.cc_effects.specs.Moments.{AtSome}
use Rattle.cc_effects.specs.Refusals.{may_refuse, may_want}
use Rattle.cc_effects.specs.Stops.{found_no_memory, is_want, may_give_up, tells}
use Rattle.cc_effects.proofs.Starts.{ends_done, ends_refused, gives_up}
use Rattle.cc_effects.proofs.Stretches.{some-end}
use Rattle.cc_model.specs.Acts.{file_of}
use Rattle.cc_model.specs.Allowed.{is_fault}
use Rattle.cc_model.specs.Faults.{Fault, WriteFailed, SyncFailed, fault_of, is_failed}
use Rattle.cc_model.specs.Filing.{IsFiled}
use Rattle.cc_model.specs.History.{history}
use Rattle.cc_model.specs.Holds.{holds_of}
use Rattle.cc_model.specs.Refusals.{refusal}
use Rattle.cc_model.specs.Setup.{Setup}
use Rattle.cc_step.specs.Step.{is_answered, is_stepped}
use Rattle.cc_step.proofs.Reasons.{is_listed, refusal-listed}
use Rattle.cc_writes.specs.Ways.{IsHalted}
use Rattle.cc_writes.proofs.Refusals.{MayStop, may-refuse}

-- nothing more is to do before such a call is done
has-done : (me : ℕ) (it : Call) (during old : List Entry) → is_stepped it ≡ true → HasDone me it during old
has-done me (call.Flush file span) during old stepped = absurd (cc)
has-done me (call.NcRead file page) during old stepped = absurd (cc)
has-done me (call.NcStore file page bytes) during old stepped = absurd (cc)
has-done me (call.NcWrite file page) during old stepped = absurd (cc)
has-done me other during old stepped = tt

-- a refusal of the list, whether nothing had stopped the call or others brought it about
left-refused : (u : Setup) (me : ℕ) (it : Call) (e : CcError) (old new : List Entry) → is_listed e ≡ true → IsRefused me it e old new → CallLeft u me it (outcome.Failed e) old new
left-refused u me it (error.JournalFull entries) old new listed refused = absurd (cc)
left-refused u me it error.NoMemory old new listed refused = absurd (cc)
left-refused u me it (error.ReadFault page) old new listed refused = absurd (cc)
left-refused u me it (error.WriteFault page) old new listed refused = absurd (cc)
left-refused u me it (error.LogFault handle) old new listed refused = absurd (cc)
left-refused u me it other old new listed refused = inl refused

left-overtaken : (u : Setup) (me : ℕ) (it : Call) (e : CcError) (old new : List Entry) → is_listed e ≡ true → IsOvertaken u me it e old new → CallLeft u me it (outcome.Failed e) old new
left-overtaken u me it (error.JournalFull entries) old new listed overtaken = absurd (cc)
left-overtaken u me it error.NoMemory old new listed overtaken = absurd (cc)
left-overtaken u me it (error.ReadFault page) old new listed overtaken = absurd (cc)
left-overtaken u me it (error.WriteFault page) old new listed overtaken = absurd (cc)
left-overtaken u me it (error.LogFault handle) old new listed overtaken = absurd (cc)
left-overtaken u me it other old new listed overtaken = inr overtaken

left-faulted : (u : Setup) (me : ℕ) (it : Call) (e : CcError) (old new : List Entry) → is_fault e ≡ true → IsFaulted me it e old new → CallLeft u me it (outcome.Failed e) old new
left-faulted u me it (error.ReadFault page) old new fault faulted = faulted
left-faulted u me it (error.WriteFault page) old new fault faulted = faulted
left-faulted u me it (error.LogFault handle) old new fault faulted = faulted
left-faulted u me it other old new fault faulted = absurd (cc)

-- a refusal that tells a fault is one of a fault
pub fault-is : (it : Call) (e : CcError) (fault : Fault) → tells it e fault ≡ true → is_fault e ≡ true
fault-is it (error.ReadFault page) fault is = refl
fault-is it (error.WriteFault page) fault is = refl
fault-is it (error.LogFault handle) fault is = refl
fault-is it other fault is = absurd (cc)

-- an entry that shows a fault is for no want of memory
wants-none : (b : Bool) (end : End) (shown fault : Fault) → (if b && is_failed end then Some shown else None) ≡ Some fault → is_want end ≡ false
wants-none b how.Good shown fault is = refl
wants-none b how.Failed shown fault is = refl
wants-none true how.NoMemory shown fault is = absurd (cc)
wants-none false how.NoMemory shown fault is = absurd (cc)

no-want : (me : ℕ) (stop : Entry) (fault : Fault) → fault_of me stop ≡ Some fault → found_no_memory stop ≡ false
no-want me (entry.WriteEnd pass page end) fault is = wants-none (pass == me) end (WriteFailed page.page) fault is
no-want me (entry.Sync pass stream end) fault is = wants-none (pass == me) end SyncFailed fault is
no-want me (entry.Record pass stream size valid how) fault is = absurd (cc)
no-want me other fault is = refl

module _ (u : Setup) (me s : ℕ) (it : Call) (here : is_answered it ≡ true) (nth : ℕ) (begun front : List Entry) (filed : IsFiled (holds_of (history front s)) me (Some s) it (file_of it)) where
  -- it was under way
  pub done-left : is_stepped it ≡ true → (r : Reply) → IsUnderWay me it begun front → CallLeft u me it (outcome.Done r) begun (entry.Call me nth (Some s) it (outcome.Done r) ∷ front)
  done-left stepped r way =
      ends_done me nth (Some s) it r begun front way filed (λ during. has-done me it during begun stepped)

  pub refused-left : (e : CcError) → IsUnderWay me it begun front → refusal u front (history front s) it ≡ Some e → CallLeft u me it (outcome.Failed e) begun (entry.Call me nth (Some s) it (outcome.Failed e) ∷ front)
  refused-left e way reason =
      left-refused u me it e begun (entry.Call me nth (Some s) it (outcome.Failed e) ∷ front) (refusal-listed u front (history front s) it e reason)
      (ends_refused me nth (Some s) it e begun front way filed (may-refuse u front (history front s) it e here reason))

  pub full-left : (entries : ℕ) → MayStop it front → IsUnderWay me it begun front → CallLeft u me it (outcome.Failed (error.JournalFull entries)) begun front
  full-left entries stops way = gives_up me it (error.JournalFull entries) begun front way (stops.full entries) stops.wants

  pub memoryless-left : MayStop it front → IsUnderWay me it begun front → CallLeft u me it (outcome.Failed error.NoMemory) begun front
  memoryless-left stops way = gives_up me it error.NoMemory begun front way stops.memoryless stops.wants

  -- it was halted by a fault
  module _ (fault : CcError) (halted : IsHalted u me s it fault begun front) where
    -- the entry of the call behind its work
    placed : (ended : Outcome) → IsPlaced me it ended halted.failed.stopped.during begun (entry.Call me nth (Some s) it ended ∷ front)
    placed ended = record {
      nth = nth;
      stream = Some s;
      later = [];
      grew = ap (λ l. entry.Call me nth (Some s) it ended ∷ l) halted.failed.stopped.grew;
      quiet = tt;
      filed = subst (λ (past : List Entry). IsFiled (holds_of (history past s)) me (Some s) it (file_of it)) halted.failed.stopped.grew filed;
      works = halted.failed.stopped.works;
    }

    pub told-left : may_refuse it fault ≡ true → CallLeft u me it (outcome.Failed fault) begun (entry.Call me nth (Some s) it (outcome.Failed fault) ∷ front)
    told-left listed =
        let is = fault-is it fault halted.fault halted.is in
        left-faulted u me it fault begun (entry.Call me nth (Some s) it (outcome.Failed fault) ∷ front) is
        (record {
          earlier = halted.failed.stopped.during;
          placed = placed (outcome.Failed fault);
          listed = listed;
          stop = halted.failed.stop;
          stopped = halted.failed.stopped.stopped;
          told = record { fault = halted.fault; shown = halted.failed.shown; told = halted.is };
        })

    pub overtaken-left : (e : CcError) → refusal u front (history front s) it ≡ Some e → CallLeft u me it (outcome.Failed e) begun (entry.Call me nth (Some s) it (outcome.Failed e) ∷ front)
    unfolding placed
    overtaken-left e reason =
        left-overtaken u me it e begun (entry.Call me nth (Some s) it (outcome.Failed e) ∷ front) (refusal-listed u front (history front s) it e reason)
        (record {
          earlier = halted.failed.stopped.during;
          placed = placed (outcome.Failed e);
          listed = may-refuse u front (history front s) it e here reason;
          stop = halted.failed.stop;
          stopped = halted.failed.stopped.stopped;
          fault = halted.fault;
          shown = halted.failed.shown;
          admitted = halted.admitted;
        })

    unplaced : (e : CcError) → MayStop it front → may_refuse it e ≡ true → may_give_up e halted.failed.stop ≡ true → IsUnplaced me it e begun front
    unplaced e stops listed gives = record {
      during = halted.failed.stopped.during;
      grew = halted.failed.stopped.grew;
      works = halted.failed.stopped.works;
      came = inr (halted.failed.stop, halted.failed.stopped.stopped, gives);
      listed = listed;
      wants = subst (λ (past : List Entry). AtSome (λ moment. may_want it moment ≡ true) begun past) (sym halted.failed.stopped.grew)
          (some-end (λ moment. may_want it moment ≡ true) halted.failed.stopped.during begun
          (subst (λ (past : List Entry). may_want it past ≡ true) halted.failed.stopped.grew stops.wants));
    }

    pub full-halted : (entries : ℕ) → MayStop it front → CallLeft u me it (outcome.Failed (error.JournalFull entries)) begun front
    full-halted entries stops =
        unplaced (error.JournalFull entries) stops (stops.full entries) (ap not (no-want me halted.failed.stop halted.fault halted.failed.shown))

    pub memoryless-halted : MayStop it front → CallLeft u me it (outcome.Failed error.NoMemory) begun front
    memoryless-halted stops = unplaced error.NoMemory stops stops.memoryless refl
