-- A call that is under way is halted by a fault, or given up.
use Rattle.std.specs.Prelude.{◌≡◌, ℕ, true, false, Err, List, ◌++◌, refl}
use Rattle.std.specs.declared.option.Option.TheVariants.{None}
use Rattle.std.proofs.Common.{sym, ap, ◌∙◌, subst, inl, inr, append_assoc}
use Rattle.cc_entry.specs.Place.{Page}
use Rattle.cc_entry.specs.declared.call.Call.{Call}
use Rattle.cc_entry.specs.declared.error.CcError.{CcError}
use Rattle.cc_entry.specs.declared.error.CcError.TheVariants as error
use Rattle.cc_entry.specs.declared.entry.Entry.{Entry}
use Rattle.cc_entry.specs.declared.reply.Outcome.TheVariants as outcome
use Rattle.cc_effects.specs.Asked.{Calls}
use Rattle.cc_effects.specs.Calls.{IsUnderWay, IsUnplaced, CallLeft}
use Rattle.cc_effects.specs.Places.{Works}
use Rattle.cc_effects.specs.Refusals.{may_want}
use Rattle.cc_effects.specs.Stops.{tells}
use Rattle.cc_effects.proofs.Starts.{gives_up}
use Rattle.cc_effects.proofs.Stretches.{grew-after, some-end}
use Rattle.cc_effects.proofs.WorkSteps.{works-append, stopped-before}
use Rattle.cc_model.specs.Faults.{Fault}
use Rattle.cc_model.specs.History.{history}
use Rattle.cc_model.specs.Refusals.{refusal}
use Rattle.cc_model.specs.Setup.{Setup}
use Rattle.cc_step.specs.Step.{is_answered}
use Rattle.cc_writes.specs.Ways.{IsAtWork, WorkHasFailed, IsHalted}
use Rattle.cc_writes.proofs.Refusals.{may_be_reserved, may-stop, may-want}
use Rattle.cc_writes.specs.Writes.{WorkWantedMemory, WorkWriteLeft}

-- a call is work, and this work a call
pub at-work : (me : ℕ) (it : Call) (old new : List Entry) → IsUnderWay me it old new → IsAtWork me (Calls it) old new
at-work me it old new way = record { during = way.during; grew = way.grew; works = way.works; unsynced = way.unsynced; unstopped = way.unstopped }

pub under-way : (me : ℕ) (it : Call) (old new : List Entry) → IsAtWork me (Calls it) old new → IsUnderWay me it old new
under-way me it old new work = record { during = work.during; grew = work.grew; works = work.works; unsynced = work.unsynced; unstopped = work.unstopped }

-- a fault that came in a later stretch stopped the call
abbrev failed-since : (me : ℕ) (it : Call) (fault : Fault) (old mid new : List Entry) → IsUnderWay me it old mid → WorkHasFailed me (Calls it) fault mid new → WorkHasFailed me (Calls it) fault old new
failed-since me it fault old mid new way failed = record {
  stop = failed.stop;
  stopped = record {
    during = failed.stopped.during ++ way.during;
    grew = grew-after failed.stopped.during way.during old mid new failed.stopped.grew way.grew;
    works = works-append me (Calls it) failed.stopped.during way.during old
        (subst (λ (past : List Entry). Works me (Calls it) failed.stopped.during past) way.grew failed.stopped.works) way.works way.unsynced;
    stopped = stopped-before me failed.stop failed.stopped.during way.during way.unstopped failed.stopped.stopped;
  };
  shown = failed.shown;
  since = failed.since;
  earlier = failed.earlier;
  told = failed.told;
}

-- it was halted, where nothing refused it as that stretch began
pub halted-since : (u : Setup) (me s : ℕ) (it : Call) (e : CcError) (fault : Fault) (old mid new : List Entry) → IsUnderWay me it old mid → refusal u mid (history mid s) it ≡ None → tells it e fault ≡ true → WorkHasFailed me (Calls it) fault mid new → IsHalted u me s it e old new
halted-since u me s it e fault old mid new way admitted is failed = record {
  fault = fault;
  is = is;
  failed = failed-since me it fault old mid new way failed;
  admitted = record {
    moment = mid;
    later = failed.stopped.stopped.before;
    since = way.during;
    ends = append_assoc failed.stopped.stopped.before way.during old ∙ ap (λ (past : List Entry). failed.stopped.stopped.before ++ past) (sym way.grew);
    begins = way.grew;
    holds = admitted;
  };
}

-- a call whose entry was not reserved is given up for want of memory, or of room
pub no-memory : (me : ℕ) (it : Call) (old new : List Entry) → is_answered it ≡ true → may_be_reserved it ≡ false → IsUnderWay me it old new → IsUnplaced me it error.NoMemory old new
no-memory me it old new here free way = gives_up me it error.NoMemory old new way (may-stop it 0 here free).1 (may-want it new free)

no-room : (me : ℕ) (it : Call) (entries : ℕ) (old new : List Entry) → is_answered it ≡ true → may_be_reserved it ≡ false → IsUnderWay me it old new → IsUnplaced me it (error.JournalFull entries) old new
no-room me it entries old new here free way = gives_up me it (error.JournalFull entries) old new way (may-stop it entries here free).0 (may-want it new free)

-- a transfer found no memory
wanted-memory : (me : ℕ) (it : Call) (old new : List Entry) → is_answered it ≡ true → may_be_reserved it ≡ false → WorkWantedMemory me (Calls it) old new → IsUnplaced me it error.NoMemory old new
wanted-memory me it old new here free left = record {
  during = left.stopped.during;
  grew = left.stopped.grew;
  works = left.stopped.works;
  came = inr (left.stop, left.stopped.stopped, refl);
  listed = (may-stop it 0 here free).1;
  wants = rw left.stopped.grew (some-end (λ moment. may_want it moment ≡ true) left.stopped.during old (may-want it (left.stopped.during ++ old) free));
}

-- the page was not written, for want of room or of memory: the call is given up
pub given-up : (u : Setup) (me : ℕ) (it : Call) (page : Page) (e : CcError) (old new : List Entry) → is_answered it ≡ true → may_be_reserved it ≡ false → WorkWriteLeft me (Calls it) page (Err e) old new → CallLeft u me it (outcome.Failed e) old new
given-up u me it page (error.JournalFull entries) old new here free left = no-room me it entries old new here free (under-way me it old new left)
given-up u me it page error.NoMemory old new here free (inl left) = no-memory me it old new here free (under-way me it old new left)
given-up u me it page error.NoMemory old new here free (inr left) = wanted-memory me it old new here free left
given-up u me it page other old new here free left = absurd left
