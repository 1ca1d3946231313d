-- A pass goes on while others do: what is said of its call, or of another work, stands still.
use Rattle.std.specs.Prelude.{◌≡◌, ℕ, List, [], ◌∷◌, ◌++◌, refl}
use Rattle.std.proofs.Common.{ap, sym, ◌∙◌, subst, append_assoc}
use Rattle.cc_entry.specs.declared.call.Call.{Call}
use Rattle.cc_entry.specs.declared.entry.Entry.{Entry}
use Rattle.cc_entry.specs.declared.error.CcError.{CcError}
use Rattle.cc_effects.specs.Asked.{Work, Calls}
use Rattle.cc_effects.specs.Calls.{IsUnderWay}
use Rattle.cc_effects.specs.Moments.{Others, IsIdle, AtSome}
use Rattle.cc_effects.proofs.Stretches.{others-append, grew-after, some-after}
use Rattle.cc_effects.proofs.WorkSteps.{works-after, unsynced-append, unsynced-others, unstopped-after}
use Rattle.cc_laws.proofs.PassSteps.{faults_since-not_mine}
use Rattle.cc_model.specs.Faults.{Fault, faults_since}
use Rattle.cc_model.specs.Setup.{Setup}
use Rattle.cc_writes.specs.Ways.{IsAtWork, IsStoppedBy, WorkHasFailed, IsHalted}

-- a call is still under way
pub under_way-on : (me : ℕ) (it : Call) (begun old new : List Entry) → IsUnderWay me it begun old → IsIdle me old new → IsUnderWay me it begun new
under_way-on me it begun old new way idle = record {
  during = idle.during ++ way.during;
  grew = grew-after idle.during way.during begun old new idle.grew way.grew;
  works = works-after me (Calls it) idle.during way.during begun idle.others way.works;
  unsynced = unsynced-append me idle.during way.during (unsynced-others me idle.during idle.others) way.unsynced;
  unstopped = unstopped-after me idle.during way.during idle.others way.unstopped;
}

-- so is another work
pub at_work-on : (me : ℕ) (work : Work) (begun old new : List Entry) → IsAtWork me work begun old → IsIdle me old new → IsAtWork me work begun new
at_work-on me work begun old new way idle = record {
  during = idle.during ++ way.during;
  grew = grew-after idle.during way.during begun old new idle.grew way.grew;
  works = works-after me work idle.during way.during begun idle.others way.works;
  unsynced = unsynced-append me idle.during way.during (unsynced-others me idle.during idle.others) way.unsynced;
  unstopped = unstopped-after me idle.during way.during idle.others way.unstopped;
}

-- what was stopped is still stopped by the same entry
pub stopped_by-on : (me : ℕ) (work : Work) (stop : Entry) (begun old new : List Entry) → IsStoppedBy me work stop begun old → IsIdle me old new → IsStoppedBy me work stop begun new
stopped_by-on me work stop begun old new by idle = record {
  during = idle.during ++ by.during;
  grew = grew-after idle.during by.during begun old new idle.grew by.grew;
  works = works-after me work idle.during by.during begun idle.others by.works;
  stopped = record {
    since = idle.during ++ by.stopped.since;
    before = by.stopped.before;
    split = ap (λ l. idle.during ++ l) by.stopped.split ∙ sym (append_assoc idle.during by.stopped.since (stop ∷ by.stopped.before));
    is_own = by.stopped.is_own;
    quiet = others-append me idle.during by.stopped.since idle.others by.stopped.quiet;
    unstopped = by.stopped.unstopped;
  };
}

-- others' entries tell no fault of the pass
pub faults-others : (me : ℕ) (later past : List Entry) → Others me later → faults_since (later ++ past) me ≡ faults_since past me
faults-others me [] past others = refl
faults-others me (e ∷ later) past others = faults_since-not_mine e (later ++ past) me others.0 ∙ faults-others me later past others.1

pub failed-on : (me : ℕ) (work : Work) (fault : Fault) (begun old new : List Entry) → WorkHasFailed me work fault begun old → IsIdle me old new → WorkHasFailed me work fault begun new
failed-on me work fault begun old new failed idle = record {
  stop = failed.stop;
  stopped = stopped_by-on me work failed.stop begun old new failed.stopped idle;
  shown = failed.shown;
  since = failed.since;
  earlier = failed.earlier;
  told = ap (λ past. faults_since past me) idle.grew ∙ (faults-others me idle.during old idle.others ∙ failed.told);
}

pub halted-on : (u : Setup) (me s : ℕ) (it : Call) (e : CcError) (begun old new : List Entry) → IsHalted u me s it e begun old → IsIdle me old new → IsHalted u me s it e begun new
unfolding failed-on stopped_by-on
halted-on u me s it e begun old new halted idle = record {
  fault = halted.fault;
  is = halted.is;
  failed = failed-on me (Calls it) halted.fault begun old new halted.failed idle;
  admitted = halted.admitted;
}

-- a moment of a stretch is one of the stretch that went on
pub some-on : (Holds : List Entry → Type 0) (me : ℕ) (begun old new : List Entry) → AtSome Holds begun old → IsIdle me old new → AtSome Holds begun new
some-on Holds me begun old new some idle = subst (λ (past : List Entry). AtSome Holds begun past) (sym idle.grew) (some-after Holds begun old idle.during some)
