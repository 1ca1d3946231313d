-- A flush whose sync ended: well, or since the disk failed, or found no memory; and its end.
use Rattle.std.specs.Prelude.{◌≡◌, ℕ, true, List, [], ◌∷◌, ◌++◌, length, None, Some, refl}
use Rattle.std.specs.declared.option.Option.{Option}
use Rattle.std.proofs.Common.{ap, sym, subst, arith, inl}
use Rattle.std.proofs.lemmas.Bool.{eq-eqb}
use Rattle.cc_entry.specs.Place.{File, Range}
use Rattle.cc_entry.specs.declared.call.Call.{Call}
use Rattle.cc_entry.specs.declared.call.Call.TheVariants as call
use Rattle.cc_entry.specs.declared.entry.End.{End}
use Rattle.cc_entry.specs.declared.entry.End.TheVariants as how
use Rattle.cc_entry.specs.declared.entry.Entry.{Entry}
use Rattle.cc_entry.specs.declared.entry.Entry.TheVariants as entry
use Rattle.cc_entry.specs.declared.error.CcError.{CcError}
use Rattle.cc_entry.specs.declared.error.CcError.TheVariants as error
use Rattle.cc_entry.specs.declared.reply.Outcome.TheVariants as outcome
use Rattle.cc_entry.specs.declared.reply.Reply.TheVariants as reply
use Rattle.cc_effects.specs.Asked.{Calls, is_admitted}
use Rattle.cc_effects.specs.Calls.{CallLeft, IsDone, IsRefused, IsUnderWay, IsUnplaced}
use Rattle.cc_effects.specs.Moments.{AtSome, IsIdle}
use Rattle.cc_effects.specs.Places.{Works}
use Rattle.cc_effects.specs.Refusals.{may_refuse, may_want}
use Rattle.cc_effects.proofs.Starts.{done_by}
use Rattle.cc_effects.proofs.Stretches.{grew-after, others-append, some-end}
use Rattle.cc_effects.proofs.WorkSteps.{works-after, unstopped-after}
use Rattle.cc_laws.proofs.FaultSteps.{faults_since-sync_failed}
use Rattle.cc_model.specs.Faults.{SyncFailed, faults_since}
use Rattle.cc_model.specs.Flushed.{is_flushed, settled_since}
use Rattle.cc_model.specs.History.{history}
use Rattle.cc_model.specs.Ranges.{first_of_span}
use Rattle.cc_model.specs.Refusals.{refusal}
use Rattle.cc_model.specs.Setup.{Setup}
use Rattle.cc_step.proofs.Admitted.{admitted as admitted-steps}
use Rattle.cc_step.proofs.Reasons.{is_listed, refusal-listed}
use Rattle.cc_writes.specs.Ways.{IsStoppedBy, WasAdmitted}
use Rattle.cc_writes.proofs.Others.{halted-on, stopped_by-on}
use Rattle.cc_writes.proofs.Refusals.{may-refuse, may-stop, may-want}
use Rattle.cc_writes.proofs.VisitHalting.{some-implies}
use Rattle.cc_ranges.specs.Flush.{FlushHasSynced, IsAtEnd}
use Rattle.cc_ranges.specs.Settled.{IsSettledAll}
use Rattle.cc_ranges.proofs.Flushed.{is_flushed-synced}
use Rattle.cc_ranges.proofs.Settling.{settled_since-all}

module _ (u : Setup) (me : ℕ) (file : File) (span : Option Range) (begun : List Entry) where
  abbrev it : Call
  it = call.Flush file span

  -- others go on
  pub synced-on : (old new : List Entry) → FlushHasSynced me file span begun old → IsIdle me old new → FlushHasSynced me file span begun new
  synced-on old new is idle = record {
    during = idle.during ++ is.during;
    grew = grew-after idle.during is.during begun old new idle.grew is.grew;
    works = works-after me (Calls it) idle.during is.during begun idle.others is.works;
    unstopped = unstopped-after me idle.during is.during idle.others is.unstopped;
    synced = record {
      after = idle.during ++ is.synced.after;
      before = is.synced.before;
      split = grew-after idle.during is.synced.after (entry.Sync me file.stream how.Good ∷ is.synced.before) is.during (idle.during ++ is.during) refl is.synced.split;
      quiet = others-append me idle.during is.synced.after idle.others is.synced.quiet;
      settled = is.synced.settled;
    };
  }

  pub at_end-on : (end : End) (old new : List Entry) → IsAtEnd u me file span end begun old → IsIdle me old new → IsAtEnd u me file span end begun new
  at_end-on how.Good old new is idle = synced-on old new is idle
  at_end-on how.Failed old new is idle = halted-on u me file.stream it (error.WriteFault (first_of_span span)) begun old new is idle
  at_end-on how.NoMemory old new is idle = record {
    stop = is.stop;
    stopped = stopped_by-on me (Calls it) is.stop begun old new is.stopped idle;
    want = is.want;
  }

  -- its sync ended, at a front where it was under way, and nothing refused it at a moment before
  module _ (front : List Entry) (way : IsUnderWay me it begun front) (admitted : WasAdmitted u it file.stream begun front) where
    was-admitted : AtSome (λ moment. is_admitted it file.stream moment ≡ true) begun (way.during ++ begun)
    was-admitted = subst (λ (past : List Entry). AtSome (λ moment. is_admitted it file.stream moment ≡ true) begun past) way.grew
        (some-implies (λ moment. refusal u moment (history moment file.stream) it ≡ None) (λ moment. is_admitted it file.stream moment ≡ true) begun front (λ past is. admitted-steps u past file.stream it is) admitted)

    sync-works : (end : End) → Works me (Calls it) (entry.Sync me file.stream end ∷ way.during) begun
    sync-works end = record {
      each = ((λ is. (eq-eqb file.stream file.stream refl, was-admitted)), way.works.each);
      one_sync = rw (eq-eqb me me refl, way.unsynced) (omega arith);
      whole = rw (eq-eqb me me refl) way.works.whole;
    }

    sync-grew : (end : End) → entry.Sync me file.stream end ∷ front ≡ (entry.Sync me file.stream end ∷ way.during) ++ begun
    sync-grew end = ap (λ l. entry.Sync me file.stream end ∷ l) way.grew

    sync-stopped : (end : End) → IsStoppedBy me (Calls it) (entry.Sync me file.stream end) begun (entry.Sync me file.stream end ∷ front)
    sync-stopped end = record {
      during = entry.Sync me file.stream end ∷ way.during;
      grew = sync-grew end;
      works = sync-works end;
      stopped = record { since = []; before = way.during; split = refl; is_own = eq-eqb me me refl; quiet = tt; unstopped = way.unstopped };
    }

    sync-good : IsSettledAll (length (history begun file.stream)) (history front file.stream) span → FlushHasSynced me file span begun (entry.Sync me file.stream how.Good ∷ front)
    sync-good settled = record {
      during = entry.Sync me file.stream how.Good ∷ way.during;
      grew = sync-grew how.Good;
      works = sync-works how.Good;
      unstopped = rw (eq-eqb me me refl) way.unstopped;
      synced = record {
        after = [];
        before = way.during;
        split = refl;
        quiet = tt;
        settled = subst (λ (past : List Entry). settled_since (length (history begun file.stream)) (history past file.stream) span ≡ true) way.grew
            (settled_since-all (length (history begun file.stream)) (history front file.stream) span settled);
      };
    }

    pub at_end-placed : (end : End) → IsSettledAll (length (history begun file.stream)) (history front file.stream) span → IsAtEnd u me file span end begun (entry.Sync me file.stream end ∷ front)
    unfolding sync-stopped
    at_end-placed how.Good settled = sync-good settled
    at_end-placed how.Failed settled = record {
      fault = SyncFailed;
      is = eq-eqb (first_of_span span) (first_of_span span) refl;
      failed = record {
        stop = entry.Sync me file.stream how.Failed;
        stopped = sync-stopped how.Failed;
        shown = rw (eq-eqb me me refl) refl;
        since = [];
        earlier = faults_since front me;
        told = faults_since-sync_failed me file.stream how.Failed front me (eq-eqb me me refl) refl;
      };
      admitted = subst (λ (past : List Entry). WasAdmitted u it file.stream begun past) way.grew admitted;
    }
    at_end-placed how.NoMemory settled = record {
      stop = entry.Sync me file.stream how.NoMemory;
      stopped = sync-stopped how.NoMemory;
      want = refl;
    }

  -- it may be done where it has synced well
  pub flushed-synced : (new : List Entry) → FlushHasSynced me file span begun new → is_flushed new me file.stream span ≡ true
  flushed-synced new is = is_flushed-synced me file.stream it span is.during begun new is.grew is.works is.synced

  -- what its end leaves: it is done, or refused, or there was no room or no memory
  module _ (nth : ℕ) (new : List Entry) (is : FlushHasSynced me file span begun new) where
    pub left-done : CallLeft u me it (outcome.Done reply.Unit) begun (entry.Call me nth (Some file.stream) it (outcome.Done reply.Unit) ∷ new)
    left-done =
        subst (λ (past : List Entry). IsDone me it reply.Unit begun (entry.Call me nth (Some file.stream) it (outcome.Done reply.Unit) ∷ past)) (sym is.grew)
        (done_by me nth (Some file.stream) it reply.Unit is.during begun is.works refl is.unstopped is.synced)

    -- a refusal of the list
    listed-left : (e : CcError) (after : List Entry) → is_listed e ≡ true → IsRefused me it e begun after → CallLeft u me it (outcome.Failed e) begun after
    listed-left (error.JournalFull entries) after listed refused = absurd (cc)
    listed-left error.NoMemory after listed refused = absurd (cc)
    listed-left (error.ReadFault page) after listed refused = absurd (cc)
    listed-left (error.WriteFault page) after listed refused = absurd (cc)
    listed-left (error.LogFault handle) after listed refused = absurd (cc)
    listed-left other after listed refused = inl refused

    pub left-refused : (e : CcError) → refusal u new (history new file.stream) it ≡ Some e → CallLeft u me it (outcome.Failed e) begun (entry.Call me nth (Some file.stream) it (outcome.Failed e) ∷ new)
    left-refused e reason =
        listed-left e (entry.Call me nth (Some file.stream) it (outcome.Failed e) ∷ new) (refusal-listed u new (history new file.stream) it e reason)
        (record {
          earlier = is.during;
          placed = record {
            nth = nth;
            stream = Some file.stream;
            later = [];
            grew = ap (λ l. entry.Call me nth (Some file.stream) it (outcome.Failed e) ∷ l) is.grew;
            quiet = tt;
            filed = refl;
            works = is.works;
          };
          unstopped = is.unstopped;
          listed = may-refuse u new (history new file.stream) it e refl reason;
        })

    unplaced : (e : CcError) → may_refuse it e ≡ true → IsUnplaced me it e begun new
    unplaced e listed = record {
      during = is.during;
      grew = is.grew;
      works = is.works;
      came = inl is.unstopped;
      listed = listed;
      wants = subst (λ (past : List Entry). AtSome (λ moment. may_want it moment ≡ true) begun past) (sym is.grew)
          (some-end (λ moment. may_want it moment ≡ true) is.during begun (may-want it (is.during ++ begun) refl));
    }

    pub left-full : (entries : ℕ) → CallLeft u me it (outcome.Failed (error.JournalFull entries)) begun new
    left-full entries = unplaced (error.JournalFull entries) (may-stop it entries refl refl).0

    pub left-memoryless : CallLeft u me it (outcome.Failed error.NoMemory) begun new
    left-memoryless = unplaced error.NoMemory (may-stop it 0 refl refl).1
