-- The work of a pass goes on, or was stopped, where it writes a page.
use Rattle.std.specs.Prelude.{◌≡◌, ℕ, Bool, true, false, ◌||◌, List, [], ◌∷◌, ◌++◌, refl}
use Rattle.std.specs.declared.option.Option.TheVariants.{Some}
use Rattle.std.proofs.Common.{ap, sym, ◌∙◌, subst, append_assoc}
use Rattle.std.proofs.lemmas.Bool.{eq-eqb, or_right}
use Rattle.cc_entry.specs.Place.{Page}
use Rattle.cc_entry.specs.declared.call.Call.{Call}
use Rattle.cc_entry.specs.declared.call.Call.TheVariants as call
use Rattle.cc_entry.specs.declared.entry.End.{End}
use Rattle.cc_entry.specs.declared.entry.End.TheVariants as how
use Rattle.cc_entry.specs.declared.entry.Entry.{Entry}
use Rattle.cc_entry.specs.declared.entry.Entry.TheVariants as entry
use Rattle.cc_effects.specs.Asked.{Work, Calls, Writes, asks_write, is_in_the_way, may_write, stores}
use Rattle.cc_effects.specs.Moments.{own, Others}
use Rattle.cc_effects.specs.Places.{AsksLog, MayFailToFlush, MayPlace, Works, syncs_of}
use Rattle.cc_effects.specs.Stops.{IsUnstopped, stops}
use Rattle.cc_effects.proofs.Stretches.{grew-after, own-after, each-others, each-append}
use Rattle.cc_effects.proofs.WorkSteps.{works-after, unsynced-append, unsynced-others, unstopped-after}
use Rattle.cc_laws.proofs.FaultSteps.{faults_since-write_failed, faults_since-log_failed}
use Rattle.cc_laws.proofs.HistorySteps.{history-write_begin}
use Rattle.cc_laws.proofs.ImageSteps.{open_of-began}
use Rattle.cc_model.specs.Faults.{WriteFailed, LogFailed, faults_since}
use Rattle.cc_model.specs.History.{history}
use Rattle.cc_model.specs.Images.{open_of}
use Rattle.cc_model.specs.Passes.{is_same_page}
use Rattle.cc_model.specs.Stamps.{is_unstamped}
use Rattle.cc_model.specs.Turns.{Device, is_quiet}
use Rattle.cc_turns.specs.Transfers.{transferred}
use Rattle.cc_turns.proofs.DiskGrows.{open_of-quiet}
use Rattle.cc_writes.specs.Ways.{IsAtWork, IsStoppedBy, WorkHasFailed}
use Rattle.cc_writes.specs.Writes.{WorkWantedMemory}
use Rattle.cc_writes.specs.Logs.{IsDue}

-- Whether a page may be written depends on its stream's history alone.
asks-same : (it : Call) (page : Page) (past now : List Entry) → history now page.stream ≡ history past page.stream → asks_write it page now ≡ asks_write it page past
asks-same (call.NcRead file number) page past now same = rw same refl
asks-same (call.Flush file span) page past now same = rw same refl
asks-same (call.Purge file span) page past now same = rw same refl
asks-same other page past now same = rw same refl

way-same : (it : Call) (page : Page) (past now : List Entry) → history now page.stream ≡ history past page.stream → is_in_the_way it page now ≡ is_in_the_way it page past
way-same it page past now same = rw same refl

pub may_write-same : (work : Work) (page : Page) (past now : List Entry) → history now page.stream ≡ history past page.stream → may_write work page past ≡ true → may_write work page now ≡ true
may_write-same (Calls it) page past now same is = rw (way-same it page past now same, asks-same it page past now same) is
may_write-same (Writes pages) page past now same is = is

pub either : (a b : Bool) → a ≡ true → (a || b) ≡ true
either true b is = refl
either false b is = absurd (cc)

-- and so does whether it is stored
stores-same : (work : Work) (page : Page) (past now : List Entry) → history now page.stream ≡ history past page.stream → stores work page now ≡ stores work page past
stores-same (Calls (call.NcStore file number bytes)) page past now same = rw same refl
stores-same (Calls (call.NcWrite file number)) page past now same = rw same refl
stores-same (Calls other) page past now same = refl
stores-same (Writes pages) page past now same = refl

pub asks-log-same : (work : Work) (page : Page) (past now : List Entry) → history now page.stream ≡ history past page.stream → (may_write work page past || stores work page past) ≡ true → (may_write work page now || stores work page now) ≡ true
asks-log-same work page past now same is = go (may_write work page past) refl is
  where
    go : (b : Bool) → may_write work page past ≡ b → (b || stores work page past) ≡ true → (may_write work page now || stores work page now) ≡ true
    go true may is = either (may_write work page now) (stores work page now) (may_write-same work page past now same may)
    go false not is = or_right (may_write work page now) (stores work page now) (stores-same work page past now same ∙ is)

-- a page that may be written, or stored, asks for its log
pub asks_log : (work : Work) (page : Page) (handle to : ℕ) (past : List Entry) → (may_write work page past || stores work page past) ≡ true → is_unstamped (history past page.stream) page.page ≡ false → IsDue page handle to past → AsksLog work handle to past
asks_log work page handle to past may stamped due = record {
  page = page;
  writes = may;
  log = due.log;
  stamped = stamped;
  newest = due.newest;
}

-- others went on
pub work-grown : (me : ℕ) (work : Work) (old between later : List Entry) → Others me later → IsAtWork me work old between → IsAtWork me work old (later ++ between)
work-grown me work old between later others is = record {
  during = later ++ is.during;
  grew = grew-after later is.during old between (later ++ between) refl is.grew;
  works = works-after me work later is.during old others is.works;
  unsynced = unsynced-append me later is.during (unsynced-others me later others) is.unsynced;
  unstopped = unstopped-after me later is.during others is.unstopped;
}

-- the log was flushed
pub work-flushed : (me : ℕ) (work : Work) (handle to : ℕ) (old past : List Entry) → AsksLog work handle to past → IsAtWork me work old past → IsAtWork me work old (entry.Flushed me handle to ∷ past)
work-flushed me work handle to old past asks is = record {
  during = entry.Flushed me handle to ∷ is.during;
  grew = ap (λ l. entry.Flushed me handle to ∷ l) is.grew;
  works = record {
    each = ((λ mine. subst (λ (front : List Entry). AsksLog work handle to front) is.grew asks), is.works.each);
    one_sync = rw (eq-eqb me me refl) is.works.one_sync;
    whole = rw (eq-eqb me me refl) is.works.whole;
  };
  unsynced = rw (eq-eqb me me refl) is.unsynced;
  unstopped = rw (eq-eqb me me refl) is.unstopped;
}

-- it failed
pub work-log_failed : (me : ℕ) (work : Work) (handle : ℕ) (old past : List Entry) → MayFailToFlush work handle past → IsAtWork me work old past → WorkHasFailed me work (LogFailed handle) old (entry.LogFailed me handle ∷ past)
work-log_failed me work handle old past may is = record {
  stop = entry.LogFailed me handle;
  stopped = record {
    during = entry.LogFailed me handle ∷ is.during;
    grew = ap (λ l. entry.LogFailed me handle ∷ l) is.grew;
    works = record {
      each = ((λ mine. subst (λ (front : List Entry). MayFailToFlush work handle front) is.grew may), is.works.each);
      one_sync = rw (eq-eqb me me refl) is.works.one_sync;
      whole = rw (eq-eqb me me refl) is.works.whole;
    };
    stopped = record { since = []; before = is.during; split = refl; is_own = eq-eqb me me refl; quiet = tt; unstopped = is.unstopped };
  };
  shown = rw (eq-eqb me me refl) refl;
  since = [];
  earlier = faults_since past me;
  told = faults_since-log_failed me handle past me (eq-eqb me me refl);
}

-- The page's transfer began and ended, with nothing of the pass between.
module _ (me : ℕ) (work : Work) (page : Page) (how : End) (old before later : List Entry) (is : IsAtWork me work old before)
    (may : may_write work page before ≡ true) (quiet : is_quiet (Device page.stream) later ≡ true) (others : Others me later) where
  between : List Entry
  between = later ++ entry.WriteBegin me page ∷ is.during

  all : List Entry
  all = entry.WriteEnd me page how ∷ between

  grew : transferred me page.stream page.page how later before ≡ all ++ old
  unfolding between all
  grew = ap (λ l. entry.WriteEnd me page how ∷ l) (ap (λ (l : List Entry). later ++ entry.WriteBegin me page ∷ l) is.grew ∙ sym (append_assoc later (entry.WriteBegin me page ∷ is.during) old))

  own-between : own me between ≡ entry.WriteBegin me page ∷ own me is.during
  unfolding between
  own-between = own-after me later (entry.WriteBegin me page ∷ is.during) others ∙ rw (eq-eqb me me refl) refl

  own-all : own me all ≡ entry.WriteEnd me page how ∷ entry.WriteBegin me page ∷ own me is.during
  unfolding all
  own-all = rw (eq-eqb me me refl) (ap (λ (l : List Entry). entry.WriteEnd me page how ∷ l) own-between)

  open_is : open_of (history (between ++ old) page.stream) ≡ Some (record { pass = me; page = page.page })
  unfolding between
  open_is =
      ap (λ past. open_of (history past page.stream)) (append_assoc later (entry.WriteBegin me page ∷ is.during) old)
      ∙ (open_of-quiet later (entry.WriteBegin me page ∷ (is.during ++ old)) page.stream quiet
      ∙ (ap open_of (history-write_begin me page (is.during ++ old) page.stream (eq-eqb page.stream page.stream refl))
      ∙ open_of-began me page.page (history (is.during ++ old) page.stream)))

  same_page : is_same_page page page ≡ true
  same_page = rw (eq-eqb page.stream page.stream refl, eq-eqb page.page page.page refl) refl

  works : Works me work all old
  unfolding all between
  works = record {
    each = (
      (λ mine. open_is),
      each-append me (MayPlace me work old) later (entry.WriteBegin me page ∷ is.during) old
          (each-others me (MayPlace me work old) later ((entry.WriteBegin me page ∷ is.during) ++ old) others)
          ((λ mine. subst (λ (front : List Entry). may_write work page front ≡ true) is.grew may), is.works.each),
    );
    one_sync = rw own-all is.works.one_sync;
    whole = rw (own-all, same_page) is.works.whole;
  }

  unsynced : syncs_of me all ≡ []
  unsynced = rw own-all is.unsynced

  unstopped-between : IsUnstopped me between
  unstopped-between = rw own-between is.unstopped

  stopped : stops (entry.WriteEnd me page how) ≡ true → IsStoppedBy me work (entry.WriteEnd me page how) old (transferred me page.stream page.page how later before)
  unfolding all
  stopped bad = record {
    during = all;
    grew = grew;
    works = works;
    stopped = record { since = []; before = between; split = refl; is_own = eq-eqb me me refl; quiet = tt; unstopped = unstopped-between };
  }

  pub went_on : stops (entry.WriteEnd me page how) ≡ false → IsAtWork me work old (transferred me page.stream page.page how later before)
  went_on good = record {
    during = all;
    grew = grew;
    works = works;
    unsynced = unsynced;
    unstopped = rw (own-all, good) is.unstopped;
  }

pub work-written : (me : ℕ) (work : Work) (page : Page) (old before later : List Entry) → IsAtWork me work old before → may_write work page before ≡ true → is_quiet (Device page.stream) later ≡ true → Others me later → IsAtWork me work old (transferred me page.stream page.page how.Good later before)
work-written me work page old before later is may quiet others = went_on me work page how.Good old before later is may quiet others refl

pub work-not_written : (me : ℕ) (work : Work) (page : Page) (old before later : List Entry) → IsAtWork me work old before → may_write work page before ≡ true → is_quiet (Device page.stream) later ≡ true → Others me later → WorkHasFailed me work (WriteFailed page.page) old (transferred me page.stream page.page how.Failed later before)
work-not_written me work page old before later is may quiet others = record {
  stop = entry.WriteEnd me page how.Failed;
  stopped = stopped me work page how.Failed old before later is may quiet others refl;
  shown = rw (eq-eqb me me refl) refl;
  since = [];
  earlier = faults_since (later ++ entry.WriteBegin me page ∷ before) me;
  told = faults_since-write_failed me page how.Failed (later ++ entry.WriteBegin me page ∷ before) me (eq-eqb me me refl) refl;
}

pub work-wanted : (me : ℕ) (work : Work) (page : Page) (old before later : List Entry) → IsAtWork me work old before → may_write work page before ≡ true → is_quiet (Device page.stream) later ≡ true → Others me later → WorkWantedMemory me work old (transferred me page.stream page.page how.NoMemory later before)
work-wanted me work page old before later is may quiet others = record {
  stop = entry.WriteEnd me page how.NoMemory;
  stopped = stopped me work page how.NoMemory old before later is may quiet others refl;
  want = refl;
}
