-- What one entry changes: a step no file, and what tells a refusal or a failure nothing.
use Rattle.std.specs.Prelude.{◌≡◌, ℕ, Bool, true, false, not, ◌==◌, List, [], ◌∷◌, refl, if◌then◌else◌}
use Rattle.std.specs.declared.option.Option.{Option}
use Rattle.std.specs.declared.option.Option.TheVariants.{Some, None}
use Rattle.std.specs.List.{cons_option, filter, list_any}
use Rattle.std.proofs.Common.{ap, sym, subst, ◌∙◌, eqb-true}
use Rattle.std.proofs.lemmas.Bool.{or_parts}
use Rattle.cc_entry.specs.Place.{File, Range}
use Rattle.cc_entry.specs.Locks.{LockTable, after_lock, after_unlock, is_named, lock_answer, lock_conflict, locks_after, unlock_answer}
use Rattle.cc_entry.specs.declared.call.Call.{Call}
use Rattle.cc_entry.specs.declared.entry.Entry.{Entry}
use Rattle.cc_entry.specs.declared.entry.Entry.TheVariants as entry
use Rattle.cc_entry.specs.declared.error.CcError.{CcError}
use Rattle.cc_entry.specs.declared.lock.Lock.{Lock}
use Rattle.cc_entry.specs.declared.lock.LockCall.{LockCall}
use Rattle.cc_entry.specs.declared.lock.LockCall.TheVariants as locking
use Rattle.cc_entry.specs.declared.reply.Outcome.TheVariants as outcome
use Rattle.cc_model.specs.History.{Effect, effect_of, history}
use Rattle.cc_model.specs.Touches.{unwritten}
use Rattle.cc_model.specs.Residency.{residents, order_of_use}
use Rattle.cc_model.specs.Images.{open_of, image, crash_pages}
use Rattle.cc_model.specs.Cache.{holds_made_by}
use Rattle.cc_model.specs.Records.{crash_records}
use Rattle.cc_model.specs.Locks.{lock_call, lock_calls, locks_of}
use Rattle.cc_model.specs.Setup.{Setup}
use Rattle.cc_model.specs.Allowed.{MayStand}
use Rattle.cc_laws.proofs.HistorySteps.{history-effect, history-no_effect}
use Rattle.cc_laws.proofs.QuietSteps.{none_or}
use Rattle.cc_laws.proofs.PassSteps.{holds_made-other}
use Rattle.cc_laws.proofs.QueueSteps.{queue-other, deferred-other, last_total-other, cursor-other, is_defer, is_defer_or_post, is_scan}
use Rattle.cc_laws.proofs.LogSteps.{flushed_to-other, floor_of-other, gives_lsn, is_flushed_entry}
use Rattle.cc_refused_laws.specs.Same.{SameFile, SamePages}
use Rattle.cc_refused_laws.specs.Changed.{KeepsFiles, KeepsAll}
use Rattle.cc_refused_laws.proofs.Files.{is_step, file-option, file-same}

-- ---- which entries change no file

-- whether an entry is no done call, no deferral or post, and makes or ends no lock
abbrev pub is_no_change : Entry → Bool
is_no_change (entry.Call pass nth stream call (outcome.Done reply)) = false
is_no_change (entry.Defer pass id file pages retrying) = false
is_no_change (entry.Posted id) = false
is_no_change (entry.Locked pass file span exclusive granted id) = false
is_no_change (entry.Unlocked pass file id gone) = false
is_no_change other = true

step-if : (b : Bool) (e : Effect) → is_step e ≡ true → none_or is_step (if b then Some e else None) ≡ true
step-if true e step = step
step-if false e step = refl

effect-step : (e : Entry) (s : ℕ) → is_no_change e ≡ true → none_or is_step (effect_of e s) ≡ true
effect-step (entry.Call pass nth (Some stream) call (outcome.Failed error)) s is = refl
effect-step (entry.Call pass nth None call (outcome.Failed error)) s is = refl
effect-step (entry.Call pass nth stream call (outcome.Done reply)) s is = absurd (cc)
effect-step (entry.PageIn pass page from_disk) s is = step-if (page.stream == s) _ refl
effect-step (entry.PageOut pass page) s is = step-if (page.stream == s) _ refl
effect-step (entry.WriteBegin pass page) s is = step-if (page.stream == s) _ refl
effect-step (entry.WriteEnd pass page how) s is = step-if (page.stream == s) _ refl
effect-step (entry.Sync pass stream how) s is = step-if (stream == s) _ refl
effect-step (entry.Defer pass id file pages retrying) s is = absurd (cc)
effect-step (entry.Posted id) s is = absurd (cc)
effect-step (entry.Locked pass file span exclusive granted id) s is = absurd (cc)
effect-step (entry.Unlocked pass file id gone) s is = absurd (cc)
effect-step other s is = refl

no-defer : (e : Entry) → is_no_change e ≡ true → is_defer e ≡ false
no-defer (entry.Defer pass id file pages retrying) is = absurd (cc)
no-defer other is = refl

no-post : (e : Entry) → is_no_change e ≡ true → is_defer_or_post e ≡ false
no-post (entry.Defer pass id file pages retrying) is = absurd (cc)
no-post (entry.Posted id) is = absurd (cc)
no-post other is = refl

no-hold : (e : Entry) → is_no_change e ≡ true → holds_made_by e ≡ 0
no-hold (entry.Call pass nth stream call (outcome.Done reply)) is = absurd (cc)
no-hold other is = refl

no-lock : (e : Entry) (s : ℕ) → is_no_change e ≡ true → lock_call s e ≡ None
no-lock (entry.Locked pass file span exclusive granted id) s is = absurd (cc)
no-lock (entry.Unlocked pass file id gone) s is = absurd (cc)
no-lock other s is = refl

pub locks-by : (e : Entry) (past : List Entry) (s : ℕ) (o : Option LockCall) → lock_call s e ≡ o → locks_of (e ∷ past) s ≡ locks_after (cons_option o (lock_calls past s))
unfolding lock_calls
locks-by e past s o is = ap (λ (c : Option LockCall). locks_after (cons_option c (lock_calls past s))) is

files-by : (e : Entry) (past : List Entry) (s : ℕ) → none_or is_step (effect_of e s) ≡ true → SameFile (history (e ∷ past) s) (history past s)
files-by e past s step =
    subst (λ (h : List Effect). SameFile h (history past s)) (sym (history-effect e past s (effect_of e s) refl)) (file-option (effect_of e s) (history past s) step)

pub keeps-files : (e : Entry) (past : List Entry) → is_no_change e ≡ true → KeepsFiles past e
keeps-files e past is = record {
  files = λ s. files-by e past s (effect-step e s is);
  locks = λ s. locks-by e past s None (no-lock e s is);
  waiting = queue-other e past (no-post e is);
  next_hold = holds_made-other e past (no-hold e is);
  next_deferral = deferred-other e past (no-defer e is);
}

-- ---- which entries change nothing

-- whether an entry tells that a call was refused, a device or a log failed, or what was answered of a lock
abbrev pub is_telling : Entry → Bool
is_telling (entry.Call pass nth stream call (outcome.Failed error)) = true
is_telling (entry.FillFailed pass page) = true
is_telling (entry.LogFailed pass handle) = true
is_telling (entry.RecordFailed pass stream) = true
is_telling (entry.Locked pass file span exclusive granted id) = true
is_telling (entry.Unlocked pass file id gone) = true
is_telling (entry.Tested pass file span write conflict) = true
is_telling other = false

no-effect : (e : Entry) (s : ℕ) → is_telling e ≡ true → effect_of e s ≡ None
no-effect (entry.Call pass nth (Some stream) call (outcome.Failed error)) s is = refl
no-effect (entry.Call pass nth None call (outcome.Failed error)) s is = refl
no-effect (entry.FillFailed pass page) s is = refl
no-effect (entry.LogFailed pass handle) s is = refl
no-effect (entry.RecordFailed pass stream) s is = refl
no-effect (entry.Locked pass file span exclusive granted id) s is = refl
no-effect (entry.Unlocked pass file id gone) s is = refl
no-effect (entry.Tested pass file span write conflict) s is = refl
no-effect other s is = absurd (cc)

telling-defer : (e : Entry) → is_telling e ≡ true → is_defer e ≡ false
telling-defer (entry.Defer pass id file pages retrying) is = absurd (cc)
telling-defer other is = refl

telling-post : (e : Entry) → is_telling e ≡ true → is_defer_or_post e ≡ false
telling-post (entry.Defer pass id file pages retrying) is = absurd (cc)
telling-post (entry.Posted id) is = absurd (cc)
telling-post other is = refl

telling-hold : (e : Entry) → is_telling e ≡ true → holds_made_by e ≡ 0
telling-hold (entry.Call pass nth stream call (outcome.Done reply)) is = absurd (cc)
telling-hold other is = refl

telling-flush : (e : Entry) → is_telling e ≡ true → is_flushed_entry e ≡ false
telling-flush (entry.Flushed pass handle to) is = absurd (cc)
telling-flush other is = refl

telling-lsn : (e : Entry) → is_telling e ≡ true → gives_lsn e ≡ false
telling-lsn (entry.Flushed pass handle to) is = absurd (cc)
telling-lsn (entry.Append pass handle lsn bytes) is = absurd (cc)
telling-lsn other is = refl

telling-scan : (e : Entry) → is_telling e ≡ true → is_scan e ≡ false
telling-scan (entry.Scan pass picked) is = absurd (cc)
telling-scan other is = refl

records-other : (opening : List ℕ) (e : Entry) (past : List Entry) (s : ℕ) → is_telling e ≡ true → crash_records opening (e ∷ past) s ≡ crash_records opening past s
unfolding crash_records
records-other opening (entry.Record pass stream size valid how) past s is = absurd (cc)
records-other opening (entry.Sync pass stream how) past s is = absurd (cc)
records-other opening other past s is = refl

pages-same : (new old : List Effect) → new ≡ old → SamePages new old
pages-same new old same = record {
  same_unwritten = λ p. ap (λ (h : List Effect). unwritten h p) same;
  same_residents = ap residents same;
  same_order = ap order_of_use same;
  same_transfer = ap open_of same;
  same_images = λ pages p. ap (λ (h : List Effect). image pages h p) same;
  same_crash = λ pages p. ap (λ (h : List Effect). crash_pages pages h p) same;
}

-- such an entry changes nothing where it leaves the locks
pub keeps-all : (e : Entry) (past : List Entry) → is_telling e ≡ true → ((s : ℕ) → locks_of (e ∷ past) s ≡ locks_of past s) → KeepsAll past e
keeps-all e past is locks = record {
  no_file = record {
    files = λ s. file-same _ _ (same s);
    locks = locks;
    waiting = queue-other e past (telling-post e is);
    next_hold = holds_made-other e past (telling-hold e is);
    next_deferral = deferred-other e past (telling-defer e is);
  };
  pages = λ s. pages-same _ _ (same s);
  logs = λ log. record { same_flushed = flushed_to-other e past log (telling-flush e is); same_floor = floor_of-other e past log (telling-lsn e is) };
  records = λ opening s. records-other opening e past s is;
  scans = (last_total-other e past (telling-scan e is), cursor-other e past (telling-scan e is));
}
  where
    same : (s : ℕ) → history (e ∷ past) s ≡ history past s
    same s = history-no_effect e past s (no-effect e s is)

-- and leaves them where it is of no lock
pub keeps-all-unlocked : (e : Entry) (past : List Entry) → is_telling e ≡ true → is_no_change e ≡ true → KeepsAll past e
keeps-all-unlocked e past is kept = keeps-all e past is (λ s. locks-by e past s None (no-lock e s kept))

-- ---- locks that were refused

lock-refused : (table : LockTable) (file : File) (range : Range) (exclusive : Bool) (o : Option ℕ) (id : ℕ) → lock_answer table o ≡ (false, id) → after_lock table file range exclusive o ≡ table
lock-refused table file range exclusive None id is = absurd (cc (ap (λ (x : Bool × ℕ). x.0) is))
lock-refused table file range exclusive (Some other) id is = refl

all-kept : (test : Lock → Bool) (locks : List Lock) → list_any test locks ≡ false → filter (λ l. not (test l)) locks ≡ locks
all-kept test [] none = refl
all-kept test (l ∷ locks) none = rw ((or_parts (test l) _ none).0) (ap (λ (ls : List Lock). l ∷ ls) (all-kept test locks (or_parts (test l) _ none).1))

unlock-refused : (table : LockTable) (file : File) (id : ℕ) → unlock_answer table file id ≡ false → after_unlock table file id ≡ table
unlock-refused table file id none = ap (λ (ls : List Lock). record table { locks = ls }) (all-kept (is_named file id) table.locks none)

pub keeps-locked : (u : Setup) (past : List Entry) (pass : ℕ) (file : File) (span : Range) (exclusive : Bool) (id : ℕ) → MayStand u past (entry.Locked pass file span exclusive false id) → KeepsAll past (entry.Locked pass file span exclusive false id)
keeps-locked u past pass file span exclusive id may = keeps-all e past refl (λ s. by s (file.stream == s) refl)
  where
    e : Entry
    e = entry.Locked pass file span exclusive false id

    by : (s : ℕ) (b : Bool) → (file.stream == s) ≡ b → locks_of (entry.Locked pass file span exclusive false id ∷ past) s ≡ locks_of past s
    by s false other = locks-by (entry.Locked pass file span exclusive false id) past s None (rw other refl)
    by s true same =
        let there : lock_answer (locks_of past s) (lock_conflict (locks_of past s).locks span exclusive) ≡ (false, id) = subst (λ (n : ℕ). lock_answer (locks_of past n) (lock_conflict (locks_of past n).locks span exclusive) ≡ (false, id)) (eqb-true file.stream s same) may in
        locks-by (entry.Locked pass file span exclusive false id) past s (Some (locking.Lock file span exclusive false id)) (rw same refl)
        ∙ lock-refused (locks_of past s) file span exclusive (lock_conflict (locks_of past s).locks span exclusive) id there

pub keeps-unlocked : (u : Setup) (past : List Entry) (pass : ℕ) (file : File) (id : ℕ) → MayStand u past (entry.Unlocked pass file id false) → KeepsAll past (entry.Unlocked pass file id false)
keeps-unlocked u past pass file id may = keeps-all (entry.Unlocked pass file id false) past refl (λ s. by s (file.stream == s) refl)
  where
    by : (s : ℕ) (b : Bool) → (file.stream == s) ≡ b → locks_of (entry.Unlocked pass file id false ∷ past) s ≡ locks_of past s
    by s false other = locks-by (entry.Unlocked pass file id false) past s None (rw other refl)
    by s true same =
        let there : unlock_answer (locks_of past s) file id ≡ false = subst (λ (n : ℕ). unlock_answer (locks_of past n) file id ≡ false) (eqb-true file.stream s same) may in
        locks-by (entry.Unlocked pass file id false) past s (Some (locking.Unlock file id false)) (rw same refl) ∙ unlock-refused (locks_of past s) file id there

pub keeps-tested : (past : List Entry) (pass : ℕ) (file : File) (span : Range) (write : Bool) (conflict : Option ℕ) → KeepsAll past (entry.Tested pass file span write conflict)
keeps-tested past pass file span write conflict = keeps-all-unlocked (entry.Tested pass file span write conflict) past refl refl

pub keeps-refused : (pass nth : ℕ) (stream : Option ℕ) (it : Call) (e : CcError) (past : List Entry) → KeepsAll past (entry.Call pass nth stream it (outcome.Failed e))
keeps-refused pass nth stream it e past = keeps-all-unlocked (entry.Call pass nth stream it (outcome.Failed e)) past refl refl
