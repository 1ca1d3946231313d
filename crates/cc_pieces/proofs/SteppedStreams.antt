-- The journal of a script of steps is of the streams of its script, and where it shows no failure no answer tells one.
use Rattle.std.specs.Prelude.{◌≡◌, ℕ, suc, ◌+◌, ◌<◌, ◌≤◌, Bool, true, false, ◌==◌, ◌&&◌, ◌||◌, nat_le, List, [], ◌∷◌, ◌++◌, length, refl, if◌then◌else◌, IfSome}
use Rattle.std.specs.declared.option.Option.{Option}
use Rattle.std.specs.declared.option.Option.TheVariants.{Some, None}
use Rattle.std.specs.List.{AllByRecursion, cons_option, list_any}
use Rattle.std.proofs.Common.{sym, ap, arith, subst, ◌∙◌, inl, inr, append_assoc}
use Rattle.std.proofs.lemmas.Option.{same_Some}
use Rattle.cc_entry.specs.Place.{File}
use Rattle.cc_entry.specs.Queries.{file_of_query}
use Rattle.cc_entry.specs.Kinds.{is_map, is_pin, is_repin, is_read_chain, is_write_chain}
use Rattle.cc_entry.specs.declared.answer.Answer.{Answer}
use Rattle.cc_entry.specs.declared.answer.Answer.TheVariants as answer
use Rattle.cc_entry.specs.declared.answer.LineReply.{LineReply}
use Rattle.cc_entry.specs.declared.call.Call.{Call}
use Rattle.cc_entry.specs.declared.call.Call.TheVariants as call
use Rattle.cc_entry.specs.declared.entry.End.{End}
use Rattle.cc_entry.specs.declared.entry.Entry.{Entry}
use Rattle.cc_entry.specs.declared.entry.Entry.TheVariants as entry
use Rattle.cc_entry.specs.declared.error.CcError.{CcError}
use Rattle.cc_entry.specs.declared.error.CcError.TheVariants as error
use Rattle.cc_entry.specs.declared.reply.Outcome.TheVariants as outcome
use Rattle.cc_entry.specs.declared.reply.Reply.{Reply}
use Rattle.cc_entry.specs.declared.reply.Reply.TheVariants as reply
use Rattle.cc_script.specs.declared.script.Action.{Action}
use Rattle.cc_script.specs.declared.script.Action.TheVariants as action
use Rattle.cc_script.specs.declared.script.ActionLine.{ActionLine}
use Rattle.cc_script.specs.declared.script.StreamLine.{StreamLine}
use Rattle.cc_model.specs.Acts.{file_of}
use Rattle.cc_model.specs.Allowed.{is_fault}
use Rattle.cc_model.specs.Faults.{Fault, fault_of, faults_since, is_failed, is_failed_log, is_failed_read, is_failed_sync, is_failed_write}
use Rattle.cc_model.specs.Legal.{IsFailure, IsLegal, IsLegalEntry}
use Rattle.cc_model.specs.Logs.{flushed_to}
use Rattle.cc_model.specs.Passes.{calls_of, ends_call_of}
use Rattle.cc_model.specs.Ranges.{first_page}
use Rattle.cc_model.specs.Setup.{Setup}
use Rattle.cc_effects.specs.Events.{Answers, IsWanting, MayFault, MayHappen, call_entry, entries_done, faulted_by, filed_under, read_fault}
use Rattle.cc_effects.specs.declared.events.Event.{Event}
use Rattle.cc_effects.specs.declared.events.Event.TheVariants as event
use Rattle.cc_effects.specs.declared.events.StepReply.{StepReply}
use Rattle.cc_effects.specs.declared.events.StepReply.TheVariants as step
use Rattle.cc_pieces.specs.Bindings.{Binding, hold_named}
use Rattle.cc_pieces.specs.Events.{Doing, Happens, Makes, NamesNone, doing_of, event_by, held_read, on_hold}
use Rattle.cc_pieces.specs.Faultless.{shows_fault, tells_fault}
use Rattle.cc_pieces.specs.Moments.{EventLeft}
use Rattle.cc_pieces.specs.Openings.{first_object_of, opening_call}
use Rattle.cc_pieces.specs.Steps.{EventAnswered, IsSteppedThrough, LineStepped, LinesStepped, LogSetUp, StreamStepped, StreamsStepped, answer_by, bindings_behind, line_event}
use Rattle.cc_pieces.proofs.Faultless.{ShowsNone, TellNone, none-front, tell-append}
use Rattle.cc_pieces.proofs.LeftStreams.{IsActionBelow, IsSound, sound-front}
use Rattle.cc_pieces.proofs.Streams.{AllBelow, IsBelow, IsFileBelow, call-below, file-fits}

-- no fault befell a pass
unfailed : (b : Bool) (how : End) (it : Fault) → is_failed how ≡ false → (if b && is_failed how then Some it else None) ≡ None
unfailed true how it none = rw none refl
unfailed false how it none = refl

fault-none : (me : ℕ) (e : Entry) → shows_fault e ≡ false → fault_of me e ≡ None
fault-none me (entry.FillFailed pass page) none = absurd (cc none)
fault-none me (entry.WriteEnd pass page how) none = unfailed (pass == me) how _ none
fault-none me (entry.Sync pass stream how) none = unfailed (pass == me) how _ none
fault-none me (entry.LogFailed pass handle) none = absurd (cc none)
fault-none me other none = refl

no-faults : (past : List Entry) (me : ℕ) → ShowsNone past → faults_since past me ≡ []
unfolding faults_since
no-faults [] me none = refl
no-faults (e ∷ past) me none = by (ends_call_of me e) (no-faults past me none.1)
  where
    by : (b : Bool) → faults_since past me ≡ [] → ◌≡◌ {A = List Fault} (elim b [ true ↦ [] | false ↦ cons_option (fault_of me e) (faults_since past me) ]) []
    by true rest = refl
    by false rest = rw (fault-none me e none.0) rest

none-among : (test : Fault → Bool) (faults : List Fault) → faults ≡ [] → list_any test faults ≡ true → ⊥
none-among test [] none is = absurd (cc is)
none-among test (fault ∷ faults) none is = absurd (cc none)

none-either : (test other : Fault → Bool) (b : Bool) (faults : List Fault) → faults ≡ [] → (list_any test faults || (list_any other faults && b)) ≡ true → ⊥
none-either test other b [] none is = absurd (cc is)
none-either test other b (fault ∷ faults) none is = absurd (cc none)

none-failed : (u : Setup) (past : List Entry) (pass : ℕ) (stream : Option ℕ) (it : Call) (e : CcError) → faults_since past pass ≡ [] → IsFailure u past pass stream it e → is_fault e ≡ false
none-failed u past pass stream it (error.ReadFault page) none is = absurd (none-among (is_failed_read page) (faults_since past pass) none is.0)
none-failed u past pass stream it (error.WriteFault page) none is = absurd (none-either (is_failed_write page) is_failed_sync (page == first_page it) (faults_since past pass) none is.0)
none-failed u past pass stream it (error.LogFault handle) none is = absurd (none-among (is_failed_log handle) (faults_since past pass) none is.0)
none-failed u past pass stream it other none is = refl

-- in a legal journal that shows no failure no call tells one
failed-legal : (u : Setup) (past : List Entry) (pass nth : ℕ) (stream : Option ℕ) (it : Call) (e : CcError) → IsLegal u (entry.Call pass nth stream it (outcome.Failed e) ∷ past) → ShowsNone past → is_fault e ≡ false
unfolding IsLegal IsLegalEntry
failed-legal u past pass nth stream it e legal none = none-failed u past pass stream it e (no-faults past pass none) legal.0

-- From one moment to another the journal grew: it stays of the first streams, and where it shows no failure this is so.
record IsGone (u : Setup) (n : ℕ) (Told : Type 0) (old new : List Entry) : Type 0 where
  during : List Entry
  grew : new ≡ during ++ old
  below : IsSound u new → AllBelow n u.logs old → AllBelow n u.logs new
  told : IsSound u new → ShowsNone new → Told

gone-none : (u : Setup) (n : ℕ) (Told : Type 0) (old new : List Entry) → new ≡ old → Told → IsGone u n Told old new
gone-none u n Told old new same told = record {
  during = [];
  grew = same;
  below = λ sound all. subst (AllBelow n u.logs) (sym same) all;
  told = λ sound none. told;
}

gone-then : (u : Setup) (n : ℕ) (Told More : Type 0) (old between new : List Entry) → IsGone u n Told old between → IsGone u n More between new → IsGone u n (Told × More) old new
gone-then u n Told More old between new first second = record {
  during = second.during ++ first.during;
  grew = second.grew ∙ (ap (λ l. second.during ++ l) first.grew ∙ sym (append_assoc second.during first.during old));
  below = λ sound all. second.below sound (first.below (front sound) all);
  told = λ sound none. (first.told (front sound) (none-front second.during between (subst ShowsNone second.grew none)), second.told sound none);
}
  where
    front : IsSound u new → IsSound u between
    front sound = sound-front u second.during between (subst (IsSound u) second.grew sound)

gone-as : (u : Setup) (n : ℕ) (Told More : Type 0) (old new : List Entry) → (Told → More) → IsGone u n Told old new → IsGone u n More old new
gone-as u n Told More old new so gone = record {
  during = gone.during;
  grew = gone.grew;
  below = gone.below;
  told = λ sound none. so (gone.told sound none);
}

-- entries that were added
below-more : (n logs : ℕ) (added old : List Entry) → AllBelow n logs added → AllBelow n logs old → AllBelow n logs (added ++ old)
below-more n logs [] old these all = all
below-more n logs (e ∷ added) old these all = (these.0, below-more n logs added old these.1 all)

-- an event is of one of the first streams, or of none
abbrev IsEventBelow : ℕ → Event (Unit {0}) → Type 0
IsEventBelow n (event.Fill pass page) = page.stream < n
IsEventBelow n (event.Drop page) = page.stream < n
IsEventBelow n (event.WriteBegin pass page) = page.stream < n
IsEventBelow n (event.WriteEnd page) = page.stream < n
IsEventBelow n (event.Sync pass stream) = stream < n
IsEventBelow n (event.Do pass it) = IsFileBelow n (file_of it)
IsEventBelow n other = Unit {0}

one-below : (n logs : ℕ) (added : List Entry) (e : Entry) → added ≡ e ∷ [] → IsBelow n logs e → AllBelow n logs added
one-below n logs added e is below = subst (AllBelow n logs) (sym is) (below, tt)

none-below : (n logs : ℕ) (added : List Entry) → added ≡ [] → AllBelow n logs added
none-below n logs added is = subst (AllBelow n logs) (sym is) tt

failed-below : (n logs pass nth : ℕ) (stream : Option ℕ) (it : Call) (e : CcError) → IsBelow n logs (entry.Call pass nth stream it (outcome.Failed e))
failed-below n logs pass nth None it e = tt
failed-below n logs pass nth (Some s) it e = tt

flushed-below : (n logs : ℕ) (b : Bool) (pass handle to : ℕ) → AllBelow n logs (if b then [] else entry.Flushed pass handle to ∷ [])
flushed-below n logs true pass handle to = tt
flushed-below n logs false pass handle to = (tt, tt)

module _ (u : Setup) (n : ℕ) (past : List Entry) (all : AllBelow n u.logs past) where
  done-below : (pass : ℕ) (it : Call) (r : Reply) → IsFileBelow n (file_of it) → MayHappen {Q = Unit {0}} u past (event.Do pass it) → AllBelow n u.logs (entries_done past pass it r)
  done-below pass (call.NcStore file page bytes) r below may =
      (below, (call-below n u.logs pass (suc (calls_of past pass)) (filed_under past (call.NcStore file page bytes)) (call.NcStore file page bytes) (outcome.Done r) past may.filed below all, tt))
  done-below pass it r below may = (call-below n u.logs pass (suc (calls_of past pass)) (filed_under past it) it (outcome.Done r) past may.filed (file-fits n it below) all, tt)

  answers-below : (it : Event (Unit {0})) (r : StepReply (Unit {0})) (added : List Entry) → IsEventBelow n it → MayHappen u past it → Answers u past it r added → AllBelow n u.logs added
  answers-below (event.Fill pass page) (step.Done reply.Unit) added below may a = one-below n u.logs added _ a below
  answers-below (event.Fill pass page) other added below may a = absurd a
  answers-below (event.Drop page) (step.Done reply.Unit) added below may a = one-below n u.logs added _ a below
  answers-below (event.Drop page) other added below may a = absurd a
  answers-below (event.WriteBegin pass page) (step.Done reply.Unit) added below may a = one-below n u.logs added _ a below
  answers-below (event.WriteBegin pass page) other added below may a = absurd a
  answers-below (event.WriteEnd page) (step.Done reply.Unit) added below may a = one-below n u.logs added _ a below
  answers-below (event.WriteEnd page) other added below may a = absurd a
  answers-below (event.Sync pass stream) (step.Done reply.Unit) added below may a = one-below n u.logs added _ a below
  answers-below (event.Sync pass stream) other added below may a = absurd a
  answers-below (event.Do pass it) (step.Done r) added below may a = subst (AllBelow n u.logs) (sym a.1) (done-below pass it r below may)
  answers-below (event.Do pass it) (step.Refused e) added below may a = one-below n u.logs added _ a.1 (failed-below n u.logs pass (suc (calls_of past pass)) (filed_under past it) it e)
  answers-below (event.Do pass it) other added below may a = absurd a
  answers-below (event.Fail pass it) (step.Refused e) added below may a = one-below n u.logs added _ a.0 (failed-below n u.logs pass (suc (calls_of past pass)) (filed_under past it) it e)
  answers-below (event.Fail pass it) other added below may a = absurd a
  answers-below (event.Append pass handle bytes) (step.NewLsn lsn) added below may a = one-below n u.logs added _ a.2 tt
  answers-below (event.Append pass handle bytes) (step.Refused (error.NoLog missing)) added below may a = none-below n u.logs added a.2
  answers-below (event.Append pass handle bytes) (step.Refused (error.LogFull full)) added below may a = none-below n u.logs added a.3
  answers-below (event.Append pass handle bytes) other added below may a = absurd a
  answers-below (event.LogFlush pass handle to) (step.Done reply.Unit) added below may a =
      subst (AllBelow n u.logs) (sym a.1) (flushed-below n u.logs _ pass handle to)
  answers-below (event.LogFlush pass handle to) (step.Refused (error.NoLog missing)) added below may a = none-below n u.logs added a.2
  answers-below (event.LogFlush pass handle to) other added below may a = absurd a
  answers-below (event.Scan pass) (step.Done reply.Unit) added below may a = one-below n u.logs added _ a tt
  answers-below (event.Scan pass) other added below may a = absurd a
  answers-below (event.Defer pass file bytes retrying routine) (step.Deferred id) added below may a = one-below n u.logs added _ a.1 tt
  answers-below (event.Defer pass file bytes retrying routine) (step.Refused error.NotCached) added below may a = none-below n u.logs added a.1
  answers-below (event.Defer pass file bytes retrying routine) (step.Refused error.QueueFull) added below may a = none-below n u.logs added a.2
  answers-below (event.Defer pass file bytes retrying routine) other added below may a = absurd a
  answers-below (event.Post pass) (step.Posted (Some posted)) added below may a = one-below n u.logs added _ a tt
  answers-below (event.Post pass) (step.Posted None) added below may a = none-below n u.logs added a.1
  answers-below (event.Post pass) other added below may a = absurd a

  some-entry-below : (o e : Entry) → IsBelow n u.logs o → Some o ≡ Some e → IsBelow n u.logs e
  some-entry-below o e below is = subst (λ (x : Entry). IsBelow n u.logs x) (same_Some o e is) below

  none-entry-below : (e : Entry) → None ≡ Some e → IsBelow n u.logs e
  none-entry-below e is = absurd (cc is)

  read-fault-below : (pass : ℕ) (it : Call) (e : Entry) → IsFileBelow n (file_of it) → read_fault pass it ≡ Some e → IsBelow n u.logs e
  read-fault-below pass (call.NcRead file page) e below is = some-entry-below _ e below is
  read-fault-below pass other e below is = none-entry-below e is

  flush-fault-below : (b : Bool) (pass handle : ℕ) (e : Entry) → handle < u.logs → (if b then None else Some (entry.LogFailed pass handle)) ≡ Some e → IsBelow n u.logs e
  flush-fault-below true pass handle e low is = none-entry-below e is
  flush-fault-below false pass handle e low is = some-entry-below _ e low is

  faulted-below : (it : Event (Unit {0})) (e : Entry) → IsEventBelow n it → MayFault u past it → faulted_by past it ≡ Some e → IsBelow n u.logs e
  faulted-below (event.Fill pass page) e below may is = some-entry-below _ e below is
  faulted-below (event.Drop page) e below may is = none-entry-below e is
  faulted-below (event.WriteBegin pass page) e below may is = none-entry-below e is
  faulted-below (event.WriteEnd page) e below may is = some-entry-below _ e below is
  faulted-below (event.Sync pass stream) e below may is = some-entry-below _ e below is
  faulted-below (event.Do pass it) e below may is = read-fault-below pass it e below is
  faulted-below (event.Fail pass it) e below may is = none-entry-below e is
  faulted-below (event.Append pass handle bytes) e below may is = some-entry-below _ e may.0 is
  faulted-below (event.LogFlush pass handle to) e below may is = flush-fault-below (nat_le to (flushed_to past handle)) pass handle e may.0 is
  faulted-below (event.Scan pass) e below may is = none-entry-below e is
  faulted-below (event.Defer pass file bytes retrying routine) e below may is = none-entry-below e is
  faulted-below (event.Post pass) e below may is = none-entry-below e is

  wanting-below : (it : Event (Unit {0})) (added : List Entry) → IsEventBelow n it → IsWanting past it added → AllBelow n u.logs added
  wanting-below (event.WriteEnd page) added below wants = one-below n u.logs added _ wants below
  wanting-below (event.Sync pass stream) added below (inl synced) = one-below n u.logs added _ synced below
  wanting-below (event.Sync pass stream) added below (inr none) = none-below n u.logs added none
  wanting-below other added below wants = none-below n u.logs added wants

-- the entry of an event's failure shows it
some-shown : (o e : Entry) → shows_fault o ≡ true → Some o ≡ Some e → shows_fault e ≡ true
some-shown o e shown is = subst (λ (x : Entry). shows_fault x ≡ true) (same_Some o e is) shown

none-shown : (e : Entry) → None ≡ Some e → shows_fault e ≡ true
none-shown e is = absurd (cc is)

read-shown : (pass : ℕ) (it : Call) (e : Entry) → read_fault pass it ≡ Some e → shows_fault e ≡ true
read-shown pass (call.NcRead file page) e is = some-shown _ e refl is
read-shown pass other e is = none-shown e is

flush-shown : (b : Bool) (pass handle : ℕ) (e : Entry) → (if b then None else Some (entry.LogFailed pass handle)) ≡ Some e → shows_fault e ≡ true
flush-shown true pass handle e is = none-shown e is
flush-shown false pass handle e is = some-shown _ e refl is

faulted-shown : (past : List Entry) (it : Event (Unit {0})) (e : Entry) → faulted_by past it ≡ Some e → shows_fault e ≡ true
faulted-shown past (event.Fill pass page) e is = some-shown _ e refl is
faulted-shown past (event.Drop page) e is = none-shown e is
faulted-shown past (event.WriteBegin pass page) e is = none-shown e is
faulted-shown past (event.WriteEnd page) e is = some-shown _ e refl is
faulted-shown past (event.Sync pass stream) e is = some-shown _ e refl is
faulted-shown past (event.Do pass it) e is = read-shown pass it e is
faulted-shown past (event.Fail pass it) e is = none-shown e is
faulted-shown past (event.Append pass handle bytes) e is = some-shown _ e refl is
faulted-shown past (event.LogFlush pass handle to) e is = flush-shown (nat_le to (flushed_to past handle)) pass handle e is
faulted-shown past (event.Scan pass) e is = none-shown e is
faulted-shown past (event.Defer pass file bytes retrying routine) e is = none-shown e is
faulted-shown past (event.Post pass) e is = none-shown e is

-- a refused event tells no fault, where none is shown
call-refused-none : (u : Setup) (past new : List Entry) (pass : ℕ) (it : Call) (e : CcError) (added : List Entry) → added ≡ call_entry past pass it (outcome.Failed e) ∷ [] → new ≡ added ++ past → IsSound u new → ShowsNone new → is_fault e ≡ false
call-refused-none u past new pass it e added is grew sound none =
    let at_end : new ≡ call_entry past pass it (outcome.Failed e) ∷ past = rw is at grew in
    failed-legal u past pass _ (filed_under past it) it e (subst (IsSound u) at_end sound).0 (subst ShowsNone at_end none).1

refused-none : (u : Setup) (past new : List Entry) (it : Event (Unit {0})) (e : CcError) (added : List Entry) → Answers u past it (step.Refused e) added → new ≡ added ++ past → IsSound u new → ShowsNone new → is_fault e ≡ false
refused-none u past new (event.Do pass it) e added a grew sound none = call-refused-none u past new pass it e added a.1 grew sound none
refused-none u past new (event.Fail pass it) e added a grew sound none = call-refused-none u past new pass it e added a.0 grew sound none
refused-none u past new (event.Append pass handle bytes) (error.NoLog missing) added a grew sound none = refl
refused-none u past new (event.Append pass handle bytes) (error.LogFull full) added a grew sound none = refl
refused-none u past new (event.Append pass handle bytes) other added a grew sound none = absurd a
refused-none u past new (event.LogFlush pass handle to) (error.NoLog missing) added a grew sound none = refl
refused-none u past new (event.LogFlush pass handle to) other added a grew sound none = absurd a
refused-none u past new (event.Defer pass file bytes retrying routine) error.NotCached added a grew sound none = refl
refused-none u past new (event.Defer pass file bytes retrying routine) error.QueueFull added a grew sound none = refl
refused-none u past new (event.Defer pass file bytes retrying routine) other added a grew sound none = absurd a
refused-none u past new (event.Fill pass page) e added a grew sound none = absurd a
refused-none u past new (event.Drop page) e added a grew sound none = absurd a
refused-none u past new (event.WriteBegin pass page) e added a grew sound none = absurd a
refused-none u past new (event.WriteEnd page) e added a grew sound none = absurd a
refused-none u past new (event.Sync pass stream) e added a grew sound none = absurd a
refused-none u past new (event.Scan pass) e added a grew sound none = absurd a
refused-none u past new (event.Post pass) e added a grew sound none = absurd a

kept-none : (u : Setup) (past : List Entry) (it : Event (Unit {0})) (e : CcError) (added : List Entry) → Answers u past it (step.Kept tt e) added → ⊥
kept-none u past (event.Fill pass page) e added a = a
kept-none u past (event.Drop page) e added a = a
kept-none u past (event.WriteBegin pass page) e added a = a
kept-none u past (event.WriteEnd page) e added a = a
kept-none u past (event.Sync pass stream) e added a = a
kept-none u past (event.Do pass it) e added a = a
kept-none u past (event.Fail pass it) e added a = a
kept-none u past (event.Append pass handle bytes) e added a = a
kept-none u past (event.LogFlush pass handle to) e added a = a
kept-none u past (event.Scan pass) e added a = a
kept-none u past (event.Defer pass file bytes retrying routine) e added a = a
kept-none u past (event.Post pass) e added a = a

module _ (u : Setup) (n : ℕ) where
  gone-placed : (it : Event (Unit {0})) (r : StepReply (Unit {0})) (old new : List Entry) (Told : Type 0) → IsEventBelow n it → MayHappen u old it → (added : List Entry) → Answers u old it r added → new ≡ added ++ old → (IsSound u new → ShowsNone new → Told) → IsGone u n Told old new
  gone-placed it r old new Told below may added answers grew told = record {
    during = added;
    grew = grew;
    below = λ sound all. subst (AllBelow n u.logs) (sym grew) (below-more n u.logs added old (answers-below u n old all it r added below may answers) all);
    told = told;
  }

  gone-event : (it : Event (Unit {0})) (r : StepReply (Unit {0})) (old new : List Entry) → IsEventBelow n it → EventLeft u it r old new → IsGone u n (tells_fault (answer_by r) ≡ false) old new
  gone-event it step.NotNow old new below left = gone-none u n _ old new left.1 refl
  gone-event it step.Faulted old new below left = record {
    during = left.3.0 ∷ [];
    grew = left.3.2;
    below = λ sound all. subst (AllBelow n u.logs) (sym left.3.2) (faulted-below u n old all it left.3.0 below left.2 left.3.1, all);
    told = λ sound none. absurd (cc ((subst ShowsNone left.3.2 none).0, faulted-shown old it left.3.0 left.3.1));
  }
  gone-event it (step.Refused (error.JournalFull entries)) old new below left = gone-none u n _ old new left.3 refl
  gone-event it (step.Refused error.NoMemory) old new below left = record {
    during = left.0;
    grew = left.2;
    below = λ sound all. subst (AllBelow n u.logs) (sym left.2) (below-more n u.logs left.0 old (wanting-below u n old all it left.0 below left.1) all);
    told = λ sound none. refl;
  }
  gone-event it (step.Refused e) old new below left = gone-placed it (step.Refused e) old new (tells_fault (answer_by {Q = Unit {0}} (step.Refused e)) ≡ false) below left.0 left.2.0 left.2.1 left.2.2 (λ sound none. refused-none u old new it e left.2.0 left.2.1 left.2.2 sound none)
  gone-event it (step.Kept routine e) old new below left = absurd (kept-none u old it e left.2.0 left.2.1)
  gone-event it (step.Done r) old new below left = gone-placed it (step.Done r) old new (tells_fault (answer_by {Q = Unit {0}} (step.Done r)) ≡ false) below left.0 left.2.0 left.2.1 left.2.2 (λ sound none. refl)
  gone-event it (step.NewLsn lsn) old new below left = gone-placed it (step.NewLsn lsn) old new (tells_fault (answer_by {Q = Unit {0}} (step.NewLsn lsn)) ≡ false) below left.0 left.2.0 left.2.1 left.2.2 (λ sound none. refl)
  gone-event it (step.Deferred id) old new below left = gone-placed it (step.Deferred id) old new (tells_fault (answer_by {Q = Unit {0}} (step.Deferred id)) ≡ false) below left.0 left.2.0 left.2.1 left.2.2 (λ sound none. refl)
  gone-event it (step.Posted None) old new below left = gone-placed it (step.Posted None) old new (tells_fault (answer_by {Q = Unit {0}} (step.Posted None)) ≡ false) below left.0 left.2.0 left.2.1 left.2.2 (λ sound none. refl)
  gone-event it (step.Posted (Some posted)) old new below left = gone-placed it (step.Posted (Some posted)) old new (tells_fault (answer_by {Q = Unit {0}} (step.Posted (Some posted))) ≡ false) below left.0 left.2.0 left.2.1 left.2.2 (λ sound none. refl)

  gone-answered : (it : Event (Unit {0})) (told : Answer) (old new : List Entry) → IsEventBelow n it → EventAnswered u it told old new → IsGone u n (tells_fault told ≡ false) old new
  gone-answered it told old new below is =
      gone-as u n _ _ old new (λ none. ap tells_fault is.answer_is ∙ none) (gone-event it is.reply old new below is.left)

  -- what a line is, by the first streams
  abbrev IsDoingBelow : Doing → Type 0
  IsDoingBelow (Happens it) = IsEventBelow n it
  IsDoingBelow (Makes it) = IsFileBelow n (file_of it)
  IsDoingBelow NamesNone = Unit {0}

  on-hold-below : (o : Option ℕ) (call_on : ℕ → Call) → ((id : ℕ) → IsFileBelow n (file_of (call_on id))) → IsDoingBelow (on_hold o call_on)
  on-hold-below None call_on below = tt
  on-hold-below (Some id) call_on below = below id

  held-read-below : (mapped pinned : Option ℕ) (at len : ℕ) → IsDoingBelow (held_read mapped pinned at len)
  held-read-below (Some id) pinned at len = tt
  held-read-below None None at len = tt
  held-read-below None (Some id) at len = tt

  doing-below : (me : ℕ) (bindings : List Binding) (asked : Action) → IsActionBelow n asked → IsDoingBelow (doing_of me bindings asked)
  doing-below me bindings (action.PinMapped word exclusive) below = on-hold-below (hold_named bindings word is_map) (λ id. call.PinMapped id exclusive) (λ id. tt)
  doing-below me bindings (action.HeldRead word at len) below = held-read-below (hold_named bindings word is_map) (hold_named bindings word is_pin) at len
  doing-below me bindings (action.PinnedWrite word at bytes) below = on-hold-below (hold_named bindings word is_pin) (λ id. call.PinnedWrite id at bytes) (λ id. tt)
  doing-below me bindings (action.SetDirty word lsn) below = on-hold-below (hold_named bindings word is_pin) (λ id. call.SetDirty id lsn) (λ id. tt)
  doing-below me bindings (action.Unpin word) below = on-hold-below (hold_named bindings word (λ its_kind. is_map its_kind || is_pin its_kind)) (λ id. call.EndHold id) (λ id. tt)
  doing-below me bindings (action.Repin word made) below = on-hold-below (hold_named bindings word is_pin) (λ id. call.Repin id) (λ id. tt)
  doing-below me bindings (action.UnpinRepinned word through) below = on-hold-below (hold_named bindings word is_repin) (λ id. call.EndHold id) (λ id. tt)
  doing-below me bindings (action.MdlBytes word at len) below = on-hold-below (hold_named bindings word is_read_chain) (λ id. call.MdlBytes id at len) (λ id. tt)
  doing-below me bindings (action.MdlStore word at bytes) below = on-hold-below (hold_named bindings word is_write_chain) (λ id. call.MdlStore id at bytes) (λ id. tt)
  doing-below me bindings (action.MdlDone word) below = on-hold-below (hold_named bindings word (λ its_kind. is_read_chain its_kind || is_write_chain its_kind)) (λ id. call.EndHold id) (λ id. tt)
  doing-below me bindings (action.MdlAbort word) below = on-hold-below (hold_named bindings word is_write_chain) (λ id. call.EndHold id) (λ id. tt)
  doing-below me bindings (action.NcRead file at len) below = tt
  doing-below me bindings (action.NcWrite file at bytes) below = tt
  doing-below me bindings (action.Read file path at len) below = tt
  doing-below me bindings (action.Write file at bytes) below = tt
  doing-below me bindings (action.Update file at bytes) below = tt
  doing-below me bindings (action.Lock file span exclusive) below = tt
  doing-below me bindings (action.Unlock file id) below = tt
  doing-below me bindings (action.Levels file) below = tt
  doing-below me bindings (action.Settle file) below = tt
  doing-below me bindings (action.Checkpoint streams handle) below = tt
  doing-below me bindings (action.AskAhead file at len) below = tt
  doing-below me bindings action.AheadStep below = tt
  doing-below me bindings (action.AsyncRead file at len) below = tt
  doing-below me bindings action.Complete below = tt
  doing-below me bindings action.Tick below = tt
  doing-below me bindings (action.Query asked) below = by (file_of_query asked) below
    where
      by : (named : Option File) → IfSome named (λ file. file.stream < n) → IsFileBelow n named
      by None below = tt
      by (Some file) below = below
  doing-below me bindings (action.Append handle bytes) below = tt
  doing-below me bindings (action.LogFlush handle lsn) below = tt
  doing-below me bindings action.Scan below = tt
  doing-below me bindings (action.Defer file bytes retrying) below = tt
  doing-below me bindings action.Post below = tt
  doing-below me bindings other below = below

  abbrev IsOptionBelow : Option (Event (Unit {0})) → Type 0
  IsOptionBelow None = Unit {0}
  IsOptionBelow (Some it) = IsEventBelow n it

  event-by-below : (me : ℕ) (fails : Bool) (doing : Doing) → IsDoingBelow doing → IsOptionBelow (event_by me fails doing)
  event-by-below me fails (Happens it) below = below
  event-by-below me false (Makes it) below = below
  event-by-below me true (Makes it) below = tt
  event-by-below me fails NamesNone below = tt

  gone-line : (o : Option (Event (Unit {0}))) (told : Answer) (old new : List Entry) → IsOptionBelow o → LineStepped u o told old new → IsGone u n (tells_fault told ≡ false) old new
  gone-line None told old new below is = gone-none u n _ old new is.1 (ap tells_fault is.0)
  gone-line (Some it) told old new below is = gone-answered it told old new below is

  gone-lines : (bindings : ℕ → List Binding) (lines : List ActionLine) (replies : List LineReply) (old new : List Entry) → AllByRecursion (λ line. IsActionBelow n line.action) lines → LinesStepped u bindings lines replies old new → IsGone u n (TellNone replies) old new
  gone-lines bindings [] [] old new within is = gone-none u n _ old new is tt
  gone-lines bindings [] (reply ∷ replies) old new within is = absurd is
  gone-lines bindings (line ∷ lines) [] old new within is = absurd is
  gone-lines bindings (line ∷ lines) (reply ∷ replies) old new within is =
      gone-then u n _ _ old is.0 new
      (gone-line (line_event (bindings line.caller) line) reply.answer old is.0 (event-by-below line.caller line.fails _ (doing-below line.caller (bindings line.caller) line.action within.0)) is.2)
      (gone-lines (bindings_behind line reply.answer bindings) lines replies is.0 new within.1 is.3)

  gone-log : (s handle : ℕ) (first told : Answer) (old new : List Entry) → s < n → LogSetUp u s handle first told old new → IsGone u n (tells_fault first ≡ false → tells_fault told ≡ false) old new
  gone-log s handle (answer.Given reply.Unit) told old new low is =
      gone-as u n _ _ old new (λ none first. none) (gone-answered (event.Do 0 (call.SetLog (first_object_of s) handle)) told old new low is)
  gone-log s handle first told old new low is = gone-none u n _ old new is.1 (λ none. ap tells_fault is.0 ∙ none)

  gone-stream : (s : ℕ) (stream : StreamLine) (log : Option ℕ) (told : Answer) (old new : List Entry) → s < n → StreamStepped u s stream log told old new → IsGone u n (tells_fault told ≡ false) old new
  gone-stream s stream None told old new low is = gone-answered (event.Do 0 (opening_call s stream)) told old new low is
  gone-stream s stream (Some handle) told old new low is =
      gone-as u n _ _ old new (λ both. both.1 both.0)
      (gone-then u n _ _ old is.1 new (gone-answered (event.Do 0 (opening_call s stream)) is.0 old is.1 low is.2) (gone-log s handle is.0 told is.1 new low is.3))

  gone-streams : (s : ℕ) (streams : List StreamLine) (replies : List LineReply) (old new : List Entry) → s + length streams ≤ n → StreamsStepped u s streams replies old new → IsGone u n (TellNone replies) old new
  gone-streams s [] [] old new few is = gone-none u n _ old new is tt
  gone-streams s [] (reply ∷ replies) old new few is = absurd is
  gone-streams s (stream ∷ streams) [] old new few is = absurd is
  gone-streams s (stream ∷ streams) (reply ∷ replies) old new few is =
      gone-then u n _ _ old is.0 new (gone-stream s stream stream.log reply.answer old is.0 (omega (arith, few)) is.2)
      (gone-streams (suc s) streams replies is.0 new (omega (arith, few)) is.3)

  gone-through : (streams : List StreamLine) (lines : List ActionLine) (replies : List LineReply) (past : List Entry) → length streams ≤ n → AllByRecursion (λ line. IsActionBelow n line.action) lines → IsSteppedThrough u streams lines replies past → IsGone u n (TellNone replies) [] past
  gone-through streams lines replies past few within is =
      gone-as u n _ _ [] past (λ both. subst TellNone (sym is.replies_are) (tell-append is.setup is.answers both.0 both.1))
      (gone-then u n _ _ [] is.begun past (gone-streams 0 streams is.setup [] is.begun (omega (arith, few)) is.opened) (gone-lines (λ me. []) lines is.answers is.begun past within is.stepped))

-- Each entry of the journal of a script of steps is of a stream of it, and each log that failed is one of the run.
pub stepped-below : (u : Setup) (n : ℕ) (streams : List StreamLine) (lines : List ActionLine) (replies : List LineReply) (past : List Entry) → length streams ≤ n → AllByRecursion (λ line. IsActionBelow n line.action) lines → IsSound u past → IsSteppedThrough u streams lines replies past → AllBelow n u.logs past
stepped-below u n streams lines replies past few within sound is = (gone-through u n streams lines replies past few within is).below sound tt

-- Where it shows no failure, no answer tells one.
pub stepped-none : (u : Setup) (n : ℕ) (streams : List StreamLine) (lines : List ActionLine) (replies : List LineReply) (past : List Entry) → length streams ≤ n → AllByRecursion (λ line. IsActionBelow n line.action) lines → IsSound u past → IsSteppedThrough u streams lines replies past → ShowsNone past → TellNone replies
stepped-none u n streams lines replies past few within sound is none = (gone-through u n streams lines replies past few within is).told sound none
